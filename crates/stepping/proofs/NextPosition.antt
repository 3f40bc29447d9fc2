-- The next position by its two sides: what the code computes from the lowest descent is the position of the next rank. Assumes nothing.
use mathlib.Core.Path.{◌≡◌, refl, sym, ap, ap₂, ◌∙◌, subst}
use Prim.Native.Nat.{ℕ, zero, suc, ◌+◌, ◌-◌, ◌*◌, ◌/◌, ◌^◌, ◌≤◌, ◌<◌}
use native.Mathlib.Numerals.{add-one}
use native.Mathlib.Omega.{arith}
use lib.Dec.{eqb, ltb}
use lib.ListN.{length, get_or, take}
use Rattle.sets.specs.Sets.{has, members}
use Rattle.board.specs.declared.Position.{Position}
use Rattle.board.specs.Board.{count, digit, set_of, position_of, board_of, OnBoard}
use Rattle.board.proofs.Sides.{digit_lt, length_board, board_values, position_sides, board_position, on_board}
use Rattle.board.proofs.OneToOne.{mover_set_lem, opponent_set}
use Rattle.sizes.specs.Size.{size}
use Rattle.ranking.specs.Rank.{rank}
use Rattle.ranking.specs.Unrank.{unrank}
use Rattle.ranking.proofs.Inverse.{rank_unrank, unrank_one}
use Rattle.stepping.proofs.Following.{Raised, raise, next_board, next_few, next_board_lem}
use Rattle.stepping.proofs.BoardSets.{mover_low, opponent_low, next_set}
use Rattle.board.proofs.Counts.{count_members}
use Rattle.stepping.proofs.Descents.{Descent}

-- a side whose points up to p change, as `side` has it
abbrev pub changed : ℕ → ℕ → ℕ → ℕ → ℕ → ℕ
changed s p here n start = (2 ^ n - 1) * 2 ^ start + (here * 2 ^ p + s / 2 ^ (p + 1) * 2 ^ (p + 1))

abbrev pub sides : ℕ → ℕ → Position
sides mover opponent = record { mover = mover; opponent = opponent }

-- with x, m and o at and below p, and one = 1 where p takes a 1
pub record Stepped (points : ℕ) (position : Position) (p x m o one : ℕ) : Type 0 where
  pub one_le : one ≤ 1
  pub mover_left : one ≤ m + x
  pub opponent_left : 1 ≤ o + one
  pub few : m + x - one + (o + one - 1) ≤ p
  pub is_next : sides (changed position.mover p one (m + x - one) (o + one - 1)) (changed position.opponent p (1 - one) (o + one - 1) 0)
      ≡ position_of (unrank points (count 1 (board_of points position)) (count 2 (board_of points position)) (suc (rank (board_of points position))))

-- which side has the stone at p
new_digits : (one : ℕ) → one ≤ 1 → (digit (eqb (2 - one) 1) ≡ one) × (digit (eqb (2 - one) 2) ≡ 1 - one)
new_digits zero h = (refl, refl)
new_digits (suc zero) h = (refl, refl)
new_digits (suc (suc n)) h = absurd (omega arith)

-- a 1 goes up to p only where there is one below
some_le : (m : ℕ) → digit (ltb 0 m) ≤ m
some_le zero = omega arith
some_le (suc m) = omega (arith, digit_lt (ltb 0 (suc m)))

one_or_none : (x m one : ℕ) → x ≤ 1 → one ≡ (1 - x) * digit (ltb 0 m) → (one ≤ 1) × (one ≤ m)
one_or_none zero m one h e = omega (arith, digit_lt (ltb 0 m), some_le m)
one_or_none (suc zero) m one h e = omega arith
one_or_none (suc (suc x)) m one h e = absurd (omega arith)

pub stepped : (points : ℕ) (position : Position) (p x m o one : ℕ) → OnBoard points position → Descent points position p
    → x ≡ digit (has position.mover p) → m ≡ members position.mover p → o ≡ members position.opponent p → one ≡ (1 - x) * digit (ltb 0 m)
    → Stepped points position p x m o one
stepped points position p x m o one w d ex em eo e =
    let b = board_of points position in
    let vs = board_values points position w in
    let l : p < length b = omega (arith, d.low, length_board points position) in
    let lx : x ≤ 1 = omega (arith, digit_lt (has position.mover p)) in
    let le = one_or_none x m one lx e in
    let cm : count 1 (take p b) ≡ m = count_members 1 b p (omega arith) ∙ ap (λ (s : ℕ). members s p) (mover_set_lem points position w) ∙ sym em in
    let co : count 2 (take p b) ≡ o = count_members 2 b p (omega arith) ∙ ap (λ (s : ℕ). members s p) (opponent_set points position w) ∙ sym eo in
    let cx : get_or b p 0 ≡ x = d.value ∙ sym ex in
    let some : 0 < o + one = rw (← co, e, ex, ← cm) d.some in
    let raised : Raised (get_or b p 0) (count 1 (take p b)) (count 2 (take p b)) (2 - one) (m + x - one) (o + one - 1) =
    rw (cx, cm, co) (raise x m o one lx e some) in
    let m' : ℕ = m + x - one in
    let o' : ℕ = o + one - 1 in
    let z : ℕ = p - (m' + o') in
    let few : m' + o' ≤ p = next_few b p (2 - one) m' o' vs l raised in
    let c = next_board b p (2 - one) m' o' in
    let s1 : set_of 1 c ≡ changed position.mover p one m' o' =
    next_set 1 b p (2 - one) m' o' few ∙ rw (mover_low z m' o', (new_digits one le.0).0, mover_set_lem points position w) in
    let s2 : set_of 2 c ≡ changed position.opponent p (1 - one) o' 0 =
    next_set 2 b p (2 - one) m' o' few ∙ rw (opponent_low z m' o', (new_digits one le.0).1, opponent_set points position w) in
    let n : c ≡ unrank (length b) (count 1 b) (count 2 b) (suc (rank b)) =
    unrank_one (length b) (count 1 b) (count 2 b) (suc (rank b)) c (next_board_lem b p (2 - one) m' o' vs l raised d.rises) in
    record {
      one_le = le.0;
      mover_left = omega arith;
      opponent_left = some;
      few = few;
      is_next =
          ap₂ sides (sym s1) (sym s2) ∙ sym (position_sides c) ∙ ap position_of n
          ∙ ap (λ (k : ℕ). position_of (unrank k (count 1 b) (count 2 b) (suc (rank b)))) (length_board points position);
    }

-- the position of a rank is on the board, with the counts and that rank
pub record Ranked (points m o i : ℕ) (position : Position) : Type 0 where
  pub on : OnBoard points position
  pub mover : count 1 (board_of points position) ≡ m
  pub opponent : count 2 (board_of points position) ≡ o
  pub rank_is : rank (board_of points position) ≡ i

pub ranked : (points m o i : ℕ) (position : Position) → i < size points m o → position ≡ position_of (unrank points m o i) → Ranked points m o i position
ranked points m o i position h e =
    let u = unrank points m o i in
    let w = rank_unrank points m o i h in
    let b : board_of points position ≡ u =
    ap₂ board_of (sym w.points) e ∙ board_position u w.values in
    record {
      on = subst (λ (n : ℕ). OnBoard n position) w.points (on_board u position e);
      mover = ap (count 1) b ∙ w.mover;
      opponent = ap (count 2) b ∙ w.opponent;
      rank_is = ap rank b ∙ w.rank_is;
    }

-- so the rank after its own is that of the counts given
module _ (points m o i : ℕ) (position : Position) (w : Ranked points m o i position) where
  pub ranked_more : suc i < size points m o
      → suc (rank (board_of points position)) < size points (count 1 (board_of points position)) (count 2 (board_of points position))
  ranked_more h = rw (w.rank_is, w.mover, w.opponent) h

  pub ranked_next : unrank points (count 1 (board_of points position)) (count 2 (board_of points position)) (suc (rank (board_of points position)))
      ≡ unrank points m o (i + 1)
  ranked_next = rw (w.rank_is, w.mover, w.opponent, add-one i)
