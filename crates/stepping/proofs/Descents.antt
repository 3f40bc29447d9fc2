-- The lowest point that holds less than the point before it: the points below it rise, and so it is where the next board differs first.
-- Assumes nothing.
use mathlib.Core.Path.{◌≡◌, refl, sym, ap, ap₂, ◌∙◌}
use mathlib.Core.Bool.{Bool, true, false}
use mathlib.Core.List.{List}
use mathlib.Core.Logic.{⊎_elim}
use Prim.Native.Nat.{ℕ, zero, suc, ◌+◌, ◌-◌, ◌*◌, ◌^◌, ◌≤◌, ◌<◌, min, max}
use native.Mathlib.Nat.{lt_of_not-le}
use native.Mathlib.Omega.{arith}
use lib.Bits.{bit_or, or_lt}
use lib.Dec.{ltb}
use lib.ListN.{length, get_or, take}
use lib.Seq.{take_all}
use borrow.Author.Tests.{eq-eqb, ltb-true, ltb-false, lt-ltb}
use Rattle.sets.specs.Sets.{bit, has, lowest}
use Rattle.sets.proofs.Laws.{bit_cases, bit_empty}
use Rattle.sets.proofs.Elements.{lowest_member}
use Rattle.board.specs.declared.Position.{Position}
use Rattle.board.specs.Board.{count, digit, value_at, board_of, OnBoard}
use Rattle.board.proofs.Sides.{length_board, board_at_lem, board_values, value_le}
use Rattle.sizes.specs.Size.{size}
use Rattle.ranking.specs.Rank.{rank}
use Rattle.stepping.specs.Inner.Ends.{Ends}
use Rattle.sets.proofs.Least.{below_lowest}
use Rattle.ranking.proofs.Digits.{bit_or_lem, stones}
use Rattle.stepping.proofs.Extremes.{Rises, rises_top, taken_more}

digit_bit : (s q : ℕ) → digit (has s q) ≡ bit s q
digit_bit s q = ⊎_elim (λ z. rw z) (λ o. rw o) (bit_cases s q)

pub value_bits : (points : ℕ) (position : Position) (q : ℕ) → q < points
    → get_or (board_of points position) q 0 ≡ bit position.mover q + 2 * bit position.opponent q
unfolding value_at
value_bits points position q l =
    board_at_lem points position q l ∙ ap₂ (λ (x y : ℕ). x + 2 * y) (digit_bit position.mover q) (digit_bit position.opponent q)

max_sum : (m o : ℕ) → m + o ≤ 1 → max m o ≡ m + o
max_sum m o h = omega arith

-- a stone is of one side
pub stones_at : (points : ℕ) (position : Position) → OnBoard points position → (q : ℕ) → q < points
    → bit (stones position) q ≡ bit position.mover q + bit position.opponent q
stones_at points position w q l =
    bit_or_lem position.mover position.opponent q ∙ max_sum (bit position.mover q) (bit position.opponent q) (w.apart q l)

-- of two neighbours the digits of m and o, and m' and o', say whether the values drop
drop_digit : (m o m' o' : ℕ) → m + o ≤ 1 → m' + o' ≤ 1
    → max (o - min o o') (m + o - min (m + o) (m' + o')) ≡ digit (ltb (m' + 2 * o') (m + 2 * o))
drop_digit m o m' o' h l = go (ltb (m' + 2 * o') (m + 2 * o)) refl
  where
    go : (c : Bool) → ltb (m' + 2 * o') (m + 2 * o) ≡ c → max (o - min o o') (m + o - min (m + o) (m' + o')) ≡ digit (ltb (m' + 2 * o') (m + 2 * o))
    go true e = let k = ltb-true (m' + 2 * o') (m + 2 * o) e in rw e (omega arith)
    go false e = let k = ltb-false (m' + 2 * o') (m + 2 * o) e in rw e (omega arith)

lt_digit : (x y : ℕ) → digit (ltb x y) ≡ 1 → x < y
lt_digit x y e = go (ltb x y) refl
  where
    go : (c : Bool) → ltb x y ≡ c → x < y
    go true t = ltb-true x y t
    go false t = absurd (omega (arith, e, ap digit t))

le_digit : (x y : ℕ) → digit (ltb x y) ≡ 0 → y ≤ x
le_digit x y e = go (ltb x y) refl
  where
    go : (c : Bool) → ltb x y ≡ c → y ≤ x
    go true t = absurd (omega (arith, e, ap digit t))
    go false t = ltb-false x y t

-- p is where the next board differs first: the points below it rise, and a higher value stands among them, at the point before it
pub record Descent (points : ℕ) (position : Position) (p : ℕ) : Type 0 where
  pub low : p < points
  pub rises : Rises (board_of points position) p
  pub value : get_or (board_of points position) p 0 ≡ digit (has position.mover p)
  pub some : 0 < count 2 (take p (board_of points position)) + (1 - digit (has position.mover p)) * digit (ltb 0 (count 1 (take p (board_of points position))))
  pub stone : bit (stones position) (p - 1) ≡ 1

-- the point before holds a value that is higher than x
some_higher : (b : List ℕ) (q x z : ℕ) → q < length b → get_or b q 0 ≡ z → x < z → z ≤ 2
    → 0 < count 2 (take (suc q) b) + (1 - x) * digit (ltb 0 (count 1 (take (suc q) b)))
some_higher b q x zero h e k l = absurd (omega arith)
some_higher b q x (suc zero) h e k l =
    let n : 0 < count 1 (take (suc q) b) = omega (arith, taken_more 1 b q h, ap digit (eq-eqb (get_or b q 0) 1 e)) in
    let z : x ≡ 0 = omega arith in
    rw (lt-ltb 0 (count 1 (take (suc q) b)) n, z) (omega arith)
some_higher b q x (suc (suc zero)) h e k l = omega (arith, taken_more 2 b q h, ap digit (eq-eqb (get_or b q 0) 2 e))
some_higher b q x (suc (suc (suc z))) h e k l = absurd (omega arith)

module _ (points : ℕ) (position : Position) (w : OnBoard points position) (r t : ℕ) (e : Ends position.opponent r) (f : Ends (stones position) t) where
  -- the points that hold less than the one before
  abbrev drops : ℕ
  drops = bit_or r t

  drops_at : (q : ℕ) → suc q < points → bit drops (suc q) ≡ digit (ltb (get_or (board_of points position) (suc q) 0) (get_or (board_of points position) q 0))
  drops_at q l =
      let k : q < points = omega arith in
      bit_or_lem r t (suc q)
      ∙ ap₂ max (e.after q) (f.after q ∙ ap₂ (λ (x y : ℕ). x - min x y) (stones_at points position w q k) (stones_at points position w (suc q) l))
      ∙ drop_digit (bit position.mover q) (bit position.opponent q) (bit position.mover (suc q)) (bit position.opponent (suc q))
      (w.apart q k) (w.apart (suc q) l)
      ∙ ap₂ (λ (x y : ℕ). digit (ltb x y)) (sym (value_bits points position (suc q) l)) (sym (value_bits points position q k))

  drops_not : (q : ℕ) → suc q < points → bit drops (suc q) ≡ 0 → get_or (board_of points position) q 0 ≤ get_or (board_of points position) (suc q) 0
  drops_not q l h = le_digit (get_or (board_of points position) (suc q) 0) (get_or (board_of points position) q 0) (sym (drops_at q l) ∙ h)

  -- a board that is not the last has such a point
  drops_some : suc (rank (board_of points position)) < size points (count 1 (board_of points position)) (count 2 (board_of points position))
      → ((q : ℕ) → suc q < points → bit drops (suc q) ≡ 0) → ⊥
  drops_some h none =
      let b = board_of points position in
      let l = length_board points position in
      let a : take points b ≡ b = take_all points b (omega arith) in
      let k = rw a at (rises_top b points (board_values points position w) (omega arith) (λ q m. drops_not q m (none q m))) in
      omega arith

  drops_fit : drops < 2 ^ 32
  drops_fit = omega (arith, or_lt 25 r t e.within f.within)

  module _ (h : suc (rank (board_of points position)) < size points (count 1 (board_of points position)) (count 2 (board_of points position))) where
    pub drops_any : drops ≡ 0 → ⊥
    drops_any z = drops_some h (λ q l. ap (λ (s : ℕ). bit s (suc q)) z ∙ bit_empty (suc q))

    lowest_drop : lowest drops < points
    lowest_drop = lt_of_not-le (λ (g : points ≤ lowest drops). drops_some h (λ q l. below_lowest drops (suc q) drops_fit drops_any (omega arith)))

    pub descent : (p : ℕ) → p ≡ lowest drops → Descent points position p
    descent zero z =
        let m = ap (λ (k : ℕ). bit drops k) z ∙ lowest_member drops drops_fit drops_any in
        absurd (omega (arith, m, bit_or_lem r t 0 ∙ ap₂ max e.first f.first))
    descent (suc q) z =
        let b = board_of points position in
        let vs = board_values points position w in
        let l : suc q < points = omega (arith, lowest_drop) in
        let n : q < length b = omega (arith, length_board points position) in
        let d = lt_digit (get_or b (suc q) 0) (get_or b q 0) (sym (drops_at q l) ∙ ap (λ (k : ℕ). bit drops k) z ∙ lowest_member drops drops_fit drops_any) in
        let v : get_or b (suc q) 0 ≡ digit (has position.mover (suc q)) =
        omega (arith, value_bits points position (suc q) l, digit_bit position.mover (suc q), value_le b vs q) in
        let k : suc q - 1 ≡ q = omega arith in
        let o : bit (stones position) q ≡ 1 =
        omega (arith, value_bits points position q (omega arith), stones_at points position w q (omega arith), w.apart q (omega arith)) in
        record {
          low = l;
          rises = λ k m. drops_not k (omega arith) (below_lowest drops (suc k) drops_fit drops_any (omega arith));
          value = v;
          some = some_higher b q (digit (has position.mover (suc q))) (get_or b q 0) n refl (omega arith) (value_le b vs q);
          stone = ap (bit (stones position)) k ∙ o;
        }
