-- The board of the next rank: where the points below p are the last of their counts, a higher value at p and the first board of what is then
-- left below it. Assumes nothing.
use mathlib.Core.Path.{◌≡◌, refl, sym, ap, ap₂, ◌∙◌, subst}
use mathlib.Core.List.{List, [], ◌∷◌, ◌++◌, reverse, reverse-cons, reverse-append, reverse-reverse, append_assoc}
use Prim.Native.Nat.{ℕ, zero, suc, ◌+◌, ◌-◌, ◌*◌, ◌≤◌, ◌<◌, min}
use native.Mathlib.Nat.{add-zero}
use native.Mathlib.Numerals.{add-one}
use native.Mathlib.Omega.{arith}
use lib.Dec.{eqb, ltb}
use lib.ListN.{length, get_or, take, drop, length-reverse}
use lib.Seq.{split_at, length-take-le}
use borrow.Author.Tests.{lt-ltb}
use Rattle.board.specs.Board.{Values, more, count, digit}
use Rattle.board.proofs.Sides.{more_digit, value_le}
use Rattle.board.proofs.Counts.{count_reverse, values_append, values_reverse, values_take, values_drop, count_all}
use Rattle.sizes.specs.Size.{size, size_with_one}
use Rattle.ranking.specs.Rank.{reading_rank, rank}
use Rattle.ranking.specs.Unrank.{below}
use Rattle.ranking.proofs.Reading.{rank_cons}
use Rattle.ranking.proofs.Inverse.{BoardOf}
use Rattle.stepping.proofs.Extremes.{Rises, rises_top, first, length_first, mover_first, opponent_first, values_first, rank_first}

-- ys is the next reading after xs
pub record NextReading (xs ys : List ℕ) : Type 0 where
  pub points : length ys ≡ length xs
  pub mover : count 1 ys ≡ count 1 xs
  pub opponent : count 2 ys ≡ count 2 xs
  pub rank_is : reading_rank ys ≡ suc (reading_rank xs)

-- what comes next below any higher points
next_onto : (ds xs ys : List ℕ) → Values ds → NextReading xs ys → NextReading (ds ++ xs) (ds ++ ys)
next_onto [] xs ys vs w = w
next_onto (x ∷ ds) xs ys vs w =
    let n = next_onto ds xs ys vs.1 w in
    let c1 : count 1 (x ∷ (ds ++ ys)) ≡ count 1 (x ∷ (ds ++ xs)) = ap (more (eqb x 1)) n.mover in
    let c2 : count 2 (x ∷ (ds ++ ys)) ≡ count 2 (x ∷ (ds ++ xs)) = ap (more (eqb x 2)) n.opponent in
    record {
      points = ap suc n.points;
      mover = c1;
      opponent = c2;
      rank_is = rank_cons x (ds ++ ys) vs.0 ∙ rw (n.points, c1, c2, n.rank_is) (omega (arith, rank_cons x (ds ++ xs) vs.0));
    }

-- y in place of x, above m and o stones of which m' and o' are left
pub record Raised (x m o y m' o' : ℕ) : Type 0 where
  pub some : 0 < y
  pub value : y ≤ 2
  pub mover : m' + digit (eqb y 1) ≡ m + digit (eqb x 1)
  pub opponent : o' + digit (eqb y 2) ≡ o + digit (eqb x 2)
  pub higher : (n : ℕ) → below y n (m + digit (eqb x 1)) (o + digit (eqb x 2)) ≡ below x n (m + digit (eqb x 1)) (o + digit (eqb x 2)) + size n m o

-- the least higher value that stands below: a 1 only where p was vacant
pub raise : (x m o one : ℕ) → x ≤ 1 → one ≡ (1 - x) * digit (ltb 0 m) → 0 < o + one → Raised x m o (2 - one) (m + x - one) (o + one - 1)
raise zero zero o zero h e k =
    record { some = omega arith; value = omega arith; mover = refl; opponent = omega arith; higher = λ n. omega (arith, ap (size n 0) (add-zero o)) }
raise zero (suc m) o (suc zero) h e k =
    record {
      some = omega arith;
      value = omega arith;
      mover = omega arith;
      opponent = omega arith;
      higher = λ n. omega (arith, ap₂ (size n) (add-zero (suc m)) (add-zero o));
    }
raise (suc zero) m o zero h e k =
    record {
      some = omega arith;
      value = omega arith;
      mover = omega arith;
      opponent = omega arith;
      higher = λ n. ap (λ (s : ℕ). size n (m + 1) (o + 0) + s) (ap₂ (size_with_one n) (add-one m) (add-zero o));
    }
raise zero zero o (suc one) h e k = absurd (omega arith)
raise zero (suc m) o zero h e k = absurd (omega (arith, ap digit (lt-ltb 0 (suc m) (omega arith))))
raise zero (suc m) o (suc (suc one)) h e k = absurd (omega (arith, ap digit (lt-ltb 0 (suc m) (omega arith))))
raise (suc zero) m o (suc one) h e k = absurd (omega arith)
raise (suc (suc x)) m o one h e k = absurd (omega arith)

one_stone : (x : ℕ) → x ≤ 2 → digit (eqb x 1) + digit (eqb x 2) ≡ min x 1
one_stone zero h = refl
one_stone (suc zero) h = refl
one_stone (suc (suc zero)) h = refl
one_stone (suc (suc (suc x))) h = absurd (omega arith)

module _ (x : ℕ) (xs : List ℕ) (y m' o' : ℕ) (value : x ≤ 2) (vs : Values xs) (w : Raised x (count 1 xs) (count 2 xs) y m' o') where
  raised_few : m' + o' ≤ length xs
  raised_few = omega (arith, one_stone x value, one_stone y w.value, count_all xs vs)

  -- the points below, with so many vacant
  abbrev raised_low : List ℕ
  raised_low = first (length xs - (m' + o')) m' o'

  raised_length : length raised_low ≡ length xs
  raised_length = length_first (length xs - (m' + o')) m' o' ∙ omega (arith, raised_few)

  next_raised : suc (reading_rank xs) ≡ size (length xs) (count 1 xs) (count 2 xs) → NextReading (x ∷ xs) (y ∷ raised_low)
  next_raised last =
      let z : ℕ = length xs - (m' + o') in
      let a1 : count 1 (x ∷ xs) ≡ count 1 xs + digit (eqb x 1) = more_digit (eqb x 1) (count 1 xs) in
      let a2 : count 2 (x ∷ xs) ≡ count 2 xs + digit (eqb x 2) = more_digit (eqb x 2) (count 2 xs) in
      let c1 : count 1 (y ∷ raised_low) ≡ count 1 xs + digit (eqb x 1) =
      more_digit (eqb y 1) (count 1 raised_low) ∙ omega (arith, mover_first z m' o', w.mover) in
      let c2 : count 2 (y ∷ raised_low) ≡ count 2 xs + digit (eqb x 2) =
      more_digit (eqb y 2) (count 2 raised_low) ∙ omega (arith, opponent_first z m' o', w.opponent) in
      record {
        points = ap suc raised_length;
        mover = c1 ∙ sym a1;
        opponent = c2 ∙ sym a2;
        rank_is =
            rank_cons y raised_low w.value
            ∙ rw (raised_length, c1, c2, rank_first z m' o', rank_cons x xs value, a1, a2) (omega (arith, w.higher (length xs), last));
      }

reverse_around : (a : List ℕ) (x : ℕ) (d : List ℕ) → reverse (a ++ x ∷ d) ≡ reverse d ++ x ∷ reverse a
reverse_around a x d = reverse-append a (x ∷ d) ∙ ap (λ (l : List ℕ). l ++ reverse a) (reverse-cons x d) ∙ append_assoc (reverse d) (x ∷ []) (reverse a)

-- y at p, the first board of so many stones below it, and the points above as they are
abbrev pub next_board : List ℕ → ℕ → ℕ → ℕ → ℕ → List ℕ
next_board b p y m o = reverse (first (p - (m + o)) m o) ++ y ∷ drop (suc p) b

module _ (b : List ℕ) (p y m' o' : ℕ) (vs : Values b) (h : p < length b) (w : Raised (get_or b p 0) (count 1 (take p b)) (count 2 (take p b)) y m' o') where
  abbrev low : List ℕ
  low = reverse (take p b)

  low_length : length low ≡ p
  low_length = length-reverse (take p b) ∙ length-take-le p b (omega arith)

  low_values : Values low
  low_values = values_reverse (take p b) (values_take p b vs)

  low_raised : Raised (get_or b p 0) (count 1 low) (count 2 low) y m' o'
  low_raised = rw (count_reverse 1 (take p b), count_reverse 2 (take p b)) w

  pub next_few : m' + o' ≤ p
  next_few = omega (arith, raised_few (get_or b p 0) low y m' o' (value_le b vs p) low_values low_raised, low_length)

  low_last : Rises b p → suc (reading_rank low) ≡ size (length low) (count 1 low) (count 2 low)
  unfolding rank
  low_last r = rw (low_length, count_reverse 1 (take p b), count_reverse 2 (take p b)) (rises_top b p vs (omega arith) r)

  next_reading : Rises b p → NextReading (reverse b) (reverse (next_board b p y m' o'))
  next_reading r =
      let d = drop (suc p) b in
      let x : ℕ = get_or b p 0 in
      let f = first (p - (m' + o')) m' o' in
      let n = next_onto (reverse d) (x ∷ low) (y ∷ first (length low - (m' + o')) m' o') (values_reverse d (values_drop (suc p) b vs))
      (next_raised x low y m' o' (value_le b vs p) low_values low_raised (low_last r)) in
      let old : reverse d ++ x ∷ low ≡ reverse b = sym (reverse_around (take p b) x d) ∙ ap reverse (sym (split_at b p 0 h)) in
      let new : reverse d ++ y ∷ first (length low - (m' + o')) m' o' ≡ reverse (next_board b p y m' o') =
      ap (λ (k : ℕ). reverse d ++ y ∷ first (k - (m' + o')) m' o') low_length
      ∙ sym (reverse_around (reverse f) y d ∙ ap (λ (l : List ℕ). reverse d ++ y ∷ l) (reverse-reverse f)) in
      subst (λ (l : List ℕ). NextReading l (reverse (next_board b p y m' o'))) old (subst (λ (l : List ℕ). NextReading (reverse d ++ x ∷ low) l) new n)

  pub next_board_lem : Rises b p → BoardOf (length b) (count 1 b) (count 2 b) (suc (rank b)) (next_board b p y m' o')
  unfolding rank
  next_board_lem r =
      let n = next_reading r in
      let c = next_board b p y m' o' in
      record {
        values = values_append (reverse (first (p - (m' + o')) m' o')) (y ∷ drop (suc p) b)
            (values_reverse (first (p - (m' + o')) m' o') (values_first (p - (m' + o')) m' o')) (w.value, values_drop (suc p) b vs);
        points = sym (length-reverse c) ∙ n.points ∙ length-reverse b;
        mover = sym (count_reverse 1 c) ∙ n.mover ∙ count_reverse 1 b;
        opponent = sym (count_reverse 2 c) ∙ n.opponent ∙ count_reverse 2 b;
        rank_is = n.rank_is;
      }
