-- The last and the first of the boards of equal counts: where the values rise with the points the rank is the highest, where they fall it is 0.
-- Assumes nothing.
use mathlib.Core.Path.{◌≡◌, refl, sym, ap, ap₂, ◌∙◌}
use mathlib.Core.List.{List, [], ◌∷◌}
use Prim.Native.Nat.{ℕ, zero, suc, ◌+◌, ◌≤◌, ◌<◌}
use native.Mathlib.Omega.{arith}
use lib.Dec.{eqb}
use lib.ListN.{length, get_or, take}
use lib.Seq.{take-suc, length-take-le}
use borrow.Author.Tests.{ne_eqb}
use Rattle.board.specs.Board.{Values, count, digit}
use Rattle.board.proofs.Sides.{value_le}
use Rattle.board.proofs.Counts.{count_more}
use Rattle.sizes.specs.Size.{size, size_with_one}
use Rattle.sizes.proofs.Multinomials.{size_more, size_none, size_over}
use Rattle.ranking.specs.Rank.{reading_rank, rank}
use Rattle.ranking.specs.Unrank.{below}
use Rattle.ranking.proofs.Reading.{rank_nil, rank_cons}
use Rattle.ranking.proofs.Steps.{rank_none, rank_more}

-- the values of the first n points rise
abbrev pub Rises : List ℕ → ℕ → Type 0
Rises b n = (q : ℕ) → suc q < n → get_or b q 0 ≤ get_or b (suc q) 0

rises_less : (b : List ℕ) (n : ℕ) → Rises b (suc n) → Rises b n
rises_less b n h q l = h q (omega arith)

-- one point more
pub taken_more : (v : ℕ) (b : List ℕ) (n : ℕ) → n < length b → count v (take (suc n) b) ≡ count v (take n b) + digit (eqb (get_or b n 0) v)
taken_more v b n h = ap (count v) (take-suc b n 0 h) ∙ count_more v (take n b) (get_or b n 0)

-- no higher value stands below
rises_none : (v : ℕ) (b : List ℕ) (n : ℕ) → n < length b → Rises b (suc n) → get_or b n 0 < v → count v (take n b) ≡ 0
rises_none v b zero h r l = refl
rises_none v b (suc n) h r l =
    let k : get_or b n 0 < v = omega (arith, r n (omega arith)) in
    let e = ap digit (ne_eqb (get_or b n 0) v (λ q. omega arith)) in
    omega (arith, taken_more v b n (omega arith), rises_none v b n (omega arith) (rises_less b (suc n) r) k, e)

-- so each further value counts all boards before it
top_step : (n m o r x : ℕ) → x ≤ 2 → suc r ≡ size n m o → (x < 1 → m ≡ 0) → (x < 2 → o ≡ 0)
    → suc (r + below x n (m + digit (eqb x 1)) (o + digit (eqb x 2))) ≡ size (suc n) (m + digit (eqb x 1)) (o + digit (eqb x 2))
top_step n m o r zero h e a b =
    let p : m ≡ 0 = a (omega arith) in
    let q : o ≡ 0 = b (omega arith) in
    let p₀ : m + 0 ≡ 0 = omega arith in
    let q₀ : o + 0 ≡ 0 = omega arith in
    omega (arith, ap₂ (size n) p q, size_more n 0 0, ap₂ (size (suc n)) p₀ q₀)
top_step n m o r (suc zero) h e a b =
    let q : o ≡ 0 = b (omega arith) in
    let p₁ : m + 1 ≡ suc m = omega arith in
    let q₀ : o + 0 ≡ 0 = omega arith in
    omega (arith, ap (size n m) q, size_more n (suc m) 0, ap₂ (size (suc n)) p₁ q₀, ap₂ (size n) p₁ q₀)
top_step n m o r (suc (suc zero)) h e a b =
    let p₀ : m + 0 ≡ m = omega arith in
    let q₁ : o + 1 ≡ suc o = omega arith in
    omega (arith, size_more n m (suc o), ap₂ (size (suc n)) p₀ q₁, ap₂ (size n) p₀ q₁, ap₂ (size_with_one n) p₀ q₁)
top_step n m o r (suc (suc (suc x))) h e a b = absurd (omega arith)

rank_taken : (b : List ℕ) (n : ℕ) → Values b → n < length b
    → rank (take (suc n) b) ≡ rank (take n b) + below (get_or b n 0) n (count 1 (take (suc n) b)) (count 2 (take (suc n) b))
rank_taken b n vs h =
    let t = take-suc b n 0 h in
    ap rank t ∙ rank_more (take n b) (get_or b n 0) (value_le b vs n) ∙ rw (← t, length-take-le n b (omega arith))

pub rises_top : (b : List ℕ) (n : ℕ) → Values b → n ≤ length b → Rises b n
    → suc (rank (take n b)) ≡ size n (count 1 (take n b)) (count 2 (take n b))
rises_top b zero vs h r = ap suc rank_none ∙ sym size_none
rises_top b (suc n) vs h r =
    let c1 = taken_more 1 b n (omega arith) in
    let c2 = taken_more 2 b n (omega arith) in
    rw (rank_taken b n vs h, c1, c2)
    (top_step n (count 1 (take n b)) (count 2 (take n b)) (rank (take n b)) (get_or b n 0) (value_le b vs n)
    (rises_top b n vs (omega arith) (rises_less b n r)) (rises_none 1 b n h r) (rises_none 2 b n h r))

-- the first reading of z vacant points, m of the mover's stones and o of the opponent's
abbrev pub first : ℕ → ℕ → ℕ → List ℕ
first (suc z) m o = 0 ∷ first z m o
first zero (suc m) o = 1 ∷ first zero m o
first zero zero (suc o) = 2 ∷ first zero zero o
first zero zero zero = []

pub length_first : (z m o : ℕ) → length (first z m o) ≡ z + m + o
length_first (suc z) m o = omega (arith, length_first z m o)
length_first zero (suc m) o = omega (arith, length_first zero m o)
length_first zero zero (suc o) = omega (arith, length_first zero zero o)
length_first zero zero zero = refl

pub mover_first : (z m o : ℕ) → count 1 (first z m o) ≡ m
mover_first (suc z) m o = mover_first z m o
mover_first zero (suc m) o = ap suc (mover_first zero m o)
mover_first zero zero (suc o) = mover_first zero zero o
mover_first zero zero zero = refl

pub opponent_first : (z m o : ℕ) → count 2 (first z m o) ≡ o
opponent_first (suc z) m o = opponent_first z m o
opponent_first zero (suc m) o = opponent_first zero m o
opponent_first zero zero (suc o) = ap suc (opponent_first zero zero o)
opponent_first zero zero zero = refl

pub values_first : (z m o : ℕ) → Values (first z m o)
values_first (suc z) m o = (omega arith, values_first z m o)
values_first zero (suc m) o = (omega arith, values_first zero m o)
values_first zero zero (suc o) = (omega arith, values_first zero zero o)
values_first zero zero zero = tt

-- nothing comes before it
pub rank_first : (z m o : ℕ) → reading_rank (first z m o) ≡ 0
rank_first (suc z) m o = rank_cons 0 (first z m o) (omega arith) ∙ omega (arith, rank_first z m o)
rank_first zero (suc m) o =
    let l = first zero m o in
    let e = size_over (length l) (suc (count 1 l)) (count 2 l) (omega (arith, length_first zero m o, mover_first zero m o, opponent_first zero m o)) in
    rank_cons 1 l (omega arith) ∙ omega (arith, e, rank_first zero m o)
rank_first zero zero (suc o) =
    let l = first zero zero o in
    let e = size_over (length l) (count 1 l) (suc (count 2 l)) (omega (arith, length_first zero zero o, mover_first zero zero o, opponent_first zero zero o)) in
    let d : size_with_one (length l) (count 1 l) (suc (count 2 l)) ≡ 0 = ap (λ (k : ℕ). size_with_one (length l) k (suc (count 2 l))) (mover_first zero zero o) in
    rank_cons 2 l (omega arith) ∙ omega (arith, e, d, rank_first zero zero o)
rank_first zero zero zero = rank_nil
