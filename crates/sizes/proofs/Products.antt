-- Sizes as other products of two binomials: the stones first and then whose they are; and those boards that have no 2 at the highest point, by
-- the opponent's stones first. Assumes nothing.
use mathlib.Core.Path.{◌≡◌, refl, sym, ap, ap₂, ◌∙◌}
use mathlib.Core.Bool.{Bool, true, false}
use Prim.Native.Nat.{ℕ, zero, suc, ◌+◌, ◌*◌, ◌-◌, ◌/◌, ◌<◌}
use native.Mathlib.Nat.{add-zero, zero-add, add_comm, mul_comm, zero-mul}
use native.Mathlib.Omega.{arith}
use lib.Dec.{leb, ltb}
use borrow.Author.Tests.{ltb-true, ltb-false}
use Rattle.sizes.specs.Inner.Binomial.{binomial}
use Rattle.sizes.specs.Size.{factorial, size, size_with_one}
use Rattle.sizes.proofs.Binomials.{pascal, binomial_zero, binomial_over}
use Rattle.sizes.proofs.Multinomials.{size_ways, size_over, size_none, size_more}

-- the ways to choose the points of all stones, and then those of the mover
abbrev pub chosen : ℕ → ℕ → ℕ → ℕ
chosen n m o = binomial n (m + o) * binomial (m + o) m

chosen_over : (n m o : ℕ) → n < m + o → size n m o ≡ chosen n m o
chosen_over n m o h =
    size_over n m o h ∙ sym (ap (λ (x : ℕ). x * binomial (m + o) m) (binomial_over n (m + o) h) ∙ zero-mul (binomial (m + o) m))

-- at so many stones
chosen_at : (n m o s : ℕ) → m + o ≡ s → size n m o ≡ chosen n m o → size n m o ≡ binomial n s * binomial s m
chosen_at n m o s e h = h ∙ ap (λ (x : ℕ). binomial n x * binomial x m) e

pub size_chosen : (n m o : ℕ) → size n m o ≡ chosen n m o
size_chosen zero zero zero = size_none ∙ rw (binomial_zero 0)
size_chosen zero zero (suc o) = chosen_over 0 0 (suc o) (omega arith)
size_chosen zero (suc m) o = chosen_over 0 (suc m) o (omega arith)
size_chosen (suc n) zero zero =
    size_more n 0 0 ∙ rw (size_chosen n 0 0, binomial_zero (suc n), binomial_zero n, binomial_zero 0)
size_chosen (suc n) zero (suc o) =
    size_more n 0 (suc o)
    ∙ rw (
      chosen_at n 0 (suc o) (suc o) (zero-add (suc o)) (size_chosen n 0 (suc o)),
      chosen_at n 0 o o (zero-add o) (size_chosen n 0 o),
      zero-add (suc o),
      pascal n o,
      binomial_zero (suc o),
      binomial_zero o,
    ) (omega arith)
size_chosen (suc n) (suc m) zero =
    size_more n (suc m) 0
    ∙ rw (
      chosen_at n (suc m) 0 (suc m) (add-zero (suc m)) (size_chosen n (suc m) 0),
      chosen_at n m 0 m (add-zero m) (size_chosen n m 0),
      add-zero (suc m),
      pascal n m,
      pascal m m,
      binomial_over m (suc m) (omega arith),
    ) (omega arith)
size_chosen (suc n) (suc m) (suc o) =
    let s : ℕ = suc (m + o) in
    let e : suc m + suc o ≡ suc s = omega arith in
    size_more n (suc m) (suc o)
    ∙ rw (
      chosen_at n (suc m) (suc o) (suc s) e (size_chosen n (suc m) (suc o)),
      chosen_at n m (suc o) s (omega arith) (size_chosen n m (suc o)),
      chosen_at n (suc m) o s (omega arith) (size_chosen n (suc m) o),
      e,
      pascal n s,
      pascal s m,
    ) (omega arith)

-- the sides may change places
pub size_swap : (n m o : ℕ) → size n m o ≡ size n o m
unfolding size
size_swap n m o =
    ap₂ (λ (s t : ℕ). elim (leb s n) [ true ↦ factorial n / (t * factorial (n - s)) | false ↦ 0 ]) (add_comm m o) (mul_comm (factorial m) (factorial o))

-- no 2 at the highest of n + 1 points: the opponent's stones stand below it
pub size_low : (n m o : ℕ) → size n m o + size_with_one n m o ≡ binomial n o * binomial (n + 1 - o) m
size_low n m o = go (ltb n o) refl m
  where
    go : (b : Bool) → ltb n o ≡ b → (m : ℕ) → size n m o + size_with_one n m o ≡ binomial n o * binomial (n + 1 - o) m
    go true e zero = let l = ltb-true n o e in rw (size_over n 0 o (omega arith), binomial_over n o l) (omega arith)
    go true e (suc m) =
        let l = ltb-true n o e in
        rw (size_over n (suc m) o (omega arith), size_over n m o (omega arith), binomial_over n o l) (omega arith)
    go false e zero =
        let l = ltb-false n o e in
        rw (size_swap n 0 o, size_ways n o 0, binomial_zero (n - o), binomial_zero (n + 1 - o)) (omega arith)
    go false e (suc m) =
        let l = ltb-false n o e in
        let d : n + 1 - o ≡ suc (n - o) = omega arith in
        rw (size_swap n (suc m) o, size_ways n o (suc m), size_swap n m o, size_ways n o m, d, pascal (n - o) m) (omega arith)
