-- Laws of sizes: a size is a product of two binomials, it splits by what stands at the highest point, and it fits 48 bits. Assumes nothing.
use mathlib.Core.Path.{◌≡◌, refl, sym, ap, ◌∙◌, subst}
use mathlib.Core.Bool.{Bool, true, false}
use Prim.Native.Nat.{ℕ, zero, suc, ◌+◌, ◌*◌, ◌-◌, ◌/◌, ◌^◌, ◌≤◌, ◌<◌}
use native.Mathlib.Nat.{zero-mul, mul-zero, sub-zero, suc-sub-suc, mul-pos, mul-div_cancel, mul-le-mul}
use native.Mathlib.Omega.{arith}
use lib.Dec.{leb, ltb}
use borrow.Author.Tests.{leb-true, leb-false, lt-leb, ltb-true, ltb-false}
use Rattle.sizes.specs.Inner.Binomial.{binomial}
use Rattle.sizes.specs.Size.{factorial, size, size_with_one}
use Rattle.sizes.proofs.Binomials.{pascal, binomial_zero, binomial_over, binomial_small, binomial_factorial, factorial_pos}

-- the ways to choose m of n points, and then o of those left
abbrev pub ways : ℕ → ℕ → ℕ → ℕ
ways n m o = binomial n m * binomial (n - m) o

-- a product of three factors, regrouped
regroup : (u v f g k c n : ℕ) → u * (f * c) ≡ n → v * (g * k) ≡ c → n ≡ u * v * (f * g * k)
regroup u v f g k c n p q = sym p ∙ ap (λ (t : ℕ). u * (f * t)) (sym q) ∙ omega arith

formula : (n m o : ℕ) → m + o ≤ n → factorial n / (factorial m * factorial o * factorial (n - (m + o))) ≡ ways n m o
formula n m o h =
    let d = n - (m + o) in
    let p : m + (n - m) ≡ n = omega arith in
    let q : o + (n - (m + o)) ≡ n - m = omega arith in
    let a = rw p at (binomial_factorial m (n - m)) in
    let b = rw q at (binomial_factorial o d) in
    let pos : 0 < factorial m * factorial o * factorial d = mul-pos (mul-pos (factorial_pos m) (factorial_pos o)) (factorial_pos d) in
    ap (λ (t : ℕ). t / (factorial m * factorial o * factorial d))
    (regroup (binomial n m) (binomial (n - m) o) (factorial m) (factorial o) (factorial d) (factorial (n - m)) (factorial n) a b)
    ∙ mul-div_cancel (ways n m o) pos

-- no board has more stones than points
pub size_over : (n m o : ℕ) → n < m + o → size n m o ≡ 0
unfolding size
size_over n m o h = rw (lt-leb (m + o) n h, size)

ways_over : (n m o : ℕ) → n < m + o → ways n m o ≡ 0
ways_over n m o h = go (ltb n m) refl
  where
    go : (b : Bool) → ltb n m ≡ b → ways n m o ≡ 0
    go true e = ap (λ (x : ℕ). x * binomial (n - m) o) (binomial_over n m (ltb-true n m e)) ∙ zero-mul (binomial (n - m) o)
    go false e =
        let l = ltb-false n m e in
        ap (λ (x : ℕ). binomial n m * x) (binomial_over (n - m) o (omega arith)) ∙ mul-zero (binomial n m)

pub size_ways : (n m o : ℕ) → size n m o ≡ ways n m o
unfolding size
size_ways n m o = go (leb (m + o) n) refl
  where
    go : (b : Bool) → leb (m + o) n ≡ b → size n m o ≡ ways n m o
    go true e = rw (e, size) (formula n m o (leb-true (m + o) n e))
    go false e = let h = leb-false (m + o) n e in size_over n m o h ∙ sym (ways_over n m o h)

-- a size of the board's points
pub size_small : (n m o : ℕ) → n ≤ 24 → size n m o ≤ 2 ^ 48
size_small n m o h =
    subst (λ (x : ℕ). x ≤ 2 ^ 48) (sym (size_ways n m o)) (mul-le-mul (binomial_small n m h) (binomial_small (n - m) o (omega arith)))

-- n + 1 points hold m and o stones: how many boards have a 2 at one given point
abbrev pub size_with_two : ℕ → ℕ → ℕ → ℕ
size_with_two n m zero = 0
size_with_two n m (suc o) = size n m o

-- at the highest point stands nothing, a 1 or a 2
pub size_more : (n m o : ℕ) → size (suc n) m o ≡ size n m o + size_with_one n m o + size_with_two n m o
size_more n zero zero =
    rw (size_ways (suc n) 0 0, size_ways n 0 0, sub-zero (suc n), sub-zero n, binomial_zero (suc n), binomial_zero n) refl
size_more n zero (suc o) =
    rw (
      size_ways (suc n) 0 (suc o),
      size_ways n 0 (suc o),
      size_ways n 0 o,
      sub-zero (suc n),
      sub-zero n,
      binomial_zero (suc n),
      binomial_zero n,
      pascal n o,
    ) (omega arith)
size_more n (suc m) zero =
    rw (
      size_ways (suc n) (suc m) 0,
      size_ways n (suc m) 0,
      size_ways n m 0,
      binomial_zero (suc n - suc m),
      binomial_zero (n - suc m),
      binomial_zero (n - m),
      pascal n m,
    ) (omega arith)
size_more n (suc m) (suc o) =
    rw (size_ways (suc n) (suc m) (suc o), size_ways n (suc m) (suc o), size_ways n m (suc o), size_ways n (suc m) o, suc-sub-suc n m, pascal n m)
    (go (ltb m n) refl)
  where
    go : (b : Bool) → ltb m n ≡ b
        → (binomial n m + binomial n (suc m)) * binomial (n - m) (suc o) ≡ ways n (suc m) (suc o) + ways n m (suc o) + ways n (suc m) o
    go true e =
        let l = ltb-true m n e in
        let q : n - m ≡ suc (n - suc m) = omega arith in
        rw (q, pascal (n - suc m) o) (omega arith)
    go false e = let l = ltb-false m n e in rw (binomial_over n (suc m) (omega arith)) (omega arith)

pub size_none : size 0 0 0 ≡ 1
unfolding size
size_none = refl

-- a table that holds something has no more stones than points
pub stones_few : (n m o r : ℕ) → r < size n m o → m + o ≤ n
stones_few n m o r h = go (leb (m + o) n) refl
  where
    go : (b : Bool) → leb (m + o) n ≡ b → m + o ≤ n
    go true e = leb-true (m + o) n e
    go false e = absurd (omega (arith, size_over n m o (leb-false (m + o) n e)))
