-- Laws of binomials: Pascal's rule, bounds, and the factorials. Assumes nothing.
use mathlib.Core.Path.{◌≡◌, refl, sym, ap, ◌∙◌}
use Prim.Native.Nat.{ℕ, zero, suc, ◌+◌, ◌-◌, ◌*◌, ◌/◌, ◌^◌, ◌≤◌, ◌<◌}
use native.Mathlib.Nat.{add-zero, zero-add, add-suc, suc-add, pow-suc, le_trans, mul-pos, mul-div_cancel}
use native.Mathlib.Omega.{arith}
use lib.Pow.{pow_mono, pow_pos}
use Rattle.sizes.specs.Size.{factorial}
use Rattle.sizes.specs.Inner.Binomial.{binomial}

pub binomial_zero : (n : ℕ) → binomial n 0 ≡ 1
unfolding binomial
binomial_zero zero = refl
binomial_zero (suc n) = refl

pub binomial_none : (k : ℕ) → binomial 0 (suc k) ≡ 0
unfolding binomial
binomial_none k = refl

pub pascal : (n k : ℕ) → binomial (suc n) (suc k) ≡ binomial n k + binomial n (suc k)
unfolding binomial
pascal n k = refl

pub binomial_over : (n k : ℕ) → n < k → binomial n k ≡ 0
binomial_over n zero h = absurd (omega arith)
binomial_over zero (suc k) h = binomial_none k
binomial_over (suc n) (suc k) h =
    let a : n < k = omega arith in
    let b : n < suc k = omega arith in
    omega (arith, pascal n k, binomial_over n k a, binomial_over n (suc k) b)

binomial_le : (n k : ℕ) → binomial n k ≤ 2 ^ n
binomial_le n zero = omega (arith, binomial_zero n, pow_pos n)
binomial_le zero (suc k) = omega (arith, binomial_none k)
binomial_le (suc n) (suc k) = rw (pow-suc 2 n) (omega (arith, pascal n k, binomial_le n k, binomial_le n (suc k)))

-- a binomial of the board's points fits 32 bits
pub binomial_small : (n k : ℕ) → n ≤ 24 → binomial n k ≤ 2 ^ 24
binomial_small n k h = le_trans (binomial_le n k) (pow_mono {i = n} {j = 24} h)

binomial_same : (n : ℕ) → binomial n n ≡ 1
binomial_same zero = binomial_zero 0
binomial_same (suc n) =
    let h : n < suc n = omega arith in
    omega (arith, pascal n n, binomial_same n, binomial_over n (suc n) h)

-- the two terms of Pascal's rule, each times what it lacks
step : (a b k j f g : ℕ) {r : ℕ} → a * (f * (suc j * g)) ≡ r → b * (suc k * f * g) ≡ r
    → (a + b) * (suc k * f * (suc j * g)) ≡ suc (suc (k + j)) * r
step a b k j f g {r} x y = omega (arith, ap (λ (t : ℕ). suc k * t) x, ap (λ (t : ℕ). suc j * t) y)

pub binomial_factorial : (k j : ℕ) → binomial (k + j) k * (factorial k * factorial j) ≡ factorial (k + j)
binomial_factorial zero j = rw (zero-add j, binomial_zero j) (omega arith)
binomial_factorial (suc k) zero = rw (add-zero (suc k), binomial_same (suc k)) (omega arith)
binomial_factorial (suc k) (suc j) =
    let p : suc k + suc j ≡ suc (suc (k + j)) = omega arith in
    let x = rw (add-suc k j) at (binomial_factorial k (suc j)) in
    let y = rw (suc-add k j) at (binomial_factorial (suc k) j) in
    rw (p, pascal (suc (k + j)) k)
    (step (binomial (suc (k + j)) k) (binomial (suc (k + j)) (suc k)) k j (factorial k) (factorial j) x y)

pub factorial_pos : (n : ℕ) → 0 < factorial n
factorial_pos zero = omega arith
factorial_pos (suc n) = omega (arith, factorial_pos n)

pub binomial_quotient : (n k : ℕ) → k ≤ n → binomial n k ≡ factorial n / (factorial k * factorial (n - k))
binomial_quotient n k h =
    let p : k + (n - k) ≡ n = omega arith in
    sym
    (ap (λ (t : ℕ). t / (factorial k * factorial (n - k))) (sym (rw p at (binomial_factorial k (n - k))))
    ∙ mul-div_cancel (binomial n k) (mul-pos (factorial_pos k) (factorial_pos (n - k))))
