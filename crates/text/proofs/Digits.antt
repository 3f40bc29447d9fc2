-- Numbers in base ten: the fewest digits that hold a number are one number of digits, so what `io::decimal` writes is the definition's. Assumes
-- nothing.
use mathlib.Core.Path.{◌≡◌, refl, sym, ap, subst}
use mathlib.Core.Bool.{Bool, true, false, cond}
use Prim.Native.Nat.{ℕ, zero, suc, ◌-◌, ◌/◌, ◌^◌, ◌≤◌, ◌<◌}
use native.Mathlib.Nat.{pow-suc, pow-le-pow_right}
use native.Mathlib.Omega.{arith}
use lib.Dec.{ltb}
use borrow.Author.Tests.{ltb-true, ltb-false}
use Rattle.io.specs.Digits.{last_digits, IsDigitCount}
use Rattle.text.specs.Text.{digit_count, decimal}

fewest_lt : (n k j : ℕ) → IsDigitCount 10 1 n k → IsDigitCount 10 1 n j → k < j → ⊥
fewest_lt n k j a b h = omega (arith, a.0, a.1, b.2 (omega (arith, a.0)), pow-le-pow_right {n = 10} (omega arith) {i = k} {j = j - 1} (omega arith))

fewest_one : (n k j : ℕ) → IsDigitCount 10 1 n k → IsDigitCount 10 1 n j → k ≡ j
fewest_one n k j a b = go (ltb k j) refl (ltb j k) refl
  where
    go : (s : Bool) → ltb k j ≡ s → (t : Bool) → ltb j k ≡ t → k ≡ j
    go true e t d = absurd (fewest_lt n k j a b (ltb-true k j e))
    go false e true d = absurd (fewest_lt n j k b a (ltb-true j k d))
    go false e false d = omega (arith, ltb-false k j e, ltb-false j k d)

-- a digit more
one_more : (n p : ℕ) → 10 ≤ n → 1 ≤ p → (1 < p → 10 ^ (p - 1) ≤ n / 10) → 10 ^ p ≤ n
one_more n zero h l f = absurd (omega arith)
one_more n (suc zero) h l f = h
one_more n (suc (suc q)) h l f =
    let e : suc (suc q) - 1 ≡ suc q = omega arith in
    let g : 10 ^ suc q ≤ n / 10 = subst (λ (m : ℕ). 10 ^ m ≤ n / 10) e (f (omega arith)) in
    omega (arith, pow-suc 10 (suc q))

places_fewest : (steps n : ℕ) → n < 10 ^ suc steps → IsDigitCount 10 1 n (digit_count steps n)
unfolding digit_count
places_fewest zero n h = (omega arith, h, λ l. absurd (omega arith))
places_fewest (suc steps) n h = go (ltb n 10) refl (λ l. places_fewest steps (n / 10) l)
  where
    go : (t : Bool) → ltb n 10 ≡ t → (n / 10 < 10 ^ suc steps → IsDigitCount 10 1 (n / 10) (digit_count steps (n / 10)))
        → IsDigitCount 10 1 n (cond t 1 (suc (digit_count steps (n / 10))))
    go true e r = (omega arith, ltb-true n 10 e, λ l. absurd (omega arith))
    go false e r =
        let b = ltb-false n 10 e in
        let w = r (omega (arith, pow-suc 10 (suc steps))) in
        let p : ℕ = digit_count steps (n / 10) in
        let d : suc p - 1 ≡ p = omega arith in
        (omega arith, omega (arith, w.1, pow-suc 10 p), λ l. subst (λ (m : ℕ). 10 ^ m ≤ n) (sym d) (one_more n p b w.0 w.2))

below_power : (n : ℕ) → n < 10 ^ suc n
below_power zero = omega arith
below_power (suc n) = omega (arith, below_power n, pow-suc 10 (suc n))

-- the fewest digits are the definition's
pub decimal_is : (n k : ℕ) → IsDigitCount 10 1 n k → last_digits 10 k n ≡ decimal n
unfolding decimal
decimal_is n k w = ap (λ (j : ℕ). last_digits 10 j n) (fewest_one n k (digit_count n n) w (places_fewest n n (below_power n)))

-- and 20 of them hold every u64
pub fewest_small : (n k : ℕ) → n < 2 ^ 64 → IsDigitCount 10 1 n k → k ≤ 20
fewest_small n k h w = go (ltb 20 k) refl
  where
    go : (t : Bool) → ltb 20 k ≡ t → k ≤ 20
    go true e =
        let l = ltb-true 20 k e in
        absurd (omega (arith, w.2 (omega arith), pow-le-pow_right {n = 10} (omega arith) {i = 20} {j = k - 1} (omega arith)))
    go false e = ltb-false 20 k e
