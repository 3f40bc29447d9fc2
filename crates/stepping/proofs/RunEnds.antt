-- The digits of a difference of sets, and so where the runs of a set end. Assumes nothing.
use mathlib.Core.Path.{◌≡◌, sym, ap, ap₂, ◌∙◌}
use Prim.Native.Nat.{ℕ, zero, suc, ◌+◌, ◌-◌, ◌*◌, ◌/◌, ◌%◌, ◌^◌, ◌≤◌, ◌<◌, min}
use native.Mathlib.Omega.{arith}
use lib.Arith.{digits_div, digits_mod}
use lib.Bits.{bit_and, and_step, and_le_l}
use Rattle.sets.specs.Sets.{bit}
use Rattle.sets.proofs.Laws.{bit_zero, bit_suc}
use Rattle.stepping.specs.Inner.Ends.{Ends}

less : (h a d e : ℕ) → a ≤ h → e ≤ d → h * 2 + d - (a * 2 + e) ≡ (h - a) * 2 + (d - e)
less h a d e k l = omega arith

minus_step : (s t : ℕ) → s - bit_and s t ≡ (s / 2 - bit_and (s / 2) (t / 2)) * 2 + (s % 2 - min (s % 2) (t % 2))
minus_step s t =
    let e : s ≡ s / 2 * 2 + s % 2 = omega arith in
    ap₂ ◌-◌ e (and_step s t) ∙ less (s / 2) (bit_and (s / 2) (t / 2)) (s % 2) (min (s % 2) (t % 2)) (and_le_l (s / 2) (t / 2)) (omega arith)

minus_lt : (s t : ℕ) → s % 2 - min (s % 2) (t % 2) < 2
minus_lt s t = omega arith

bit_minus : (s t p : ℕ) → bit (s - bit_and s t) p ≡ bit s p - min (bit s p) (bit t p)
bit_minus s t zero =
    bit_zero (s - bit_and s t) ∙ ap (λ (x : ℕ). x % 2) (minus_step s t) ∙ digits_mod (s / 2 - bit_and (s / 2) (t / 2)) (minus_lt s t)
    ∙ ap₂ (λ (x y : ℕ). x - min x y) (sym (bit_zero s)) (sym (bit_zero t))
bit_minus s t (suc p) =
    let h : (s - bit_and s t) / 2 ≡ s / 2 - bit_and (s / 2) (t / 2) =
    ap (λ (x : ℕ). x / 2) (minus_step s t) ∙ digits_div (s / 2 - bit_and (s / 2) (t / 2)) (minus_lt s t) in
    bit_suc (s - bit_and s t) p ∙ ap (λ (x : ℕ). bit x p) h ∙ bit_minus (s / 2) (t / 2) p
    ∙ ap₂ (λ (x y : ℕ). x - min x y) (sym (bit_suc s p)) (sym (bit_suc t p))

bit_double : (s q : ℕ) → bit (2 * s) (suc q) ≡ bit s q
bit_double s q = let e : 2 * s / 2 ≡ s = omega arith in bit_suc (2 * s) q ∙ ap (λ (x : ℕ). bit x q) e

pub ends_are : (s : ℕ) → s < 2 ^ 24 → Ends s (2 * s - bit_and (2 * s) s)
ends_are s h = record {
  first = bit_minus (2 * s) s 0 ∙ omega (arith, bit_zero (2 * s));
  after = λ q. bit_minus (2 * s) s (suc q) ∙ ap (λ (x : ℕ). x - min x (bit s (suc q))) (bit_double s q);
  within = omega arith;
}
