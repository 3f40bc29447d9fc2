-- Parts one after the other: E i is where part i starts and f i is how long it is. Each place lies in one of them. Assumes nothing.
use mathlib.Core.Path.{◌≡◌, refl}
use mathlib.Core.Bool.{Bool, true, false}
use Prim.Native.Nat.{ℕ, zero, suc, ◌+◌, ◌-◌, ◌≤◌, ◌<◌}
use native.Mathlib.Decide.{le_ind}
use native.Mathlib.Omega.{arith}
use lib.Dec.{ltb}
use borrow.Author.Tests.{ltb-true, ltb-false}

-- a place: its part, and how far it is from the part's start
pub record Place (E f : ℕ → ℕ) (n x : ℕ) : Type 0 where
  pub part : ℕ
  pub offset : ℕ
  pub part_low : part < n
  pub offset_low : offset < f part
  pub at : E part + offset ≡ x

module _ (E f : ℕ → ℕ) (none : E 0 ≡ 0) (more : (n : ℕ) → E (suc n) ≡ E n + f n) where
  starts_rise : {a b : ℕ} → a ≤ b → E a ≤ E b
  starts_rise {a} {b} h = le_ind (λ (x : ℕ). E a ≤ E x) (omega arith) (λ k hk l. omega (arith, more k)) b h

  -- a part ends before any later part starts
  pub part_before : {a b : ℕ} → a < b → E a + f a ≤ E b
  part_before {a} {b} h = omega (arith, more a, starts_rise {a = suc a} {b = b} h)

  pub part_of : (n x : ℕ) → x < E n → Place E f n x
  part_of zero x h = absurd (omega arith)
  part_of (suc n) x h = go (ltb x (E n)) refl (λ l. part_of n x l)
    where
      go : (b : Bool) → ltb x (E n) ≡ b → (x < E n → Place E f n x) → Place E f (suc n) x
      go true e below =
          let s = below (ltb-true x (E n) e) in
          record { part = s.part; offset = s.offset; part_low = omega (arith, s.part_low); offset_low = s.offset_low; at = s.at }
      go false e below =
          let l = ltb-false x (E n) e in
          record { part = n; offset = x - E n; part_low = omega arith; offset_low = omega (arith, more n); at = omega arith }
