-- The least number at which a test passes: there is at most one, and where a test stays passed once it has, one pass finds it.
-- Assumes nothing.
use mathlib.Core.Path.{◌≡◌, refl, sym, ◌∙◌}
use mathlib.Core.Bool.{Bool, true, false}
use Prim.Native.Nat.{ℕ, zero, suc, ◌≤◌}
use native.Mathlib.Omega.{arith}
use native.Mathlib.Decide.{le_ind}
use native.Mathlib.Nat.{not-suc-le-zero}
use lib.Dec.{ltb}
use borrow.Author.Tests.{ltb-true, ltb-false}
use Rattle.lists.proofs.Tests.{clash, untrue}
use Rattle.game.specs.Game.{Least}

-- a test that, once passed, stays passed
abbrev pub Mono : (ℕ → Bool) → Type 0
Mono f = (n : ℕ) → f n ≡ true → f (suc n) ≡ true

module _ (f : ℕ → Bool) where
  pub mono_le : Mono f → {n m : ℕ} → n ≤ m → f n ≡ true → f m ≡ true
  mono_le h {n} {m} l t = le_ind (λ (k : ℕ). f k ≡ true) t (λ k i e. h k e) m l

  -- the test fails at every number up to one at which it fails
  pub mono_below : Mono f → {n m : ℕ} → n ≤ m → f m ≡ false → f n ≡ false
  mono_below h {n} {m} l e = sym (untrue (f n) (λ t. clash (mono_le h l t) e))

  pub least_unique : {n m : ℕ} → Least f n → Least f m → n ≡ m
  least_unique {n} {m} a b = go (ltb n m) refl (ltb m n) refl
    where
      go : (s : Bool) → ltb n m ≡ s → (t : Bool) → ltb m n ≡ t → n ≡ m
      go true p t q = clash a.holds (b.below n (ltb-true n m p))
      go false p true q = clash b.holds (a.below m (ltb-true m n q))
      go false p false q = omega (arith, ltb-false n m p, ltb-false m n q)

  pub least_zero : f zero ≡ true → Least f zero
  least_zero t = record { holds = t; below = λ k l. absurd (not-suc-le-zero l) }

  -- of a test that stays passed, one failure is enough
  pub least_at : Mono f → (n : ℕ) → f n ≡ false → f (suc n) ≡ true → Least f (suc n)
  least_at h n e t = record { holds = t; below = λ k l. mono_below h (omega arith) e }

  pub least_find : Mono f → (n : ℕ) → f n ≡ true → (k : ℕ) × (k ≤ n) × Least f k
  least_find h zero t = (zero, omega arith, least_zero t)
  least_find h (suc n) t = go (f n) refl (λ e. least_find h n e)
    where
      go : (b : Bool) → f n ≡ b → (f n ≡ true → (k : ℕ) × (k ≤ n) × Least f k) → (k : ℕ) × (k ≤ suc n) × Least f k
      go true e r = let s = r e in (s.0, omega (arith, s.1), s.2)
      go false e r = (suc n, omega arith, least_at h n e t)

-- tests that agree have the same least number
pub same_least : (f g : ℕ → Bool) → ((n : ℕ) → f n ≡ g n) → {n : ℕ} → Least f n → Least g n
same_least f g h {n} a = record { holds = sym (h n) ∙ a.holds; below = λ k l. sym (h k) ∙ a.below k l }
