-- By how many maps a pair may be filled over given lower tables. Assumes nothing.
use mathlib.Core.Path.{◌≡◌, sym, subst₂}
use mathlib.Core.Bool.{Bool, true, false}
use mathlib.Core.List.{List}
use mathlib.Core.Logic.{inl, inr}
use Prim.Native.Nat.{ℕ, ◌-◌, ◌≤◌}
use native.Mathlib.Omega.{arith}
use Rattle.symmetry.specs.Symmetries.{symmetries}
use Rattle.invariance.specs.Symmetric.{TableSymmetric, LowerSymmetric}
use Rattle.invariance.specs.Inner.Used.{Used}
use Rattle.invariance.proofs.Groups.{group_of}
use Rattle.comparing.specs.Inner.Compared.{Decides}

module _ (rings k m o : ℕ) (tablebase : List ℕ) where
  -- both lower tables are symmetric under all maps, and so under fewer
  pub lower_both : (4 ≤ o → TableSymmetric symmetries rings k tablebase (o - 1) m) → (4 ≤ m → TableSymmetric symmetries rings k tablebase (m - 1) o)
      → (maps : ℕ) → Used maps → LowerSymmetric maps rings k m o tablebase
  lower_both one two maps used x y (three, inl (e, f)) r g h l =
      let p : o - 1 ≡ x = omega arith in
      subst₂ (λ (u v : ℕ). TableSymmetric symmetries rings k tablebase u v) p (sym f) (one (omega arith)) r g h (omega (arith, (group_of maps used).high))
  lower_both one two maps used x y (three, inr (e, f)) r g h l =
      let p : m - 1 ≡ x = omega arith in
      subst₂ (λ (u v : ℕ). TableSymmetric symmetries rings k tablebase u v) p (sym f) (two (omega arith)) r g h (omega (arith, (group_of maps used).high))

-- an answer about two things that say the same
pub decides_same : (P Q : Type 0) → (P → Q) → (Q → P) → (b : Bool) → Decides P b → Decides Q b
decides_same P Q f g true w = f w
decides_same P Q f g false w = λ q. w (g q)
