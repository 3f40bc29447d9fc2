-- The verdict on a tablebase, by whether all its entries are right. Assumes nothing.
use mathlib.Core.Path.{◌≡◌, refl, sym, ap, ◌∙◌}
use mathlib.Core.Bool.{Bool, true, false}
use mathlib.Core.List.{List, [], ◌∷◌}
use Prim.Native.Nat.{ℕ, ◌*◌}
use native.Mathlib.Omega.{arith}
use lib.ListN.{get_or}
use Rattle.lists.specs.Lists.{all}
use Rattle.rules.specs.Ply.{Rule}
use Rattle.certificate.specs.Certificate.{boards, entry_right, passing, verdict, certificate}

module _ {A : Type 0} (f : A → Bool) (l : List A) where
  all_passed : all f l ≡ true → verdict f l ≡ 1 ∷ 0 ∷ []
  all_passed e = rw (e, verdict)

  one_failed : all f l ≡ false → verdict f l ≡ 0 ∷ passing f l ∷ []
  one_failed e = rw (e, verdict)

module _ (rule : Rule) (rings k : ℕ) (tablebase : List ℕ) where
  abbrev test : List ℕ → Bool
  test b = entry_right rule rings k tablebase b

  abbrev tested : List (List ℕ)
  tested = boards (8 * rings) k

  pub passed_verdict : all test tested ≡ true → certificate rule rings k tablebase ≡ 1 ∷ 0 ∷ []
  unfolding certificate
  passed_verdict e = all_passed test tested e

  pub failed_verdict : all test tested ≡ false → certificate rule rings k tablebase ≡ 0 ∷ passing test tested ∷ []
  unfolding certificate
  failed_verdict e = one_failed test tested e

  pub verdict_passed : certificate rule rings k tablebase ≡ 1 ∷ 0 ∷ [] → all test tested ≡ true
  verdict_passed e = go (all test tested) refl
    where
      go : (b : Bool) → all test tested ≡ b → all test tested ≡ true
      go true f = f
      go false f = absurd (omega (arith, ap (λ (l : List ℕ). get_or l 0 0) (sym (failed_verdict f) ∙ e)))

  pub verdict_failed : (i : ℕ) → certificate rule rings k tablebase ≡ 0 ∷ i ∷ [] → (all test tested ≡ false) × (passing test tested ≡ i)
  verdict_failed i e = go (all test tested) refl
    where
      go : (b : Bool) → all test tested ≡ b → (all test tested ≡ false) × (passing test tested ≡ i)
      go true f = absurd (omega (arith, ap (λ (l : List ℕ). get_or l 0 0) (sym (passed_verdict f) ∙ e)))
      go false f = (f, ap (λ (l : List ℕ). get_or l 1 0) (sym (failed_verdict f) ∙ e))
