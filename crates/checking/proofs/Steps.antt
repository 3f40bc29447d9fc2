-- A list of boards checked part after part: a part's answer takes the loop on, or is that of the whole. Assumes nothing.
use mathlib.Core.Path.{◌≡◌, sym, ap, subst, ◌∙◌}
use mathlib.Core.Bool.{Bool, true, false}
use mathlib.Core.List.{List}
use Prim.Native.Nat.{ℕ, ◌+◌, ◌≤◌, ◌<◌}
use native.Mathlib.Omega.{arith}
use lib.ListN.{length}
use Rattle.lists.specs.Lists.{all}
use Rattle.certificate.specs.Certificate.{passing}
use Rattle.certificate.proofs.Passing.{Going, parts_from, part_passed, part_failed, part_room, parts_passed}
use Rattle.std.specs.Prelude.{Result, Ok, Err}
use Rattle.checking.specs.Inner.Checking.{Tested, count_of, all_of}

module _ (part : ℕ → List (List ℕ)) (f : List ℕ → Bool) (whole : List (List ℕ)) (n i e : ℕ) (g : Going f whole n (parts_from part i e)) where
  module _ (h : i < e) (p : Result ℕ ℕ) (w : Tested f (part i) p) (k : ℕ) where
    pub step_passed : p ≡ Ok k → Going f whole (n + k) (parts_from part (i + 1) e)
    step_passed q =
        let v : Tested f (part i) (Ok k) = subst (Tested f (part i)) q w in
        subst (λ (x : ℕ). Going f whole (n + x) (parts_from part (i + 1) e)) (sym v.count_is) (part_passed part f whole n i e g h (sym v.all_is))

    pub step_failed : p ≡ Err k → Tested f whole (Err (n + k))
    step_failed q =
        let v : Tested f (part i) (Err k) = subst (Tested f (part i)) q w in
        let (c, d) = part_failed part f whole n i e g h (sym v.all_is) in
        record { count_is = omega (arith, c, v.count_is); all_is = d }

    pub step_room : count_of p ≡ k → n + k ≤ length whole
    step_room q = omega (arith, part_room part f whole n i e g h, w.count_is, q)

  pub steps_done : e ≤ i → Tested f whole (Ok n)
  steps_done h = let (c, d) = parts_passed part f whole n i e g h in record { count_is = c; all_is = d }

-- what is known of the boards by an answer
module _ (f : List ℕ → Bool) (boards : List (List ℕ)) {r : Result ℕ ℕ} {n : ℕ} (w : Tested f boards r) where
  pub tested_right : r ≡ Ok n → all f boards ≡ true
  tested_right e = sym w.all_is ∙ ap all_of e

  pub tested_wrong : r ≡ Err n → (all f boards ≡ false) × (passing f boards ≡ n)
  tested_wrong e = (sym w.all_is ∙ ap all_of e, sym w.count_is ∙ ap count_of e)
