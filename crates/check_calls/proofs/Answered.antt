-- What `check` answers, by the refusal that it meets and the verdict, both ways. Assumes nothing.
use mathlib.Core.Path.{◌≡◌, sym, ap, ◌∙◌}
use mathlib.Core.List.{List}
use Prim.Native.Nat.{ℕ}
use lib.ListN.{length}
use Rattle.rules.specs.Ply.{removable}
use Rattle.certificate.specs.Certificate.{certificate}
use Rattle.refusals.specs.Refusals.{refusal}
use Rattle.refusals.specs.Conditions.{check_picks}
use Rattle.answers.specs.Answers.{accepted, refused}
use Rattle.answers.proofs.Answering.{answer_refused, answer_accepted, accepted_values}
use Rattle.check_calls.specs.CheckCall.{check_call}

module _ (rings edition k : ℕ) (tablebase : List ℕ) where
  pub check_refused : (n : ℕ) → (n ≡ 0 → ⊥) → n ≡ refusal (check_picks rings edition k (length tablebase))
      → refused n ≡ check_call rings edition k tablebase
  unfolding check_call
  check_refused n z e = answer_refused n _ _ z e

  -- no refusal: the verdict
  pub check_answers : 0 ≡ refusal (check_picks rings edition k (length tablebase)) → (values : List ℕ)
      → certificate (removable edition) rings k tablebase ≡ values → accepted values ≡ check_call rings edition k tablebase
  unfolding check_call
  check_answers z values e = ap accepted (sym e) ∙ answer_accepted _ _ z

  pub check_answered : (values : List ℕ) → accepted values ≡ check_call rings edition k tablebase
      → (refusal (check_picks rings edition k (length tablebase)) ≡ 0) × (certificate (removable edition) rings k tablebase ≡ values)
  unfolding check_call
  check_answered values e =
      let (z, v) = accepted_values values (certificate (removable edition) rings k tablebase) (refusal (check_picks rings edition k (length tablebase))) e in
      (z, sym v)
