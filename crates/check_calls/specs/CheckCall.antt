-- The call `check` (document 02, A8: "Arguments meet the refusals of a shelf fill except limit and depth"; A11: it takes the edition). Assumes nothing.
use Rattle.std.specs.Prelude.{List, ℕ, length}
use Rattle.rules.specs.Ply.{removable}
use Rattle.certificate.specs.Certificate.{certificate}
use Rattle.refusals.specs.Refusals.{refusal}
use Rattle.refusals.specs.Conditions.{check_picks}
use Rattle.answers.specs.Answers.{Answer, answer}

-- 1, 20, 11, 6; else whether the tablebase passed, and the first index that fails
unfoldable pub check_call : ℕ → ℕ → ℕ → List ℕ → Answer
check_call rings edition k tablebase =
    answer (refusal (check_picks rings edition k (length tablebase))) (certificate (removable edition) rings k tablebase)
