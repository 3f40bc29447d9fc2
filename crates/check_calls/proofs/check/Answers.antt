-- `check_calls::check` meets its contract: a refusal, or the verdict on the tablebase. Assumes nothing.
use mathlib.Core.Path.{sym, ap, ◌∙◌}
use mathlib.Core.List.{[], ◌∷◌}
use Prim.Native.Nat.{ℕ}
use lib.ListN.{length}
use Rattle.rules.specs.Ply.{removable}
use Rattle.certificate.proofs.Verdict.{passed_verdict, failed_verdict}
use Rattle.refusals.proofs.TablebaseConditions.{AcceptedCheck, accepted_check}
use Rattle.answers.specs.Answers.{refusal_number}
use Rattle.answers.proofs.Answering.{refusal_some, handed_on}
use Rattle.checking.proofs.Steps.{tested_right, tested_wrong}
use Rattle.check_calls.proofs.Answered.{check_refused, check_answers}
use Rattle.check_calls.proofs.check.Goals as goal
use Rattle.check_calls.proofs.check.Goals.{In_ok-of_check}

pub returns-in_err-of_check : goal.returns-in_err-of_check
returns-in_err-of_check c =
    let a = c.args in
    let r = c.in_err-of_check.field-0.0 in
    rw (handed_on c.from_residual.result r c.from_residual.ensures.1)
    (check_refused a.rings a.edition a.k a.tablebase.now (refusal_number r) (refusal_some r) c.in_err-of_check.ensures)

-- past the refusals
known : (c : In_ok-of_check)
    → AcceptedCheck c.args.rings c.args.edition c.args.k (length c.args.tablebase.now)
known c = accepted_check _ _ _ _ (sym c.in_ok-of_check.ensures)

pub returns-in-Ok : goal.returns-in-Ok
returns-in-Ok c =
    let a = c.args in
    check_answers a.rings a.edition a.k a.tablebase.now c.in_ok-of_check.ensures _
    (passed_verdict (removable a.edition) a.rings a.k a.tablebase.now (tested_right _ _ c.check_all.ensures c.in-Ok.is))

pub returns-in-Err : goal.returns-in-Err
returns-in-Err c =
    let a = c.args in
    let w = tested_wrong _ _ c.check_all.ensures c.in-Err.is in
    check_answers a.rings a.edition a.k a.tablebase.now c.in_ok-of_check.ensures _
    (failed_verdict (removable a.edition) a.rings a.k a.tablebase.now w.0 ∙ ap (λ (i : ℕ). 0 ∷ i ∷ []) w.1)

pub masks_of-masks-requires : goal.masks_of-masks-requires
masks_of-masks-requires c = (known (goal.at.masks_of-masks-requires c).In_ok-of_check).tablebase.rings_high

pub check_all-requires : goal.check_all-requires
check_all-requires c =
    let w = (known (goal.at.check_all-requires c).In_ok-of_check).tablebase in
    record { masks = c.masks_of-masks.ensures; whole = record { small = w.rings_high; largest_low = w.largest_low; largest_high = w.largest_high; exact = w.exact } }
