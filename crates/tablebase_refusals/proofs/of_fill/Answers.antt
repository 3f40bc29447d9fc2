-- `tablebase_refusals::of_fill` meets its contract: the refusals of a check, then of the limit. Assumes nothing.
use mathlib.Core.Path.{refl, sym, ◌∙◌}
use mathlib.Core.List.{List, [], ◌∷◌}
use Rattle.refusals.specs.Refusals.{Picked, refusal_table, picked_rows}
use Rattle.refusals.specs.Conditions.{check_picks, limit_wrong}
use Rattle.refusals.proofs.FirstRefusal.{first_kept, first_after}
use Rattle.answers.specs.Answers.{refusal_number}
use Rattle.answers.proofs.Answering.{refusal_some, handed_on}
use Rattle.tablebase_refusals.proofs.of_fill.Goals as goal
use Rattle.tablebase_refusals.proofs.of_fill.Goals.{Start}

-- the rows of a check, and the one after them
rows : (s : Start) → List Picked
rows s = picked_rows refusal_table (check_picks s.args.rings s.args.edition s.args.k s.args.length)

last : (s : Start) → List Picked
last s = record { holds = limit_wrong s.args.limit; number = 10 } ∷ []

pub returns-in_err-of_check : goal.returns-in_err-of_check
unfolding rows last
returns-in_err-of_check c =
    let s = (goal.at.returns-in_err-of_check c).Start in
    let r = c.in_err-of_check.field-0.0 in
    rw (handed_on c.from_residual.result r c.from_residual.ensures.1)
    (first_kept (rows s) (last s) (refusal_number r) (refusal_some r) c.in_err-of_check.ensures)

pub returns : goal.returns
unfolding rows last
returns c =
    let s = (goal.at.returns c).Start in
    c.of_limit.ensures ∙ sym (first_after (rows s) (last s) refl c.in_ok-of_check.ensures)
