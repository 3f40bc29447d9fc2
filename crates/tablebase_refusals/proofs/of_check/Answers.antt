-- `tablebase_refusals::of_check` meets its contract: the refusals of rings and edition, then those of K and the tablebase. Assumes nothing.
use mathlib.Core.Path.{refl, sym, ◌∙◌}
use mathlib.Core.Bool.{false}
use mathlib.Core.List.{List}
use Rattle.refusals.specs.Refusals.{Picked, refusal_table, picked_rows}
use Rattle.refusals.specs.Conditions.{edition_picks, largest_picks}
use Rattle.refusals.proofs.FirstRefusal.{first_kept, first_after}
use Rattle.refusals.proofs.Conditions.{edition_rings}
use Rattle.answers.specs.Answers.{refusal_number}
use Rattle.answers.proofs.Answering.{refusal_some, handed_on}
use Rattle.tablebase_refusals.proofs.of_check.Goals as goal
use Rattle.tablebase_refusals.proofs.of_check.Goals.{Start}

-- the rows of rings and edition, and those after them
rows : (s : Start) → List Picked
rows s = picked_rows refusal_table (edition_picks s.args.rings s.args.edition)

later : (s : Start) → List Picked
later s = picked_rows refusal_table (largest_picks s.args.rings s.args.k false s.args.length)

pub returns-in_err-of_edition : goal.returns-in_err-of_edition
unfolding rows later
returns-in_err-of_edition c =
    let s = (goal.at.returns-in_err-of_edition c).Start in
    let r = c.in_err-of_edition.field-0.0 in
    rw (handed_on c.from_residual.result r c.from_residual.ensures.1)
    (first_kept (rows s) (later s) (refusal_number r) (refusal_some r) c.in_err-of_edition.ensures)

pub of_largest-requires : goal.of_largest-requires
of_largest-requires c = edition_rings c.args.rings c.args.edition c.in_ok-of_edition.ensures

pub returns : goal.returns
unfolding rows later
returns c =
    let s = (goal.at.returns c).Start in
    c.of_largest.ensures ∙ sym (first_after (rows s) (later s) refl c.in_ok-of_edition.ensures)
