-- `tablebase_refusals::of_limit` meets its contract: the one row is met or passed. Assumes nothing.
use mathlib.Core.List.{List, [], ◌∷◌}
use borrow.Author.Tests.{lt-ltb, le-ltb}
use Rattle.refusals.specs.Refusals.{Picked, refusal_table, picked_rows, pick, wrong_limit}
use Rattle.refusals.specs.Conditions.{limit_wrong, largest_limit}
use Rattle.refusals.proofs.FirstRefusal.{meets, passes}
use Rattle.tablebase_refusals.proofs.of_limit.Goals as goal
use Rattle.tablebase_refusals.proofs.of_limit.Goals.{Start}

-- the row that is picked
rows : (s : Start) → List Picked
rows s = picked_rows refusal_table (pick wrong_limit (limit_wrong s.args.limit) ∷ [])

pub returns-then-limit-gt-LARGEST_LIMIT : goal.returns-then-limit-gt-LARGEST_LIMIT
unfolding rows
returns-then-limit-gt-LARGEST_LIMIT c =
    meets (rows (goal.at.returns-then-limit-gt-LARGEST_LIMIT c).Start) 0 tt (lt-ltb largest_limit c.args.limit c.if-limit-gt-LARGEST_LIMIT.true)

pub returns : goal.returns
unfolding rows
returns c = passes (rows (goal.at.returns c).Start) (le-ltb largest_limit c.args.limit c.if-limit-gt-LARGEST_LIMIT.false, tt)
