-- `tablebase_refusals::stones_above` meets its contract: the members of both sides are counted. Assumes nothing.
use mathlib.Core.Path.{ap₂, ◌∙◌}
use Rattle.refusals.specs.Conditions.{count_above}
use Rattle.tablebase_refusals.proofs.stones_above.Goals as goal

pub returns : goal.returns
returns c = c.count_above.ensures ∙ ap₂ (count_above c.args.k) c.count.ensures c.count-2.ensures
