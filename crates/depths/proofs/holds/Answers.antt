-- `depths::holds` meets its contract. Assumes nothing.
use Rattle.depths.proofs.Held.{held}
use Rattle.depths.proofs.holds.Goals as goal

pub returns : goal.returns
returns c = let a = c.args in held a.tablebase.now a.part a.entry c.find.result c.find.ensures
