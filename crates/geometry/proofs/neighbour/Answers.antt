-- `geometry::neighbour` meets its contract: the table's rule. Assumes nothing.
use Rattle.geometry.proofs.Tables.{neighbour_table}
use Rattle.geometry.proofs.neighbour.Goals as goal

pub returns : goal.returns
returns c = neighbour_table.at c.args.p c.args.j c.requires.0 c.requires.1
