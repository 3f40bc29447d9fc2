-- `geometry::mill_point` meets its contract: the table's rule. Assumes nothing.
use Rattle.geometry.proofs.Tables.{mill_table}
use Rattle.geometry.proofs.mill_point.Goals as goal

pub returns : goal.returns
returns c = mill_table.at c.args.mill c.args.j c.requires.0 c.requires.1
