-- `geometry::degree` meets its contract: the table's rule. Assumes nothing.
use Rattle.geometry.proofs.Tables.{degree_table}
use Rattle.geometry.proofs.degree.Goals as goal

pub returns : goal.returns
returns c = degree_table.at c.args.p c.requires
