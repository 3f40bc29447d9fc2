-- `layout::tablebase_length` meets its contract: all rows. Assumes nothing.
use mathlib.Core.Path.{sym, ◌∙◌}
use native.Mathlib.Omega.{arith}
use Rattle.layout.proofs.Places.{length_is_lem}
use Rattle.layout.proofs.tablebase_length.Goals as goal

pub returns : goal.returns
returns c = let a = c.args in (c.rows.ensures.0 ∙ sym (length_is_lem a.points a.k), omega arith)
