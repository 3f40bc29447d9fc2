-- `layout::start` meets its contract: the rows before, and the tables before in the row. Assumes nothing.
use mathlib.Core.Path.{sym, ap₂, ◌∙◌}
use Prim.Native.Nat.{◌+◌}
use native.Mathlib.Omega.{arith}
use Rattle.layout.proofs.Places.{start_is}
use Rattle.layout.proofs.start.Goals as goal

pub returns : goal.returns
returns c =
    let a = c.args in
    let p = c.requires in
    (ap₂ ◌+◌ c.rows.ensures.0 c.row.ensures.0 ∙ sym (start_is a.points a.k a.m a.o p.2 p.3 p.4 p.5), omega arith)
