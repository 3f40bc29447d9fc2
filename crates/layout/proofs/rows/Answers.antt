-- `layout::rows` meets its contract. The invariant: the entries of the rows passed. Assumes nothing.
use mathlib.Core.Path.{◌≡◌}
use Prim.Native.Nat.{suc, ◌+◌}
use native.Mathlib.Numerals.{add-one}
use native.Mathlib.Omega.{arith}
use Rattle.layout.proofs.Places.{rows_more}
use Rattle.layout.proofs.rows.Goals as goal

pub loop-i-preserved : goal.loop-i-preserved
loop-i-preserved c =
    let a = c.args in
    let e : c.loop-i.i + 1 ≡ suc c.loop-i.i = add-one c.loop-i.i in
    (rw e (omega (arith, c.loop-i.invariant.0, c.row-sum.ensures.0, rows_more a.points a.k c.loop-i.i)), omega arith)
