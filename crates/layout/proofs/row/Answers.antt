-- `layout::row` meets its contract. The invariant: the sizes of the tables passed. Assumes nothing.
use mathlib.Core.Path.{◌≡◌}
use Prim.Native.Nat.{suc, ◌+◌}
use native.Mathlib.Numerals.{add-one}
use native.Mathlib.Omega.{arith}
use Rattle.sizes.proofs.Multinomials.{size_small}
use Rattle.layout.proofs.Places.{row_more}
use Rattle.layout.proofs.row.Goals as goal

pub overflow_add-sum : goal.overflow_add-sum
overflow_add-sum c =
    let a = c.args in
    omega (arith, c.size-sum.ensures, size_small a.points a.m (3 + c.loop-j.j) (omega arith))

pub loop-j-preserved : goal.loop-j-preserved
loop-j-preserved c =
    let a = c.args in
    let e : c.loop-j.j + 1 ≡ suc c.loop-j.j = add-one c.loop-j.j in (
      rw e (omega (arith, c.loop-j.invariant.0, c.size-sum.ensures, row_more a.points a.m c.loop-j.j)),
      omega (arith, c.size-sum.ensures, size_small a.points a.m (3 + c.loop-j.j) (omega arith)),
    )
