-- `comparing::is_symmetric` meets its contract. The invariant: the positions passed are draws or keep their entries. Assumes nothing.
use mathlib.Core.Path.{◌≡◌}
use Prim.Native.Nat.{◌-◌, ◌*◌, ◌≤◌}
use Rattle.sizes.specs.Size.{size}
use Rattle.seeking.specs.Inner.Cursors.{Stands}
use Rattle.comparing.proofs.Tested.{AllTested}
use Rattle.comparing.proofs.is_symmetric.Given as goal

abbrev pub invariant-loop-r : goal.invariant-loop-r
invariant-loop-r l =
    (l.size ≡ size (8 * l.rings) l.table.mover l.table.opponent) × (l.r ≤ l.size)
    × ((few : l.rings ≤ 3) → AllTested l.rings l.start l.table.mover l.table.opponent l.tablebase few l.r) × Stands l.rings l.table.mover l.table.opponent l.size l.at

abbrev pub decreases-loop-r : goal.decreases-loop-r
decreases-loop-r l = l.size - l.r
