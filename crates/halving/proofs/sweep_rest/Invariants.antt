-- `halving::sweep_rest` meets its contract. The invariant: the places passed are swept. Assumes nothing.
use mathlib.Core.Path.{◌≡◌}
use Prim.Native.Nat.{◌-◌, ◌*◌}
use Rattle.sizes.specs.Size.{size}
use Rattle.ending.specs.Inner.Blocked.{blocked_range}
use Rattle.halving.proofs.sweep_rest.Given as goal

abbrev pub invariant-loop-r : goal.invariant-loop-r
invariant-loop-r l =
    (l.size ≡ size (8 * l.rings) l.table.mover l.table.opponent)
    × (l.tablebase ≡ blocked_range l.rings l.table l.from l.initial.tablebase (l.r - l.from))
