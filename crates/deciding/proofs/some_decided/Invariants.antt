-- `deciding::some_decided` meets its contract. The invariant: no place passed is open and decided. Assumes nothing.
use mathlib.Core.Path.{◌≡◌}
use Prim.Native.Nat.{◌+◌}
use mathlib.Core.Bool.{false}
use Rattle.rules.specs.Ply.{removable}
use Rattle.deciding.specs.Inner.Open.{open_decided, Found}
use Rattle.deciding.proofs.some_decided.Given as goal

abbrev pub invariant-loop-r : goal.invariant-loop-r
invariant-loop-r l =
    (l.table.own.start + l.size ≡ l.table.own.end) × Found (open_decided (removable l.edition) l.rings l.table l.same l.tablebase) l.r false
