-- `layout::row` meets its contract. The invariant: the sizes of the tables passed. Assumes nothing.
use mathlib.Core.Path.{◌≡◌}
use Prim.Native.Nat.{◌*◌, ◌^◌, ◌≤◌}
use Rattle.layout.proofs.Places.{row_part}
use Rattle.layout.proofs.row.Given as goal

abbrev pub invariant-loop-j : goal.invariant-loop-j
invariant-loop-j l = (l.sum ≡ row_part l.points l.m l.j) × (l.sum ≤ 2 ^ 48 * l.j)
