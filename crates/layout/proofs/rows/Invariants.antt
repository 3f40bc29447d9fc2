-- `layout::rows` meets its contract. The invariant: the entries of the rows passed. Assumes nothing.
use mathlib.Core.Path.{◌≡◌}
use Prim.Native.Nat.{◌*◌, ◌^◌, ◌≤◌}
use Rattle.layout.proofs.Places.{rows_part}
use Rattle.layout.proofs.rows.Given as goal

abbrev pub invariant-loop-i : goal.invariant-loop-i
invariant-loop-i l = (l.sum ≡ rows_part l.points l.k l.i) × (l.sum ≤ 2 ^ 48 * 7 * l.i)
