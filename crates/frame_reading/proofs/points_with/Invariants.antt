-- `frame_reading::points_with` meets its contract. The invariant: the set of the bytes passed, from the last on. Assumes nothing.
use mathlib.Core.Path.{◌≡◌}
use Prim.Native.Nat.{◌≤◌, ◌*◌}
use lib.ListN.{drop}
use Rattle.board.specs.Board.{set_of}
use Rattle.frames.specs.Frame.{bytes_in, points_in}
use Rattle.frame_reading.proofs.points_with.Given as goal

abbrev pub invariant-loop-i : goal.invariant-loop-i
invariant-loop-i l = (1 ≤ l.i) × (l.s ≡ set_of l.v (points_in (bytes_in (drop (2 * l.i) l.frame))))
