-- `frame_writing::write_points` meets its contract. The invariant: what is left to be written makes of the target what it is to be.
-- Assumes nothing.
use mathlib.Core.Path.{◌≡◌}
use Prim.Native.Nat.{◌+◌, ◌*◌}
use lib.ListN.{drop}
use lib.Seq.{sets}
use Rattle.frames.specs.Frame.{packed, spelled}
use Rattle.frame_writing.proofs.write_points.Given as goal

abbrev pub invariant-loop-k : goal.invariant-loop-k
invariant-loop-k l =
    sets l.target (2 + 2 * l.k) (spelled (packed (drop (4 * l.k) l.board))) ≡ sets l.initial.target 2 (spelled (packed l.board))
