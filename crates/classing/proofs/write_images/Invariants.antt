-- `classing::write_images` meets its contract. The invariant: the images so far are written. Assumes nothing.
use mathlib.Core.Path.{◌≡◌}
use Prim.Native.Nat.{◌*◌}
use Rattle.board.specs.Board.{board_of}
use Rattle.classing.specs.Inner.Classes.{images_written}
use Rattle.classing.proofs.write_images.Given as goal

abbrev pub invariant-loop-g : goal.invariant-loop-g
invariant-loop-g l =
    l.tablebase ≡ images_written l.maps.rings l.part.start (board_of (8 * l.maps.rings) l.position) l.entry l.initial.tablebase l.g
