-- What the functions that mark the positions before a ply ask of their caller. Assumes nothing.
use Rattle.std.specs.Prelude.{List, ℕ, ◌+◌, ◌*◌}
use Rattle.board.specs.declared.Position.{Position}
use Rattle.board.specs.Board.{count, digit, board_of}
use Rattle.plies.specs.Inner.Positions.{Placed}
use Rattle.marks.specs.Inner.Putting.{Room}
use Rattle.returning.specs.declared.Back.{Back}

-- a position, and the table of the positions before a ply to it, among so many places
pub record Returning (length rings : ℕ) (back : Back) (position : Position) : Type 0 where
  pub placed : Placed rings position
  pub room : Room (8 * rings) (count 2 (board_of (8 * rings) position)) (count 1 (board_of (8 * rings) position) + digit back.capture)
      back.part.start back.part.end length
