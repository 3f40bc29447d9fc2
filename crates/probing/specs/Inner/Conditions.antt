-- What the functions on a position's successors ask of their caller. Assumes nothing.
use Rattle.std.specs.Prelude.{List, ℕ, ◌*◌}
use Rattle.board.specs.declared.Position.{Position}
use Rattle.board.specs.Board.{count, board_of}
use Rattle.plies.specs.Inner.Positions.{Placed}
use Rattle.tables.specs.declared.Starts.{Starts}
use Rattle.probing.specs.Inner.Probes.{StonesLeft, Reads}

-- a position, and the tables of its successors, which lie within a tablebase of a length
pub record Probing (length rings : ℕ) (starts : Starts) (position : Position) : Type 0 where
  pub placed : Placed rings position
  pub reads : Reads length (8 * rings) (count 1 (board_of (8 * rings) position)) (count 2 (board_of (8 * rings) position)) starts.same starts.fewer

-- a position that a ply of a side has reached, where the other had so many stones: the tables are those of the position before
pub record AfterPly (length rings : ℕ) (starts : Starts) (opponent : ℕ) (position : Position) : Type 0 where
  pub placed : Placed rings position
  pub left : StonesLeft opponent (count 1 (board_of (8 * rings) position))
  pub reads : Reads length (8 * rings) (count 2 (board_of (8 * rings) position)) opponent starts.same starts.fewer
