-- What the functions on a position in a tablebase ask of their caller. Assumes nothing.
use Rattle.std.specs.Prelude.{◌≡◌, List, ℕ, ◌*◌, ◌≤◌}
use Rattle.board.specs.declared.Position.{Position}
use Rattle.board.specs.Board.{count, board_of}
use Rattle.layout.specs.Layout.{tablebase_length}
use Rattle.plies.specs.Inner.Positions.{Placed}

-- a position of the tables of largest count k, and a tablebase of the right length
pub record InTablebase (length rings k : ℕ) (position : Position) : Type 0 where
  pub placed : Placed rings position
  pub exact : length ≡ tablebase_length (8 * rings) k
  pub largest : k ≤ 9
  pub mover_low : 3 ≤ count 1 (board_of (8 * rings) position)
  pub mover_high : count 1 (board_of (8 * rings) position) ≤ k
  pub opponent_low : 3 ≤ count 2 (board_of (8 * rings) position)
  pub opponent_high : count 2 (board_of (8 * rings) position) ≤ k
