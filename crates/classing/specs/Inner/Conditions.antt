-- What the functions on the images of a position ask of their caller. Assumes nothing.
use Rattle.std.specs.Prelude.{◌≡◌, List, ℕ, ◌+◌, ◌*◌, ◌≤◌}
use Rattle.board.specs.declared.Position.{Position}
use Rattle.board.specs.Board.{count, board_of, OnBoard}
use Rattle.sizes.specs.Size.{size}
use Rattle.parts.specs.declared.Part.{Part}
use Rattle.classing.specs.declared.Maps.{Maps}

-- a position, and how many maps make a class
pub record Imaging (maps : Maps) (position : Position) : Type 0 where
  pub small : maps.rings ≤ 3
  pub few : maps.count ≤ 16
  pub on : OnBoard (8 * maps.rings) position

-- a part of a tablebase of a length is the table of a position
pub record InTable (length rings : ℕ) (part : Part) (position : Position) : Type 0 where
  pub within : part.end ≤ length
  pub whole : part.end ≡ part.start + size (8 * rings) (count 1 (board_of (8 * rings) position)) (count 2 (board_of (8 * rings) position))
