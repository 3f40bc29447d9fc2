-- A walk over the points that a stone may go to: the stone is lifted, the sides have changed names, and at the point reached the board with the stone put
-- down is the one after its move there without a removal. Assumes nothing.
use Rattle.std.specs.Prelude.{◌≡◌, true, ℕ, ◌+◌, ◌*◌, set}
use Rattle.board.specs.declared.Position.{Position}
use Rattle.board.specs.Board.{count, board_of}
use Rattle.inserting.specs.Inner.Inserting.{Inserting, Vacant}
use Rattle.rules.specs.Ply.{no_removal, after_ply}
use Rattle.rules.specs.Inner.Making.{Makeable}
use Rattle.plies.specs.Inner.Positions.{Placed}
use Rattle.jumping.specs.declared.Jump.{Jump}

pub record Jumping (rings : ℕ) (position : Position) (jump : Jump) : Type 0 where
  pub placed : Placed rings jump.lifted
  pub vacant : Vacant (board_of (8 * rings) jump.lifted) jump.walk.at
  pub inserting : Inserting (board_of (8 * rings) jump.lifted) true jump.walk
  pub makeable : Makeable rings (board_of (8 * rings) position) (jump.slide + no_removal)
  pub leads : set (board_of (8 * rings) jump.lifted) jump.walk.at 2 ≡ after_ply (board_of (8 * rings) position) (jump.slide + no_removal)
  pub stays : count 1 (after_ply (board_of (8 * rings) position) (jump.slide + no_removal)) ≡ count 2 (board_of (8 * rings) position)
