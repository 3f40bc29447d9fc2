-- The position after a move that can be made is placed, and stands for its board. Assumes nothing.
use mathlib.Core.Path.{◌≡◌, ◌∙◌}
use mathlib.Core.List.{List}
use Prim.Native.Nat.{ℕ, ◌*◌}
use lib.ListN.{length}
use Rattle.board.specs.declared.Position.{Position}
use Rattle.board.specs.Board.{position_of, board_of}
use Rattle.board.proofs.Sides.{length_board, board_values}
use Rattle.rules.specs.Ply.{removed_of, after_ply}
use Rattle.rules.specs.Inner.Making.{Makeable}
use Rattle.rules.proofs.Leads.{Leads, makeable_leads}
use Rattle.plies.specs.Inner.Positions.{Placed}
use Rattle.plies.proofs.BoardPositions.{board_placed, board_back}

module _ (rings : ℕ) (position : Position) (placed : Placed rings position) (n : ℕ) (makeable : Makeable rings (board_of (8 * rings) position) n) where
  abbrev board : List ℕ
  board = board_of (8 * rings) position

  pub after_leads : Leads board (after_ply board n) (removed_of n)
  after_leads =
      makeable_leads rings placed.small board (board_values (8 * rings) position placed.on) (length_board (8 * rings) position) n makeable

  points : length (after_ply board n) ≡ 8 * rings
  points = after_leads.points ∙ length_board (8 * rings) position

  pub after_placed : Placed rings (position_of (after_ply board n))
  after_placed = board_placed rings placed.small (after_ply board n) after_leads.values points

  pub after_board : board_of (8 * rings) (position_of (after_ply board n)) ≡ after_ply board n
  after_board = board_back rings placed.small (after_ply board n) after_leads.values points
