-- A board as a position: it is placed, and stands for its board. Assumes nothing.
use mathlib.Core.Path.{◌≡◌, sym, ap, subst, ◌∙◌}
use mathlib.Core.List.{List}
use Prim.Native.Nat.{ℕ, ◌*◌, ◌≤◌}
use lib.ListN.{length}
use Rattle.board.specs.Board.{Values, position_of, board_of, OnBoard}
use Rattle.board.proofs.Sides.{board_position, position_on}
use Rattle.plies.specs.Inner.Positions.{Placed}

module _ (rings : ℕ) (small : rings ≤ 3) (b : List ℕ) (values : Values b) (points : length b ≡ 8 * rings) where
  pub board_placed : Placed rings (position_of b)
  board_placed = record { small = small; on = subst (λ (n : ℕ). OnBoard n (position_of b)) points (position_on b) }

  pub board_back : board_of (8 * rings) (position_of b) ≡ b
  board_back = ap (λ (n : ℕ). board_of n (position_of b)) (sym points) ∙ board_position b values
