-- `classing::is_least` meets its contract. The invariant: no image so far has a lower number, for any position with that mover's set. Assumes nothing.
use mathlib.Core.Path.{◌≡◌}
use Prim.Native.Nat.{◌*◌}
use Rattle.board.specs.declared.Position.{Position}
use Rattle.board.specs.Board.{board_of, OnBoard}
use Rattle.classing.proofs.Least.{NoLower}
use Rattle.classing.proofs.is_least.Given as goal

abbrev pub invariant-loop-g : goal.invariant-loop-g
invariant-loop-g l =
    (p : Position) → OnBoard (8 * l.maps.rings) p → l.own ≡ p.mover → NoLower l.maps.rings l.count (board_of (8 * l.maps.rings) p) l.g
