-- `judging::successors::some_successor` meets its contract. Assumes nothing.
use mathlib.Core.Path.{◌≡◌, sym, ◌∙◌}
use native.Mathlib.Omega.{arith}
use Prim.Native.Nat.{◌*◌}
use Rattle.lists.specs.Lists.{any}
use Rattle.sets.specs.Sets.{bit}
use Rattle.sets.proofs.Elements.{bit_low}
use Rattle.sets.proofs.Passing.{Sought, sought_none, sought_more, sought_found, sought_all}
use Rattle.board.specs.Board.{board_of}
use Rattle.rules.specs.Ply.{removable, destinations, stone_moves, after_ply}
use Rattle.plies.proofs.OnPositions.{mover_small}
use Rattle.plies.proofs.StoneMoves.{mover_fits}
use Rattle.plies.proofs.SomeMove.{some_move, some_successor_is}
use Rattle.asking.specs.Inner.Questions.{entry_asked}
use Rattle.judging.proofs.successors.some_successor.Given as goal

abbrev pub invariant-loop-left : goal.invariant-loop-left
invariant-loop-left l =
    Sought (λ from. any (λ m. entry_asked l.tablebase l.question (board_of (8 * l.rings) l.position) (after_ply (board_of (8 * l.rings) l.position) m))
    (stone_moves (removable l.question.edition) l.rings (board_of (8 * l.rings) l.position) from (destinations l.rings (board_of (8 * l.rings) l.position) from)))
    l.position.mover l.left

abbrev pub decreases-loop-left : goal.decreases-loop-left
decreases-loop-left l = l.left
