-- `asking::slides::some_removal` meets its contract. Assumes nothing.
use mathlib.Core.Path.{sym, ◌∙◌}
use Prim.Native.Nat.{◌+◌, ◌*◌}
use native.Mathlib.Omega.{arith}
use Rattle.sets.proofs.Passing.{Sought, sought_none, sought_more, sought_found, sought_all}
use Rattle.board.specs.Board.{board_of}
use Rattle.rules.specs.Ply.{after_ply}
use Rattle.asking.specs.Inner.Questions.{entry_asked}
use Rattle.asking.proofs.slides.some_removal.Given as goal

abbrev pub invariant-loop-left : goal.invariant-loop-left
invariant-loop-left l =
    Sought (λ p. entry_asked l.tablebase l.question (board_of (8 * l.rings) l.position) (after_ply (board_of (8 * l.rings) l.position) (l.slide + p))) l.removals l.left

abbrev pub decreases-loop-left : goal.decreases-loop-left
decreases-loop-left l = l.left
