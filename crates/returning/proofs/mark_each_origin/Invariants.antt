-- `returning::mark_each_origin` meets its contract. Assumes nothing.
use mathlib.Core.Path.{sym}
use native.Mathlib.Omega.{arith}
use Prim.Native.Nat.{◌*◌}
use Rattle.board.specs.Board.{board_of}
use Rattle.rules.specs.Predecessors.{restored}
use Rattle.marks.specs.Inner.Putting.{VacantAt}
use Rattle.marks.proofs.Marking.{Marking, marking_none, marking_more, marking_all}
use Rattle.returning.proofs.Before.{returning_same}
use Rattle.returning.proofs.mark_each_origin.Given as goal

abbrev pub invariant-loop-left : goal.invariant-loop-left
invariant-loop-left l =
    Marking l.back.part.start (λ from. restored l.back.capture l.rings (board_of (8 * l.rings) l.position) l.to from) l.initial.tablebase l.froms l.tablebase l.left

abbrev pub decreases-loop-left : goal.decreases-loop-left
decreases-loop-left l = l.left
