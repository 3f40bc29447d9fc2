-- `marking::mark_before` meets its contract. Assumes nothing.
use mathlib.Core.Path.{◌≡◌, sym, ap, ◌∙◌}
use mathlib.Core.List.{List}
use Prim.Native.Nat.{ℕ, ◌*◌}
use native.Mathlib.Nat.{lt_of_lt_of_le}
use native.Mathlib.Omega.{arith}
use lib.Pow.{pow_mono}
use Rattle.sets.specs.Sets.{bit}
use Rattle.board.specs.Board.{board_of}
use Rattle.plies.proofs.OnPositions.{opponent_small}
use Rattle.marks.specs.Inner.Marks.{marked, places}
use Rattle.marking.specs.Inner.Stones.{before_stone}
use Rattle.marks.proofs.Marking.{Marking, marking_none, marking_more, marking_all}
use Rattle.returning.proofs.Before.{returning_same}
use Rattle.marking.proofs.Origins.{predecessors_given}
use Rattle.marking.proofs.mark_before.Given as goal

abbrev pub invariant-loop-left : goal.invariant-loop-left
invariant-loop-left l =
    Marking l.back.part.start (λ to. before_stone l.back.capture l.rings (board_of (8 * l.rings) l.position) to) l.initial.tablebase l.position.opponent l.tablebase l.left

abbrev pub decreases-loop-left : goal.decreases-loop-left
decreases-loop-left l = l.left
