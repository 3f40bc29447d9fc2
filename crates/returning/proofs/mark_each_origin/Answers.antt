-- `returning::mark_each_origin` meets its contract. Assumes nothing.
use mathlib.Core.Path.{sym}
use native.Mathlib.Omega.{arith}
use Prim.Native.Nat.{◌*◌}
use Rattle.board.specs.Board.{board_of}
use Rattle.rules.specs.Predecessors.{restored}
use Rattle.marks.specs.Inner.Putting.{VacantAt}
use Rattle.marks.proofs.Marking.{Marking, marking_none, marking_more, marking_all}
use Rattle.returning.proofs.Before.{returning_same}
use Rattle.returning.proofs.mark_each_origin.Goals as goal
use Rattle.returning.proofs.mark_each_origin.Goals.{After-take_lowest-from}

-- it is vacant
vacant : (c : After-take_lowest-from)
    → VacantAt c.args.rings c.args.position c.take_lowest-from.result.lowest
vacant c =
    c.requires.to_value.1 c.take_lowest-from.result.lowest
    (c.loop-left.invariant.among c.take_lowest-from.result.lowest c.take_lowest-from.ensures.member)

pub loop-left-init : goal.loop-left-init
loop-left-init c = marking_none _ _ c.args.tablebase.now c.args.froms c.ranges.froms.fits

pub take_lowest-from-requires : goal.take_lowest-from-requires
take_lowest-from-requires c = c.loop-left-test.true

pub mark_origin-requires : goal.mark_origin-requires
mark_origin-requires c =
    record { returning = returning_same c.requires.returning (sym c.loop-left.invariant.long); to_value = (c.requires.to_value.0, vacant (goal.at.mark_origin-requires c).After-take_lowest-from) }

pub loop-left-smaller : goal.loop-left-smaller
loop-left-smaller c = omega (arith, c.take_lowest-from.ensures.less)

pub loop-left-preserved : goal.loop-left-preserved
loop-left-preserved c =
    let a = c.args in
    marking_more a.back.part.start (λ from. restored a.back.capture a.rings (board_of (8 * a.rings) a.position) a.to from) a.tablebase.now a.froms
    c.loop-left.tablebase c.loop-left.left c.take_lowest-from.result.lowest c.take_lowest-from.result.rest _ c.loop-left.invariant c.take_lowest-from.ensures
    c.mark_origin.ensures

pub shape_of-tablebase : goal.shape_of-tablebase
shape_of-tablebase c = c.loop-left.invariant.long

pub returns : goal.returns
returns c =
    let a = c.args in
    marking_all _ _ a.tablebase.now a.froms c.loop-left.tablebase c.loop-left.left c.loop-left.invariant c.loop-left-test.false
