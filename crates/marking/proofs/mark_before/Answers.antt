-- `marking::mark_before` meets its contract. Assumes nothing.
use mathlib.Core.Path.{◌≡◌, sym, ap, ◌∙◌}
use mathlib.Core.List.{List}
use Prim.Native.Nat.{ℕ, ◌*◌}
use native.Mathlib.Nat.{lt_of_lt_of_le}
use native.Mathlib.Omega.{arith}
use lib.Pow.{pow_mono}
use Rattle.sets.specs.Sets.{bit}
use Rattle.board.specs.Board.{board_of}
use Rattle.plies.proofs.OnPositions.{opponent_small}
use Rattle.marks.specs.Inner.Marks.{marked, places}
use Rattle.marking.specs.Inner.Stones.{before_stone}
use Rattle.marks.proofs.Marking.{Marking, marking_none, marking_more, marking_all}
use Rattle.returning.proofs.Before.{returning_same}
use Rattle.marking.proofs.Origins.{predecessors_given}
use Rattle.marking.proofs.mark_before.Goals as goal
use Rattle.marking.proofs.mark_before.Goals.{After-take_lowest-to}

-- it is one of the side that moved
own : (c : After-take_lowest-to) → bit c.args.position.opponent c.take_lowest-to.result.lowest ≡ 1
own c =
    c.loop-left.invariant.among c.take_lowest-to.result.lowest c.take_lowest-to.ensures.member

pub loop-left-init : goal.loop-left-init
loop-left-init c =
    marking_none _ _ c.args.tablebase.now c.args.position.opponent
    (lt_of_lt_of_le (opponent_small c.args.rings c.args.position c.requires.returning.placed) (pow_mono {i = 24} {j = 32} (omega arith)))

pub take_lowest-to-requires : goal.take_lowest-to-requires
take_lowest-to-requires c = c.loop-left-test.true

pub mark_stone-requires : goal.mark_stone-requires
mark_stone-requires c =
    record { returning = returning_same c.requires.returning (sym c.loop-left.invariant.long); masks = (c.requires.masks, own (goal.at.mark_stone-requires c).After-take_lowest-to) }

pub loop-left-smaller : goal.loop-left-smaller
loop-left-smaller c = omega (arith, c.take_lowest-to.ensures.less)

pub loop-left-preserved : goal.loop-left-preserved
loop-left-preserved c =
    let a = c.args in
    marking_more a.back.part.start (λ to. before_stone a.back.capture a.rings (board_of (8 * a.rings) a.position) to) a.tablebase.now a.position.opponent
    c.loop-left.tablebase c.loop-left.left c.take_lowest-to.result.lowest c.take_lowest-to.result.rest _ c.loop-left.invariant c.take_lowest-to.ensures
    c.mark_stone.ensures

pub shape_of-tablebase : goal.shape_of-tablebase
shape_of-tablebase c = c.loop-left.invariant.long

pub returns : goal.returns
returns c =
    let a = c.args in
    marking_all _ _ a.tablebase.now a.position.opponent c.loop-left.tablebase c.loop-left.left c.loop-left.invariant c.loop-left-test.false
    ∙ ap (λ (l : List (List ℕ)). marked (places a.back.part.start l) a.tablebase.now)
    (sym (predecessors_given a.rings a.position c.requires.returning.placed a.back.capture))
