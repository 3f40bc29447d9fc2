-- `judging::successors::some_successor` meets its contract. Assumes nothing.
use mathlib.Core.Path.{◌≡◌, sym, ◌∙◌}
use native.Mathlib.Omega.{arith}
use Prim.Native.Nat.{◌*◌}
use Rattle.lists.specs.Lists.{any}
use Rattle.sets.specs.Sets.{bit}
use Rattle.sets.proofs.Elements.{bit_low}
use Rattle.sets.proofs.Passing.{Sought, sought_none, sought_more, sought_found, sought_all}
use Rattle.board.specs.Board.{board_of}
use Rattle.rules.specs.Ply.{removable, destinations, stone_moves, after_ply}
use Rattle.plies.proofs.OnPositions.{mover_small}
use Rattle.plies.proofs.StoneMoves.{mover_fits}
use Rattle.plies.proofs.SomeMove.{some_move, some_successor_is}
use Rattle.asking.specs.Inner.Questions.{entry_asked}
use Rattle.judging.proofs.successors.some_successor.Goals as goal
use Rattle.judging.proofs.successors.some_successor.Goals.{After-take_lowest-from}

-- it is one of the mover's
own : (c : After-take_lowest-from) → bit c.args.position.mover c.take_lowest-from.result.lowest ≡ 1
own c =
    c.loop-left.invariant.among c.take_lowest-from.result.lowest c.take_lowest-from.ensures.member

pub loop-left-init : goal.loop-left-init
loop-left-init c =
    sought_none _ c.args.position.mover (mover_fits c.args.rings c.args.position c.requires.probing.placed)

pub take_lowest-from-requires : goal.take_lowest-from-requires
take_lowest-from-requires c = c.loop-left-test.true

pub destinations-tos-requires : goal.destinations-tos-requires
destinations-tos-requires c =
    record {
      playable = record { masks = c.requires.masks; placed = c.requires.probing.placed };
      from_bound = bit_low 24 c.args.position.mover c.take_lowest-from.result.lowest
          (mover_small c.args.rings c.args.position c.requires.probing.placed) (own (goal.at.destinations-tos-requires c).After-take_lowest-from);
    }

pub some_destination-requires : goal.some_destination-requires
some_destination-requires c =
    record { probing = c.requires.probing; movable = record { masks = c.requires.masks; own = own (goal.at.some_destination-requires c).After-take_lowest-from; tos = c.destinations-tos.ensures } }

pub returns-then-some_destination : goal.returns-then-some_destination
returns-then-some_destination c =
    let a = c.args in
    sought_found _ a.position.mover c.loop-left.left c.take_lowest-from.result.lowest c.take_lowest-from.result.rest c.loop-left.invariant
    c.take_lowest-from.ensures (sym c.some_destination.ensures ∙ c.if-some_destination.true)
    ∙ some_move (removable a.question.edition) a.rings a.position c.requires.probing.placed _
    ∙ some_successor_is (removable a.question.edition) _ a.rings (board_of (8 * a.rings) a.position)

pub loop-left-smaller : goal.loop-left-smaller
loop-left-smaller c = omega (arith, c.take_lowest-from.ensures.less)

pub loop-left-preserved : goal.loop-left-preserved
loop-left-preserved c =
    sought_more _ c.args.position.mover c.loop-left.left c.take_lowest-from.result.lowest c.take_lowest-from.result.rest c.loop-left.invariant
    c.take_lowest-from.ensures (sym c.some_destination.ensures ∙ c.if-some_destination.false)

pub returns : goal.returns
returns c =
    let a = c.args in
    sought_all _ a.position.mover c.loop-left.left c.loop-left.invariant c.loop-left-test.false
    ∙ some_move (removable a.question.edition) a.rings a.position c.requires.probing.placed _
    ∙ some_successor_is (removable a.question.edition) _ a.rings (board_of (8 * a.rings) a.position)
