-- `listing::count_moves` meets its contract. Assumes nothing.
use mathlib.Core.Path.{◌≡◌, sym, ap, ◌∙◌}
use mathlib.Core.Bool.{not}
use mathlib.Core.List.{List}
use Prim.Native.Nat.{ℕ, ◌*◌}
use native.Mathlib.Omega.{arith}
use lib.ListN.{length}
use Rattle.sets.specs.Sets.{bit}
use Rattle.sets.proofs.Elements.{bit_low}
use Rattle.sets.proofs.Passing.{Counted, counted_none, counted_more, counted_all}
use Rattle.board.specs.Board.{board_of}
use Rattle.rules.specs.Ply.{destinations, removable, stone_moves}
use Rattle.rules.specs.MoveList.{is_capture, captures, others}
use Rattle.rules.proofs.Listed.{removable_takes}
use Rattle.rules.proofs.Rises.{removable_rising}
use Rattle.plies.proofs.OnPositions.{mover_small}
use Rattle.plies.proofs.StoneMoves.{destinations_vacant, stone_given, mover_fits}
use Rattle.listing.proofs.MoveCounts.{moves_kept, moves_few}
use Rattle.listing.proofs.count_moves.Goals as goal
use Rattle.listing.proofs.count_moves.Goals.{After-take_lowest-from}

-- it is one of the mover's
own : (c : After-take_lowest-from) → bit c.args.position.mover c.take_lowest-from.result.lowest ≡ 1
own c =
    c.loop-left.invariant.0.among c.take_lowest-from.result.lowest c.take_lowest-from.ensures.member

pub loop-left-init : goal.loop-left-init
loop-left-init c =
    let p = c.args.position in
    let h = mover_fits c.args.rings p c.requires.placed in
    (counted_none _ p.mover h, counted_none _ p.mover h)

pub take_lowest-from-requires : goal.take_lowest-from-requires
take_lowest-from-requires c = c.loop-left-test.true

pub destinations-tos-requires : goal.destinations-tos-requires
destinations-tos-requires c =
    record {
      playable = c.requires;
      from_bound = bit_low 24 c.args.position.mover c.take_lowest-from.result.lowest
          (mover_small c.args.rings c.args.position c.requires.placed) (own (goal.at.destinations-tos-requires c).After-take_lowest-from);
    }

pub count_stone-counts-requires : goal.count_stone-counts-requires
count_stone-counts-requires c =
    record {
      playable = c.requires;
      slides = λ to e. destinations_vacant c.args.rings c.args.position c.requires.placed c.take_lowest-from.result.lowest (own (goal.at.count_stone-counts-requires c).After-take_lowest-from) to
          (sym (ap (λ (x : ℕ). bit x to) c.destinations-tos.ensures) ∙ e);
    }

pub loop-left-preserved : goal.loop-left-preserved
loop-left-preserved c =
    let p : ℕ = c.take_lowest-from.result.lowest in
    let rest : ℕ = c.take_lowest-from.result.rest in
    let r = c.count_stone-counts.result in
    let e = stone_given (removable c.args.edition) c.args.rings c.args.position c.requires.placed p c.destinations-tos.result
    c.destinations-tos.ensures in (
      counted_more _ c.args.position.mover c.loop-left.captures c.loop-left.left p rest r.captures c.loop-left.invariant.0 c.take_lowest-from.ensures
          (c.count_stone-counts.ensures.captures.0 ∙ ap (λ (l : List ℕ). length (captures l)) e),
      counted_more _ c.args.position.mover c.loop-left.others c.loop-left.left p rest r.others c.loop-left.invariant.1 c.take_lowest-from.ensures
          (c.count_stone-counts.ensures.others.0 ∙ ap (λ (l : List ℕ). length (others l)) e),
    )

pub overflow_add-captures : goal.overflow_add-captures
overflow_add-captures c =
    omega (
      arith,
      c.loop-left.invariant.0.total,
      c.count_stone-counts.ensures.captures.1,
      moves_few (removable c.args.edition) (removable_takes c.args.edition) (removable_rising c.args.edition) c.args.rings
          c.args.position c.requires.placed (λ m. is_capture m),
    )

pub overflow_add-others : goal.overflow_add-others
overflow_add-others c =
    omega (
      arith,
      c.loop-left.invariant.1.total,
      c.count_stone-counts.ensures.others.1,
      moves_few (removable c.args.edition) (removable_takes c.args.edition) (removable_rising c.args.edition) c.args.rings
          c.args.position c.requires.placed (λ m. not (is_capture m)),
    )

pub loop-left-smaller : goal.loop-left-smaller
loop-left-smaller c = omega (arith, c.take_lowest-from.ensures.less)

pub returns : goal.returns
returns c =
    let p = c.args.position in
    let e = counted_all _ p.mover c.loop-left.captures c.loop-left.left c.loop-left.invariant.0 c.loop-left-test.false in
    let d = counted_all _ p.mover c.loop-left.others c.loop-left.left c.loop-left.invariant.1 c.loop-left-test.false in record {
      captures = (
        e ∙ ap length (moves_kept (removable c.args.edition) c.args.rings p
            c.requires.placed (λ m. is_capture m)),
        omega (
          arith,
          e,
          moves_few (removable c.args.edition) (removable_takes c.args.edition) (removable_rising c.args.edition)
              c.args.rings p c.requires.placed (λ m. is_capture m),
        ),
      );
      others = (
        d ∙ ap length (moves_kept (removable c.args.edition) c.args.rings p
            c.requires.placed (λ m. not (is_capture m))),
        omega (
          arith,
          d,
          moves_few (removable c.args.edition) (removable_takes c.args.edition) (removable_rising c.args.edition)
              c.args.rings p c.requires.placed (λ m. not (is_capture m)),
        ),
      );
    }
