-- `listing::count_stone` meets its contract. Assumes nothing.
use mathlib.Core.Path.{◌≡◌, ap, ◌∙◌}
use mathlib.Core.Bool.{Bool, true, false, not}
use mir.Val.{bool_byte}
use mathlib.Core.List.{List}
use Prim.Native.Nat.{ℕ, ◌*◌, ◌≤◌}
use native.Mathlib.Omega.{arith}
use lib.ListN.{length}
use borrow.Author.Rules.{rules}
use Rattle.sets.proofs.Passing.{Counted, counted_none, counted_more, counted_all}
use Rattle.board.specs.Board.{board_of}
use Rattle.rules.specs.Ply.{removable, slide_moves}
use Rattle.rules.specs.MoveList.{is_capture, captures, others}
use Rattle.rules.proofs.Listed.{removable_takes}
use Rattle.rules.proofs.Rises.{removable_rising}
use Rattle.listing.proofs.MoveCounts.{stone_kept, stone_few}
use Rattle.listing.proofs.SlideMoves.{captures_count, others_count}
use Rattle.listing.proofs.count_stone.Goals as goal
use Rattle.listing.proofs.count_stone.Goals.{After-has, After-removals-removals, After-stones_in-captures}

byte_le : (t : Bool) → bool_byte t ≤ 1
byte_le true = omega arith
byte_le false = omega arith

pub loop-left-init : goal.loop-left-init
loop-left-init c = (counted_none _ c.args.tos c.ranges.tos.fits, counted_none _ c.args.tos c.ranges.tos.fits)

pub take_lowest-to-requires : goal.take_lowest-to-requires
take_lowest-to-requires c = c.loop-left-test.true

pub removals-removals-requires : goal.removals-removals-requires
removals-removals-requires c =
    record {
      playable = c.requires.playable;
      slide = c.requires.slides c.take_lowest-to.result.lowest
          (c.loop-left.invariant.0.among c.take_lowest-to.result.lowest c.take_lowest-to.ensures.member);
    }

-- the moves to that point
found : (c : After-removals-removals) → List ℕ
found c =
    let a = c.args in
    slide_moves (removable a.edition) a.rings (board_of (8 * a.rings) a.position) a.from c.take_lowest-to.result.lowest

captures-found : (c : After-stones_in-captures) → c.stones_in-captures.result ≡ length (captures (found c.before))
unfolding found
captures-found c =
    let a = c.args in
    c.stones_in-captures.ensures.0 ∙ captures_count (removable a.edition) (removable_takes a.edition) (removable_rising a.edition) a.rings
    c.requires.playable.placed.small (board_of (8 * a.rings) a.position) a.from c.take_lowest-to.result.lowest
    c.removals-removals.result c.removals-removals.ensures

others-found : (c : After-has) → bool_byte c.has.result ≡ length (others (found c.before.before))
unfolding found
others-found c =
    let a = c.args in
    others_count (removable a.edition) (removable_takes a.edition) (removable_rising a.edition) a.rings c.requires.playable.placed.small
    (board_of (8 * a.rings) a.position) a.from c.take_lowest-to.result.lowest
    c.removals-removals.result c.removals-removals.ensures c.has.result c.has.ensures

pub loop-left-preserved : goal.loop-left-preserved
unfolding found
loop-left-preserved c =
    let a = c.args in
    let p : ℕ = c.take_lowest-to.result.lowest in
    let rest : ℕ = c.take_lowest-to.result.rest in (
      counted_more _ a.tos c.loop-left.captures c.loop-left.left p rest c.stones_in-captures.result c.loop-left.invariant.0 c.take_lowest-to.ensures
          (captures-found (goal.at.loop-left-preserved c).After-stones_in-captures),
      counted_more _ a.tos c.loop-left.others c.loop-left.left p rest _ c.loop-left.invariant.1 c.take_lowest-to.ensures (others-found (goal.at.loop-left-preserved c).After-has),
    )

pub overflow_add-captures : goal.overflow_add-captures
overflow_add-captures c =
    let a = c.args in
    omega (
      arith,
      c.loop-left.invariant.0.total,
      c.stones_in-captures.ensures.1,
      stone_few (removable a.edition) (removable_takes a.edition) (removable_rising a.edition) a.rings c.requires.playable.placed.small
          (board_of (8 * a.rings) a.position) a.from (λ m. is_capture m) a.tos,
    )

pub overflow_add-others : goal.overflow_add-others
overflow_add-others c =
    let a = c.args in
    omega (
      arith,
      c.loop-left.invariant.1.total,
      byte_le c.has.result,
      stone_few (removable a.edition) (removable_takes a.edition) (removable_rising a.edition) a.rings c.requires.playable.placed.small
          (board_of (8 * a.rings) a.position) a.from (λ m. not (is_capture m)) a.tos,
    )

pub loop-left-smaller : goal.loop-left-smaller
loop-left-smaller c = omega (arith, c.take_lowest-to.ensures.less)

pub returns : goal.returns
returns c =
    let a = c.args in
    let b : List ℕ = board_of (8 * a.rings) a.position in
    let e = counted_all _ a.tos c.loop-left.captures c.loop-left.left c.loop-left.invariant.0 c.loop-left-test.false in
    let d = counted_all _ a.tos c.loop-left.others c.loop-left.left c.loop-left.invariant.1 c.loop-left-test.false in
    let small = c.requires.playable.placed.small in record {
      captures = (
        e ∙ ap length (stone_kept (removable a.edition) a.rings b a.from (λ m. is_capture m) a.tos),
        omega (
          arith,
          e,
          stone_few (removable a.edition) (removable_takes a.edition) (removable_rising a.edition) a.rings small b
              a.from (λ m. is_capture m) a.tos,
        ),
      );
      others = (
        d ∙ ap length (stone_kept (removable a.edition) a.rings b a.from (λ m. not (is_capture m)) a.tos),
        omega (
          arith,
          d,
          stone_few (removable a.edition) (removable_takes a.edition) (removable_rising a.edition) a.rings small b
              a.from (λ m. not (is_capture m)) a.tos,
        ),
      );
    }
