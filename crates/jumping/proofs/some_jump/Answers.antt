-- `jumping::some_jump` meets its contract. The invariant: nothing is found yet, and the walk has not passed the destinations left. Assumes nothing.
use mathlib.Core.List.{List}
use mathlib.Core.Path.{◌≡◌, refl, sym, ap, ◌∙◌}
use mathlib.Core.Bool.{true}
use Prim.Native.Nat.{ℕ, ◌+◌, ◌*◌, ◌^◌, ◌≤◌, ◌<◌}
use native.Mathlib.Omega.{arith}
use Rattle.lists.specs.Lists.{any}
use Rattle.sets.specs.Sets.{bit, lowest, elements, set_from, without}
use Rattle.sets.proofs.Least.{lowest_least}
use Rattle.sets.proofs.Elements.{lowest_member}
use Rattle.sets.proofs.Passing.{Sought, sought_none, sought_more, sought_found, sought_all}
use Rattle.board.specs.Board.{board_of}
use Rattle.inserting.specs.Inner.Inserting.{Inserting}
use Rattle.ranking.specs.Inner.Rankable.{Rankable}
use Rattle.rules.specs.Ply.{destinations, removable, slide_moves, after_ply}
use Rattle.rules.proofs.Listed.{removable_takes}
use Rattle.rules.proofs.Rises.{removable_rising}
use Rattle.plies.specs.Inner.Positions.{Slide}
use Rattle.plies.proofs.OnPositions.{from_low}
use Rattle.plies.proofs.StoneMoves.{destinations_fit, destinations_vacant}
use Rattle.plies.proofs.SomeMove.{some_slide, some_stone}
use Rattle.asking.specs.Inner.Questions.{entry_asked}
use Rattle.asking.proofs.Removing.{removing}
use Rattle.jumping.proofs.Jumps.{lifted_placed, lifted_vacant, jumping}
use Rattle.jumping.proofs.some_jump.Goals as goal
use Rattle.jumping.proofs.some_jump.Goals.{After-some_at, After-take_lowest-point, Start}

module _ (s : Start) where
  few : 8 * s.args.rings ≤ 24
  few = omega (arith, s.requires.probing.placed.small)

  fits : s.args.stone.tos < 2 ^ 32
  fits =
      let a = s.args in
      omega (arith, s.requires.movable.0.tos, destinations_fit a.rings s.requires.probing.placed.small (board_of (8 * a.rings) a.position) a.stone.from)

  -- a point of the set is a destination
  destination : (to : ℕ) → bit s.args.stone.tos to ≡ 1
      → bit (set_from (destinations s.args.rings (board_of (8 * s.args.rings) s.args.position) s.args.stone.from)) to ≡ 1
  destination to e = sym (ap (λ (k : ℕ). bit k to) s.requires.movable.0.tos) ∙ e

  slides : (to : ℕ) → bit s.args.stone.tos to ≡ 1 → Slide s.args.rings s.args.position s.args.stone.from to
  slides to e =
      let a = s.args in
      destinations_vacant a.rings a.position s.requires.probing.placed a.stone.from s.requires.movable.0.own to (destination to e)

  -- the first
  first : (to : ℕ) → to ≡ lowest s.args.stone.tos → bit s.args.stone.tos to ≡ 1
  first to e = ap (bit s.args.stone.tos) e ∙ lowest_member s.args.stone.tos fits s.requires.movable.1

  -- the position without the stone has a rank
  liftable : (o : ℕ) (made : o ≡ without s.args.position.mover s.args.stone.from)
      → Rankable (8 * s.args.rings) record { mover = s.args.position.opponent; opponent = o }
  liftable o made =
      let a = s.args in
      record {
        few = few;
        on = (lifted_placed a.rings a.position s.requires.probing.placed a.stone.from o s.requires.movable.0.own made).on;
      }

  -- both points are below 24
  low : (to : ℕ) → bit s.args.stone.tos to ≡ 1 → (s.args.stone.from < 24) × (to < 24)
  low to e =
      let l = from_low s.args.rings s.args.position s.requires.probing.placed s.args.stone.from to (slides to e) in
      (omega (arith, l, few), omega (arith, (slides to e).low, few))

pub without-requires : goal.without-requires
without-requires c =
    omega (arith, (low (goal.at.without-requires c).Start (lowest c.args.stone.tos) (first (goal.at.without-requires c).Start (lowest c.args.stone.tos) refl)).0)

pub overflow_mul-rings : goal.overflow_mul-rings
overflow_mul-rings c = omega (arith, few (goal.at.overflow_mul-rings c).Start)

pub lowest-requires : goal.lowest-requires
lowest-requires c = c.requires.movable.1

pub begin-walk-requires : goal.begin-walk-requires
begin-walk-requires c =
    let a = c.args in
    let own = c.requires.movable.0.own in record {
      rankable = liftable (goal.at.begin-walk-requires c).Start c.without.result c.without.ensures;
      vacant = lifted_vacant a.rings a.position c.requires.probing.placed a.stone.from c.without.result own c.without.ensures c.lowest.result
          (slides (goal.at.begin-walk-requires c).Start c.lowest.result (first (goal.at.begin-walk-requires c).Start c.lowest.result c.lowest.ensures.0));
    }

pub loop-left-init : goal.loop-left-init
loop-left-init c =
    let a = c.args in (
      sought_none _ a.stone.tos (fits (goal.at.loop-left-init c).Start),
      c.begin-walk.ensures.1,
      λ q e. omega (arith, c.begin-walk.ensures.0, c.lowest.ensures.0, lowest_least a.stone.tos q (fits (goal.at.loop-left-init c).Start) c.requires.movable.1 e),
    )

pub take_lowest-point-requires : goal.take_lowest-point-requires
take_lowest-point-requires c = c.loop-left-test.true

among : (c : After-take_lowest-point)
    → bit c.args.stone.tos c.take_lowest-point.result.lowest ≡ 1
among c = c.loop-left.invariant.0.among c.take_lowest-point.result.lowest c.take_lowest-point.ensures.member

pub overflow_mul-rings-in-loop-left : goal.overflow_mul-rings-in-loop-left
overflow_mul-rings-in-loop-left c = omega (arith, few (goal.at.overflow_mul-rings-in-loop-left c).Start)

pub go_to-walk-requires : goal.go_to-walk-requires
go_to-walk-requires c =
    record {
      rankable = liftable (goal.at.go_to-walk-requires c).Start c.without.result c.without.ensures;
      at_le_to = (
        c.loop-left.invariant.2 c.take_lowest-point.result.lowest c.take_lowest-point.ensures.member,
        (slides (goal.at.go_to-walk-requires c).Start c.take_lowest-point.result.lowest (among (goal.at.go_to-walk-requires c).After-take_lowest-point)).low,
        c.loop-left.invariant.1,
      );
    }

pub removals-removals-requires : goal.removals-removals-requires
removals-removals-requires c =
    record { playable = record { masks = c.requires.movable.0.masks; placed = c.requires.probing.placed }; slide = slides (goal.at.removals-removals-requires c).Start c.take_lowest-point.result.lowest (among (goal.at.removals-removals-requires c).After-take_lowest-point) }

pub slide_number-requires : goal.slide_number-requires
slide_number-requires c =
    low (goal.at.slide_number-requires c).Start c.take_lowest-point.result.lowest (among (goal.at.slide_number-requires c).After-take_lowest-point)

-- what is found of the moves to that point
found : (c : After-some_at)
    → c.some_at.result
    ≡ any (λ m. entry_asked c.args.tablebase.now
    c.args.question
    (board_of (8 * c.args.rings)
    c.args.position)
    (after_ply (board_of (8 * c.args.rings)
    c.args.position) m))
    (slide_moves (removable c.args.question.edition)
    c.args.rings
    (board_of (8 * c.args.rings)
    c.args.position)
    c.args.stone.from
    c.take_lowest-point.result.lowest)
found c =
    let a = c.args in
    let b : List ℕ = board_of (8 * a.rings) a.position in
    c.some_at.ensures
    ∙ ap (λ (n : ℕ). any (λ p. entry_asked a.tablebase.now a.question b (after_ply b (n + p))) (elements 32 c.removals-removals.result))
    c.slide_number.ensures
    ∙ some_slide (removable a.question.edition) (removable_takes a.question.edition) (removable_rising a.question.edition) a.rings
    c.requires.probing.placed.small b _ a.stone.from c.take_lowest-point.result.lowest c.removals-removals.result
    c.removals-removals.ensures

pub some_at-requires : goal.some_at-requires
some_at-requires c =
    let a = c.args in
    let p = c.requires.probing.placed in
    let own = c.requires.movable.0.own in
    let to : ℕ = c.take_lowest-point.result.lowest in
    let e = c.slide_number.ensures in record {
      probing = c.requires.probing;
      removing = (
        removing (removable a.question.edition) (removable_takes a.question.edition) a.rings a.position p a.stone.from to own
            (destination (goal.at.some_at-requires c).Start to (among (goal.at.some_at-requires c).After-take_lowest-point)) (low (goal.at.some_at-requires c).Start to (among (goal.at.some_at-requires c).After-take_lowest-point)) c.removals-removals.result
            c.removals-removals.ensures c.slide_number.result e,
        jumping a.rings a.position p a.stone.from c.without.result own c.without.ensures to (slides (goal.at.some_at-requires c).Start to (among (goal.at.some_at-requires c).After-take_lowest-point)) _ refl
            c.go_to-walk.ensures.0 c.go_to-walk.ensures.1 e,
      );
    }

pub returns-then-some_at : goal.returns-then-some_at
returns-then-some_at c =
    sought_found _ c.args.stone.tos c.loop-left.left c.take_lowest-point.result.lowest c.take_lowest-point.result.rest c.loop-left.invariant.0
    c.take_lowest-point.ensures (sym (found (goal.at.returns-then-some_at c).After-some_at) ∙ c.if-some_at.true)
    ∙ some_stone (removable c.args.question.edition) c.args.rings c.args.position c.requires.probing.placed _ c.args.stone.from
    c.args.stone.tos c.requires.movable.0.tos

pub loop-left-smaller : goal.loop-left-smaller
loop-left-smaller c = omega (arith, c.take_lowest-point.ensures.less)

pub loop-left-preserved : goal.loop-left-preserved
loop-left-preserved c =
    let t = c.take_lowest-point.ensures in (
      sought_more _ c.args.stone.tos c.loop-left.left c.take_lowest-point.result.lowest
          c.take_lowest-point.result.rest
          c.loop-left.invariant.0 t (sym (found (goal.at.loop-left-preserved c).After-some_at) ∙ c.if-some_at.false),
      c.go_to-walk.ensures.1,
      λ q e. omega (arith, c.go_to-walk.ensures.0, t.least q (t.among q e)),
    )

pub returns : goal.returns
returns c =
    sought_all _ c.args.stone.tos c.loop-left.left c.loop-left.invariant.0 c.loop-left-test.false
    ∙ some_stone (removable c.args.question.edition) c.args.rings c.args.position c.requires.probing.placed _ c.args.stone.from
    c.args.stone.tos c.requires.movable.0.tos
