-- `asking::slides::some_slide` meets its contract. Assumes nothing.
use mathlib.Core.List.{List}
use mathlib.Core.Path.{◌≡◌, sym, ap, ◌∙◌}
use Prim.Native.Nat.{ℕ, ◌+◌, ◌*◌, ◌<◌}
use native.Mathlib.Omega.{arith}
use Rattle.lists.specs.Lists.{any}
use Rattle.sets.specs.Sets.{bit, elements, set_from}
use Rattle.sets.proofs.Passing.{Sought, sought_none, sought_more, sought_found, sought_all}
use Rattle.board.specs.Board.{board_of}
use Rattle.rules.specs.Ply.{destinations, removable, slide_moves, after_ply}
use Rattle.rules.proofs.Listed.{removable_takes}
use Rattle.rules.proofs.Rises.{removable_rising}
use Rattle.plies.specs.Inner.Positions.{Slide}
use Rattle.plies.proofs.OnPositions.{from_low}
use Rattle.plies.proofs.StoneMoves.{destinations_fit, destinations_vacant}
use Rattle.plies.proofs.SomeMove.{some_slide, some_stone}
use Rattle.asking.specs.Inner.Questions.{entry_asked}
use Rattle.asking.proofs.Removing.{removing}
use Rattle.asking.proofs.slides.some_slide.Goals as goal
use Rattle.asking.proofs.slides.some_slide.Goals.{After-removals-removals, After-some_removal, After-take_lowest-to}

-- it is one of the destinations
destination : (c : After-take_lowest-to)
    → bit (set_from (destinations c.args.rings
    (board_of (8 * c.args.rings) c.args.position)
    c.args.stone.from)) c.take_lowest-to.result.lowest ≡ 1
destination c =
    let to : ℕ = c.take_lowest-to.result.lowest in
    sym (ap (λ (s : ℕ). bit s to) c.requires.movable.tos) ∙ c.loop-left.invariant.among to c.take_lowest-to.ensures.member

slides : (c : After-take_lowest-to)
    → Slide c.args.rings c.args.position
    c.args.stone.from c.take_lowest-to.result.lowest
slides c =
    destinations_vacant c.args.rings c.args.position c.requires.probing.placed c.args.stone.from c.requires.movable.own
    c.take_lowest-to.result.lowest (destination c)

-- both points are below 24
low : (c : After-removals-removals)
    → (c.args.stone.from < 24) × (c.take_lowest-to.result.lowest < 24)
low c =
    let l = from_low c.args.rings c.args.position c.requires.probing.placed c.args.stone.from c.take_lowest-to.result.lowest
    (slides (goal.at.slide_number-requires c).After-take_lowest-to) in
    (omega (arith, l, c.requires.probing.placed.small), omega (arith, (slides (goal.at.slide_number-requires c).After-take_lowest-to).low, c.requires.probing.placed.small))

-- what is found of the moves to that point
found : (c : After-some_removal)
    → c.some_removal.result
    ≡ any (λ m. entry_asked c.args.tablebase.now
    c.args.question
    (board_of (8 * c.args.rings)
    c.args.position)
    (after_ply (board_of (8 * c.args.rings)
    c.args.position) m))
    (slide_moves (removable c.args.question.edition)
    c.args.rings
    (board_of (8 * c.args.rings)
    c.args.position)
    c.args.stone.from c.take_lowest-to.result.lowest)
found c =
    let a = c.args in
    let b : List ℕ = board_of (8 * a.rings) a.position in
    c.some_removal.ensures
    ∙ ap (λ (n : ℕ). any (λ p. entry_asked a.tablebase.now a.question b (after_ply b (n + p))) (elements 32 c.removals-removals.result))
    c.slide_number.ensures
    ∙ some_slide (removable a.question.edition) (removable_takes a.question.edition) (removable_rising a.question.edition) a.rings
    c.requires.probing.placed.small b _ a.stone.from c.take_lowest-to.result.lowest c.removals-removals.result
    c.removals-removals.ensures

pub loop-left-init : goal.loop-left-init
loop-left-init c =
    let a = c.args in
    sought_none _ a.stone.tos (omega (
      arith,
      c.requires.movable.tos,
      destinations_fit a.rings c.requires.probing.placed.small
          (board_of (8 * a.rings) a.position) a.stone.from,
    ))

pub take_lowest-to-requires : goal.take_lowest-to-requires
take_lowest-to-requires c = c.loop-left-test.true

pub removals-removals-requires : goal.removals-removals-requires
removals-removals-requires c =
    record { playable = record { masks = c.requires.movable.masks; placed = c.requires.probing.placed }; slide = slides (goal.at.removals-removals-requires c).After-take_lowest-to }

pub slide_number-requires : goal.slide_number-requires
slide_number-requires c = low (goal.at.slide_number-requires c).After-removals-removals

pub some_removal-requires : goal.some_removal-requires
some_removal-requires c =
    let a = c.args in
    let to : ℕ = c.take_lowest-to.result.lowest in record {
      probing = c.requires.probing;
      removing = removing (removable a.question.edition) (removable_takes a.question.edition) a.rings a.position c.requires.probing.placed
          a.stone.from to c.requires.movable.own (destination (goal.at.some_removal-requires c).After-take_lowest-to) (low (goal.at.some_removal-requires c).After-removals-removals) c.removals-removals.result
          c.removals-removals.ensures c.slide_number.result c.slide_number.ensures;
    }

pub returns-then-some_removal : goal.returns-then-some_removal
returns-then-some_removal c =
    sought_found _ c.args.stone.tos c.loop-left.left c.take_lowest-to.result.lowest c.take_lowest-to.result.rest c.loop-left.invariant
    c.take_lowest-to.ensures (sym (found (goal.at.returns-then-some_removal c).After-some_removal) ∙ c.if-some_removal.true)
    ∙ some_stone (removable c.args.question.edition) c.args.rings c.args.position c.requires.probing.placed _ c.args.stone.from
    c.args.stone.tos c.requires.movable.tos

pub loop-left-smaller : goal.loop-left-smaller
loop-left-smaller c = omega (arith, c.take_lowest-to.ensures.less)

pub loop-left-preserved : goal.loop-left-preserved
loop-left-preserved c =
    sought_more _ c.args.stone.tos c.loop-left.left c.take_lowest-to.result.lowest c.take_lowest-to.result.rest c.loop-left.invariant
    c.take_lowest-to.ensures (sym (found (goal.at.loop-left-preserved c).After-some_removal) ∙ c.if-some_removal.false)

pub returns : goal.returns
returns c =
    sought_all _ c.args.stone.tos c.loop-left.left c.loop-left.invariant c.loop-left-test.false
    ∙ some_stone (removable c.args.question.edition) c.args.rings c.args.position c.requires.probing.placed _ c.args.stone.from
    c.args.stone.tos c.requires.movable.tos
