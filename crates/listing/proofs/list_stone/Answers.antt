-- `listing::list_stone` meets its contract. Assumes nothing.
use mathlib.Core.Path.{◌≡◌, sym, ap, ap₂, ◌∙◌}
use mathlib.Core.Bool.{not}
use mathlib.Core.List.{List, map}
use Prim.Native.Nat.{ℕ, ◌+◌, ◌-◌, ◌*◌, ◌≤◌, ◌<◌}
use native.Mathlib.Omega.{arith}
use borrow.Author.Rules.{rules}
use lib.ListN.{length, length-map}
use lib.Seq.{sets, length-sets}
use Rattle.sets.specs.Sets.{without, elements}
use Rattle.sets.proofs.Laws.{without_le}
use Rattle.sets.proofs.Dealt.{Dealt, dealt_none, dealt_room, dealt_more, dealt_all}
use Rattle.board.specs.Board.{board_of}
use Rattle.rules.specs.Ply.{removable, slide_moves}
use Rattle.rules.specs.MoveList.{is_capture, captures, others}
use Rattle.rules.proofs.Listed.{removable_takes}
use Rattle.rules.proofs.Rises.{removable_rising}
use Rattle.plies.specs.Inner.Positions.{Slide}
use Rattle.plies.proofs.OnPositions.{from_low}
use Rattle.listing.proofs.MoveCounts.{stone_kept}
use Rattle.listing.proofs.SlideMoves.{captures_from, others_from}
use Rattle.listing.proofs.list_stone.Goals as goal
use Rattle.listing.proofs.list_stone.Goals.{After-removals-removals, After-slide_number-slide, After-take_lowest-to}

-- it is vacant
slides : (c : After-take_lowest-to)
    → Slide c.args.rings c.args.position
    c.args.from c.take_lowest-to.result.lowest
slides c =
    c.requires.slides c.take_lowest-to.result.lowest
    (c.loop-left.invariant.among c.take_lowest-to.result.lowest c.take_lowest-to.ensures.member)

low : (c : After-removals-removals) → c.args.from < 24
low c =
    omega (
      arith,
      from_low c.args.rings c.args.position c.requires.playable.placed c.args.from c.take_lowest-to.result.lowest
          (slides c.before),
      c.requires.playable.placed.small,
    )

-- its moves
abbrev moved : (c : After-removals-removals) → List ℕ
moved c =
    slide_moves (removable c.args.edition) c.args.rings
    (board_of (8 * c.args.rings) c.args.position)
    c.args.from c.take_lowest-to.result.lowest

-- the captures are those that the stones among the removals give, and the others those that the rest gives
captures-found : (c : After-slide_number-slide)
    → map (λ p. c.slide_number-slide.result + p) (elements 32 c.without-stones.result) ≡ captures (moved c.before.before)
captures-found c =
    let a = c.args in
    ap₂ (λ (n x : ℕ). map (λ p. n + p) (elements 32 x)) c.slide_number-slide.ensures c.without-stones.ensures
    ∙ captures_from (removable a.edition) (removable_takes a.edition) (removable_rising a.edition) a.rings c.requires.playable.placed.small
    (board_of (8 * a.rings) a.position) a.from c.take_lowest-to.result.lowest
    c.removals-removals.result c.removals-removals.ensures

others-found : (c : After-slide_number-slide)
    → map (λ p. c.slide_number-slide.result + p) (elements 32 (c.removals-removals.result - c.without-stones.result))
    ≡ others (moved c.before.before)
others-found c =
    let a = c.args in
    ap₂ (λ (n x : ℕ). map (λ p. n + p) (elements 32 (c.removals-removals.result - x))) c.slide_number-slide.ensures c.without-stones.ensures
    ∙ others_from (removable a.edition) (removable_takes a.edition) (removable_rising a.edition) a.rings c.requires.playable.placed.small
    (board_of (8 * a.rings) a.position) a.from c.take_lowest-to.result.lowest
    c.removals-removals.result c.removals-removals.ensures

-- how many they are
captures-length : (c : After-slide_number-slide) → length (elements 32 c.without-stones.result) ≡ length (captures (moved c.before.before))
captures-length c = sym (length-map (elements 32 c.without-stones.result) (λ p. c.slide_number-slide.result + p)) ∙ ap length (captures-found c)

others-length : (c : After-slide_number-slide)
    → length (elements 32 (c.removals-removals.result - c.without-stones.result)) ≡ length (others (moved c.before.before))
others-length c =
    sym (length-map (elements 32 (c.removals-removals.result - c.without-stones.result)) (λ p. c.slide_number-slide.result + p))
    ∙ ap length (others-found c)

-- there is room for them
room : (c : After-slide_number-slide)
    → (c.loop-left.captures + length (captures (moved c.before.before)) ≤ c.loop-left.others)
    × (c.loop-left.others + length (others (moved c.before.before))
    ≤ length c.loop-left.list)
room c =
    let a = c.args in
    dealt_room _ _ a.list.now a.at.captures a.at.others a.tos c.loop-left.invariant c.take_lowest-to.ensures
    (omega (
      arith,
      c.requires.room.others_fit,
      ap length (stone_kept (removable a.edition) a.rings (board_of (8 * a.rings) a.position) a.from (λ m. not (is_capture m)) a.tos),
    ))

pub loop-left-init : goal.loop-left-init
loop-left-init c =
    let a = c.args in
    dealt_none _ _ a.list.now a.at.captures a.at.others a.tos c.ranges.tos.fits
    (omega (
      arith,
      c.requires.room.captures_fit,
      ap length (stone_kept (removable a.edition) a.rings (board_of (8 * a.rings) a.position) a.from (λ m. is_capture m) a.tos),
    ))

pub take_lowest-to-requires : goal.take_lowest-to-requires
take_lowest-to-requires c = c.loop-left-test.true

pub removals-removals-requires : goal.removals-removals-requires
removals-removals-requires c =
    record { playable = c.requires.playable; slide = slides (goal.at.removals-removals-requires c).After-take_lowest-to }

pub overflow_sub-none : goal.overflow_sub-none
overflow_sub-none c = omega (arith, c.without-stones.ensures, without_le c.removals-removals.result 31)

pub slide_number-slide-requires : goal.slide_number-slide-requires
slide_number-slide-requires c =
    (low (goal.at.slide_number-slide-requires c).After-removals-removals, omega (arith, (slides (goal.at.slide_number-slide-requires c).After-take_lowest-to).low, c.requires.playable.placed.small))

pub loop-left-preserved : goal.loop-left-preserved
loop-left-preserved c =
    let a = c.args in
    let e = c.list_removals-captures.ensures in
    let d = c.list_removals-others.ensures in
    dealt_more _ _ a.list.now a.at.captures a.at.others a.tos c.loop-left.invariant c.take_lowest-to.ensures
    (e.0 ∙ ap (λ (m : ℕ). c.loop-left.captures + m) (captures-length (goal.at.loop-left-preserved c).After-slide_number-slide)) (d.0 ∙ ap (λ (m : ℕ). c.loop-left.others + m) (others-length (goal.at.loop-left-preserved c).After-slide_number-slide))
    (d.1 ∙ ap₂ (λ (l ys : List ℕ). sets l c.loop-left.others ys) (e.1 ∙ ap (sets c.loop-left.list c.loop-left.captures) (captures-found (goal.at.loop-left-preserved c).After-slide_number-slide)) (others-found (goal.at.loop-left-preserved c).After-slide_number-slide))

-- the numbers fit
base-low : (c : After-slide_number-slide) → c.slide_number-slide.result + 31 < 65536
base-low c =
    omega (arith, c.slide_number-slide.ensures, low c.before.before, (slides c.before.before.before).low, c.requires.playable.placed.small)

pub list_removals-captures-requires : goal.list_removals-captures-requires
list_removals-captures-requires c =
    (base-low (goal.at.list_removals-captures-requires c).After-slide_number-slide, omega (arith, captures-length (goal.at.list_removals-captures-requires c).After-slide_number-slide, (room (goal.at.list_removals-captures-requires c).After-slide_number-slide).0, (room (goal.at.list_removals-captures-requires c).After-slide_number-slide).1))

pub list_removals-others-requires : goal.list_removals-others-requires
list_removals-others-requires c = (
  base-low (goal.at.list_removals-others-requires c).After-slide_number-slide,
  omega (
    arith,
    others-length (goal.at.list_removals-others-requires c).After-slide_number-slide,
    (room (goal.at.list_removals-others-requires c).After-slide_number-slide).1,
    ap length c.list_removals-captures.ensures.1,
    length-sets c.loop-left.list c.loop-left.captures (map (λ p. c.slide_number-slide.result + p) (elements 32 c.without-stones.result)),
  ),
)

pub loop-left-smaller : goal.loop-left-smaller
loop-left-smaller c = omega (arith, c.take_lowest-to.ensures.less)

pub shape_of-list : goal.shape_of-list
shape_of-list c = c.loop-left.invariant.dealing.long

pub returns : goal.returns
returns c =
    let a = c.args in
    let b : List ℕ = board_of (8 * a.rings) a.position in
    let r = dealt_all _ _ a.list.now a.at.captures a.at.others a.tos c.loop-left.invariant c.loop-left-test.false in
    let e = stone_kept (removable a.edition) a.rings b a.from (λ m. is_capture m) a.tos in
    let d = stone_kept (removable a.edition) a.rings b a.from (λ m. not (is_capture m)) a.tos in record { captures = r.0 ∙ ap (λ (l : List ℕ). a.at.captures + length l) e; others = r.1 ∙ ap (λ (l : List ℕ). a.at.others + length l) d; list = r.2 ∙ ap₂ (λ (l m : List ℕ). sets (sets a.list.now a.at.captures l) a.at.others m) e d }
