-- `comparing::is_symmetric` meets its contract. The invariant: the positions passed are draws or keep their entries. Assumes nothing.
use mathlib.Core.Path.{◌≡◌, sym, ap, ap₂, ◌∙◌}
use mathlib.Core.List.{List}
use Prim.Native.Nat.{ℕ, ◌+◌, ◌*◌}
use native.Mathlib.Omega.{arith}
use lib.ListN.{get_or}
use Rattle.lists.proofs.Tests.{clash}
use Rattle.board.specs.Board.{board_of, count}
use Rattle.sizes.specs.Size.{size}
use Rattle.ranking.specs.Unrank.{unrank}
use Rattle.ranking.proofs.Inverse.{rank_unrank}
use Rattle.plies.specs.Inner.Positions.{Placed}
use Rattle.seeking.proofs.Positions.{placed_at}
use Rattle.seeking.proofs.Positions.{stands_at}
use Rattle.comparing.specs.Inner.Compared.{same_images}
use Rattle.comparing.proofs.Tested.{images_same, passed_over, passed_one, passed_all}
use Rattle.comparing.proofs.is_symmetric.Goals as goal
use Rattle.comparing.proofs.is_symmetric.Goals.{After-same_images, After-seek-at}

-- the position that is tested
found : (c : After-seek-at)
    → Placed c.args.rings c.seek-at.result.position
    × (board_of (8 * c.args.rings) c.seek-at.result.position
    ≡ unrank (8 * c.args.rings) c.args.table.mover
    c.args.table.opponent c.loop-r.r)
found c =
    let a = c.args in
    placed_at a.rings c.requires.small a.table.mover a.table.opponent c.loop-r.r (omega (arith, c.loop-r-test.true, c.loop-r.invariant.0))
    c.seek-at.result.position c.seek-at.ensures.1

pub overflow_mul-rings : goal.overflow_mul-rings
overflow_mul-rings c = omega (arith, c.requires.small)

pub size-size-requires : goal.size-size-requires
size-size-requires c =
    let p = c.requires in (omega (arith, p.small), p.mover_most, p.opponent_most)

pub find_decided-r-requires : goal.find_decided-r-requires
find_decided-r-requires c = (omega arith, omega (arith, c.size-size.ensures, c.requires.room))

pub loop-r-init : goal.loop-r-init
loop-r-init c =
    let a = c.args in (
      c.size-size.ensures,
      c.find_decided-r.ensures.high,
      λ few. passed_over a.rings a.table.start a.table.mover a.table.opponent a.tablebase.now few 0 _ c.find_decided-r.result
          c.find_decided-r.ensures (λ r l h. absurd (omega arith)),
      λ h. absurd (omega (arith, c.nowhere-at.ensures)),
    )

pub seek-at-requires : goal.seek-at-requires
seek-at-requires c =
    record { rings_bound = (c.requires.small, omega (arith, c.loop-r-test.true, c.loop-r.invariant.0)); stands = λ h. c.loop-r.invariant.3 (omega (arith, c.loop-r-test.true)) }

pub overflow_add-entry : goal.overflow_add-entry
overflow_add-entry c = omega (arith, c.loop-r-test.true, c.loop-r.invariant.0, c.requires.room)

pub offset_bounds-tablebase-start : goal.offset_bounds-tablebase-start
offset_bounds-tablebase-start c = omega (arith, c.loop-r-test.true, c.loop-r.invariant.0, c.requires.room)

pub bounds-tablebase-start : goal.bounds-tablebase-start
bounds-tablebase-start c = omega (arith, c.loop-r-test.true, c.loop-r.invariant.0, c.requires.room)

pub same_images-requires : goal.same_images-requires
same_images-requires c =
    let a = c.args in
    let w = found (goal.at.same_images-requires c).After-seek-at in
    let r = rank_unrank (8 * a.rings) a.table.mover a.table.opponent c.loop-r.r (omega (arith, c.loop-r-test.true, c.loop-r.invariant.0)) in
    let m = ap (count 1) w.1 ∙ r.mover in
    let o = ap (count 2) w.1 ∙ r.opponent in
    let z = ap₂ (size (8 * a.rings)) m o in
    record { small = c.requires.small; on = w.0.on; room = omega (arith, z, c.requires.room) }

-- what is tested of it
tested : (c : After-same_images)
    → c.same_images.result ≡ same_images c.args.rings
    c.args.table.start
    c.args.tablebase.now
    (unrank (8 * c.args.rings) c.args.table.mover
    c.args.table.opponent c.loop-r.r)
    (get_or c.args.tablebase.now
    (c.args.table.start + c.loop-r.r) 0)
tested c =
    let a = c.args in
    c.same_images.ensures
    ∙ ap (λ (b : List ℕ). same_images a.rings a.table.start a.tablebase.now b (get_or a.tablebase.now (a.table.start + c.loop-r.r) 0))
    (found (record { before = c.before.before.before.before; type_inv = record { tablebase = c.shared_slice_known-1.given } })).1

pub returns-else-same_images : goal.returns-else-same_images
returns-else-same_images c =
    let a = c.args in
    λ w. clash (images_same a.rings a.table.start a.table.mover a.table.opponent a.tablebase.now c.loop-r.r
    (omega (arith, c.loop-r-test.true, c.loop-r.invariant.0)) w) (sym (tested (goal.at.returns-else-same_images c).After-same_images) ∙ c.if-same_images.false)

pub overflow_add-r : goal.overflow_add-r
overflow_add-r c = omega (arith, c.loop-r-test.true)

pub find_decided-r-requires-then-same_images : goal.find_decided-r-requires-then-same_images
find_decided-r-requires-then-same_images c = (omega (arith, c.loop-r-test.true), omega (arith, c.loop-r.invariant.0, c.requires.room))

pub loop-r-smaller : goal.loop-r-smaller
loop-r-smaller c = omega (arith, c.loop-r-test.true, c.find_decided-r-then-same_images.ensures.low)

pub loop-r-preserved : goal.loop-r-preserved
loop-r-preserved c =
    let a = c.args in (
      c.loop-r.invariant.0,
      c.find_decided-r-then-same_images.ensures.high,
      λ few. passed_over a.rings a.table.start a.table.mover a.table.opponent a.tablebase.now few (c.loop-r.r + 1) _
          c.find_decided-r-then-same_images.result
          c.find_decided-r-then-same_images.ensures
          (passed_one a.rings a.table.start a.table.mover a.table.opponent a.tablebase.now few c.loop-r.r
          (sym (tested (goal.at.loop-r-preserved c).After-same_images) ∙ c.if-same_images.true)
          (c.loop-r.invariant.2 few)),
      stands_at a.rings a.table.mover a.table.opponent _ c.loop-r.r c.seek-at.result c.seek-at.ensures.0 c.seek-at.ensures.1,
    )

pub returns : goal.returns
returns c =
    let a = c.args in
    passed_all a.rings a.table.start a.table.mover a.table.opponent a.tablebase.now c.requires.small c.loop-r.r
    (omega (arith, c.loop-r-test.false, c.loop-r.invariant.0, c.loop-r.invariant.1)) (c.loop-r.invariant.2 c.requires.small)
