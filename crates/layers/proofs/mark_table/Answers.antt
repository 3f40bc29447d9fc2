-- `layers::mark_table` meets its contract. The invariant: the positions before those passed are marked, and the rank to come has the depth.
-- Assumes nothing.
use mathlib.Core.Path.{◌≡◌, refl, sym, ap, subst, ◌∙◌}
use mathlib.Core.Bool.{true}
use Prim.Native.Nat.{ℕ, ◌≤◌, ◌<◌, ◌-◌, ◌+◌, ◌*◌}
use native.Mathlib.Omega.{arith}
use lib.ListN.{length}
use Rattle.board.specs.Board.{board_of}
use Rattle.sizes.specs.Size.{size}
use Rattle.ranking.specs.Unrank.{unrank}
use Rattle.plies.specs.Inner.Positions.{Placed}
use Rattle.classing.specs.Inner.Classes.{least_of_class}
use Rattle.seeking.specs.Inner.Cursors.{Stands}
use Rattle.layers.specs.Inner.Layers.{Stored, is_source, marked_from}
use Rattle.seeking.proofs.Positions.{placed_at, stands_at}
use Rattle.layers.proofs.Marked.{room_before, marked_place_lem, place_length, from_none, from_step, from_over}
use Rattle.marks.proofs.Vacant.{room_same}
use Rattle.layers.proofs.mark_table.Goals as goal
use Rattle.layers.proofs.mark_table.Goals.{After-mark_source, After-seek-at}

-- the position that is gone back from
found : (c : After-seek-at)
    → Placed c.args.maps.rings c.seek-at.result.position
    × (board_of (8 * c.args.maps.rings) c.seek-at.result.position
    ≡ unrank (8 * c.args.maps.rings) c.args.layer.source.mover
    c.args.layer.source.opponent c.loop-r.r)
found c =
    let a = c.args in
    placed_at a.maps.rings c.requires.masks.small a.layer.source.mover a.layer.source.opponent c.loop-r.r
    (omega (arith, c.loop-r-test.true, c.loop-r.invariant.0))
    c.seek-at.result.position c.seek-at.ensures.1

pub overflow_mul-points : goal.overflow_mul-points
overflow_mul-points c = omega (arith, c.requires.masks.small)

pub size-size-requires : goal.size-size-requires
size-size-requires c =
    let p = c.requires.preceding in (
      omega
          (arith, c.requires.masks.small),
      p.mover_most,
      p.opponent_most,
    )

pub find_source-r-requires : goal.find_source-r-requires
find_source-r-requires c =
    let a = c.args in
    (omega arith, subst (λ (n : ℕ). Stored a.layer.source n (length a.tablebase.now)) (sym c.size-size.ensures) c.requires.preceding.stored)

pub loop-r-init : goal.loop-r-init
loop-r-init c =
    let a = c.args in (
      c.size-size.ensures,
      c.find_source-r.ensures.high,
      refl,
      from_over a.maps.rings a.back.part.start a.layer.source a.back.capture a.layer.depth (least_of_class a.maps.rings
          a.maps.count) a.tablebase.now 0 _
          c.find_source-r.result a.tablebase.now
          c.find_source-r.ensures (from_none a.maps.rings a.back.part.start a.layer.source a.back.capture a.layer.depth
          (least_of_class a.maps.rings a.maps.count)
          a.tablebase.now),
      c.find_source-r.ensures.here,
      λ h. absurd (omega (arith, c.nowhere-at.ensures)),
    )

pub seek-at-requires : goal.seek-at-requires
seek-at-requires c =
    record {
      rings_bound = (c.requires.masks.small, omega (arith, c.loop-r-test.true, c.loop-r.invariant.0));
      stands = λ h. c.loop-r.invariant.5 (omega
          (arith, c.loop-r-test.true));
    }

pub mark_source-requires : goal.mark_source-requires
mark_source-requires c =
    let a = c.args in
    let p = c.requires.preceding in
    let w = found (goal.at.mark_source-requires c).After-seek-at in record {
      returning = record {
        placed = w.0;
        room = room_before a.maps.rings (length c.loop-r.tablebase) a.layer.source a.back.capture a.back.part.start a.back.part.end
            (room_same p.room refl refl (sym c.loop-r.invariant.2)) c.loop-r.r
            (omega (arith, c.loop-r-test.true, c.loop-r.invariant.0)) _ w.1;
      };
      masks = (c.requires.masks, record { small = w.0.small; few = p.few; on = w.0.on });
    }

pub overflow_add-r : goal.overflow_add-r
overflow_add-r c = omega (arith, c.loop-r-test.true)

-- the positions before this one are marked
stepped : (c : After-mark_source)
    → (length c.mark_source.new.tablebase ≡ length c.loop-r.tablebase)
    × (c.mark_source.new.tablebase ≡ marked_from c.args.maps.rings
    c.args.back.part.start c.args.layer.source
    c.args.back.capture c.args.layer.depth
    (least_of_class c.args.maps.rings c.args.maps.count)
    c.args.tablebase.now (c.loop-r.r + 1))
stepped c =
    let a = c.args in
    let e = c.mark_source.ensures
    ∙ marked_place_lem a.maps.rings a.back.part.start a.layer.source a.back.capture a.layer.depth (least_of_class a.maps.rings
    a.maps.count) c.loop-r.r c.loop-r.tablebase
    (c.loop-r.invariant.4 c.loop-r-test.true) _ (found c.before.before.before).1 in (
      ap length e ∙ place_length a.maps.rings a.back.part.start a.layer.source a.back.capture a.layer.depth (least_of_class
          a.maps.rings a.maps.count) c.loop-r.r
          c.loop-r.tablebase,
      e ∙ from_step a.maps.rings a.back.part.start a.layer.source a.back.capture a.layer.depth (least_of_class a.maps.rings
          a.maps.count) a.tablebase.now c.loop-r.r
          c.loop-r.tablebase c.loop-r.invariant.3,
    )

pub find_source-r-requires-in-loop-r : goal.find_source-r-requires-in-loop-r
find_source-r-requires-in-loop-r c =
    let a = c.args in (
      omega (arith, c.loop-r-test.true),
      λ h. let f = c.requires.preceding.stored h in omega (arith, f, c.loop-r.invariant.0, c.loop-r.invariant.2, (stepped (goal.at.find_source-r-requires-in-loop-r c).After-mark_source).0),
    )

pub loop-r-smaller : goal.loop-r-smaller
loop-r-smaller c = omega (arith, c.loop-r-test.true, c.find_source-r-in-loop-r.ensures.low)

pub loop-r-preserved : goal.loop-r-preserved
loop-r-preserved c =
    let a = c.args in (
      c.loop-r.invariant.0,
      c.find_source-r-in-loop-r.ensures.high,
      (stepped (goal.at.loop-r-preserved c).After-mark_source).0 ∙ c.loop-r.invariant.2,
      from_over a.maps.rings a.back.part.start a.layer.source a.back.capture a.layer.depth (least_of_class a.maps.rings
          a.maps.count) a.tablebase.now
          (c.loop-r.r + 1) _ c.find_source-r-in-loop-r.result
          c.mark_source.new.tablebase c.find_source-r-in-loop-r.ensures (stepped (goal.at.loop-r-preserved c).After-mark_source).1,
      c.find_source-r-in-loop-r.ensures.here,
      stands_at a.maps.rings a.layer.source.mover a.layer.source.opponent _ c.loop-r.r c.seek-at.result c.seek-at.ensures.0
          c.seek-at.ensures.1,
    )

pub shape_of-tablebase : goal.shape_of-tablebase
shape_of-tablebase c = c.loop-r.invariant.2

pub returns : goal.returns
returns c =
    let a = c.args in
    let e : c.loop-r.r ≡ size (8 * a.maps.rings) a.layer.source.mover a.layer.source.opponent = omega
    (arith, c.loop-r-test.false, c.loop-r.invariant.0, c.loop-r.invariant.1) in
    c.loop-r.invariant.3 ∙ ap (marked_from a.maps.rings a.back.part.start a.layer.source a.back.capture a.layer.depth (least_of_class
    a.maps.rings a.maps.count)
    a.tablebase.now) e
