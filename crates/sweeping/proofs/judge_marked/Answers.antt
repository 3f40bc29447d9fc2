-- `sweeping::judge_marked` meets its contract. The invariant: the places passed are judged, and the rank to come is marked. Assumes nothing.
use mathlib.Core.Path.{◌≡◌, refl, sym, ap, subst, ◌∙◌}
use mathlib.Core.Bool.{true}
use Prim.Native.Nat.{ℕ, ◌≤◌, ◌<◌, ◌-◌, ◌+◌, ◌*◌}
use native.Mathlib.Omega.{arith}
use lib.ListN.{length}
use Rattle.sizes.specs.Size.{size}
use Rattle.rules.specs.Ply.{removable}
use Rattle.seeking.specs.Inner.Cursors.{Stands}
use Rattle.deciding.specs.Inner.Fits.{Fits}
use Rattle.settling.specs.Inner.Settled.{judged_class, is_marked, judged_first}
use Rattle.settling.proofs.Judged.{judged_none, judged_length, judged_step, judged_over}
use Rattle.seeking.proofs.Positions.{stands_at}
use Rattle.board.specs.Board.{position_of}
use Rattle.ranking.specs.Unrank.{unrank}
use Rattle.sweeping.proofs.judge_marked.Goals as goal
use Rattle.sweeping.proofs.judge_marked.Goals.{After-judge_place}

pub overflow_sub-size : goal.overflow_sub-size
overflow_sub-size c = omega (arith, c.requires.sweeping.fits.end_is)

pub find_mark-r-requires : goal.find_mark-r-requires
find_mark-r-requires c =
    let f = c.requires.sweeping.fits in
    (omega (arith, f.end_is), f.room)

pub loop-r-init : goal.loop-r-init
loop-r-init c =
    let a = c.args in (
      omega (arith, c.requires.sweeping.fits.end_is),
      c.find_mark-r.ensures.high,
      refl,
      judged_over (removable a.sweep.edition) a.maps.rings a.sweep.table a.sweep.same a.sweep.level a.maps.count
          a.tablebase.now 0 _
          c.find_mark-r.result a.tablebase.now
          c.find_mark-r.ensures
          (judged_none (removable a.sweep.edition) a.maps.rings a.sweep.table a.sweep.same
          a.sweep.level a.maps.count a.tablebase.now),
      c.find_mark-r.ensures.here,
      λ h. absurd (omega (arith, c.nowhere-at.ensures)),
    )

pub seek-at-requires : goal.seek-at-requires
seek-at-requires c =
    record {
      rings_bound = (c.requires.sweeping.fits.small, omega (arith, c.loop-r-test.true, c.loop-r.invariant.0));
      stands = λ h. c.loop-r.invariant.5 (omega
          (arith, c.loop-r-test.true));
    }

pub judge_place-requires : goal.judge_place-requires
judge_place-requires c =
    let a = c.args in
    let f = c.requires.sweeping in
    let e = c.seek-at.ensures in
    let l = c.loop-r-test.true in record {
      masks = c.requires.masks;
      sweeping = (
        record {
          few = f.few;
          fits = subst (λ (n : ℕ). Fits n a.maps.rings a.sweep.table a.sweep.same) (sym c.loop-r.invariant.2) f.fits;
          level_low = f.level_low;
        },
        record {
          low = omega (arith, l, c.loop-r.invariant.0, e.0);
          position_is = e.1 ∙ ap (λ (r : ℕ). position_of (unrank (8 * a.maps.rings) a.sweep.table.mover a.sweep.table.opponent r)) (sym
              e.0);
          marked = ap (is_marked a.sweep.table c.loop-r.tablebase) e.0 ∙ c.loop-r.invariant.4 l;
        },
      );
    }

pub overflow_add-r : goal.overflow_add-r
overflow_add-r c = omega (arith, c.loop-r-test.true)

-- this one is judged
stepped : (c : After-judge_place)
    → (length c.judge_place.new.tablebase ≡ length c.loop-r.tablebase)
    × (c.judge_place.new.tablebase ≡ judged_first (removable c.args.sweep.edition)
    c.args.maps.rings
    c.args.sweep.table c.args.sweep.same
    c.args.sweep.level c.args.maps.count
    c.args.tablebase.now
    (c.loop-r.r + 1))
stepped c =
    let a = c.args in
    let e = c.judge_place.ensures
    ∙ ap (judged_class (removable a.sweep.edition) a.maps.rings a.sweep.table a.sweep.same a.sweep.level a.maps.count
    c.loop-r.tablebase) c.seek-at.ensures.0 in (
      ap length e ∙ judged_length (removable a.sweep.edition) a.maps.rings a.sweep.table a.sweep.same a.sweep.level
          a.maps.count c.loop-r.r c.loop-r.tablebase,
      e ∙ judged_step (removable a.sweep.edition) a.maps.rings a.sweep.table a.sweep.same a.sweep.level a.maps.count
          a.tablebase.now c.loop-r.r
          c.loop-r.tablebase c.loop-r.invariant.3,
    )

pub find_mark-r-requires-in-loop-r : goal.find_mark-r-requires-in-loop-r
find_mark-r-requires-in-loop-r c =
    let f = c.requires.sweeping.fits in (
      omega (arith, c.loop-r-test.true, f.end_is),
      omega (arith, f.room, c.loop-r.invariant.2, (stepped (goal.at.find_mark-r-requires-in-loop-r c).After-judge_place).0),
    )

pub loop-r-smaller : goal.loop-r-smaller
loop-r-smaller c = omega (arith, c.loop-r-test.true, c.find_mark-r-in-loop-r.ensures.low)

pub loop-r-preserved : goal.loop-r-preserved
loop-r-preserved c =
    let a = c.args in (
      c.loop-r.invariant.0,
      c.find_mark-r-in-loop-r.ensures.high,
      (stepped (goal.at.loop-r-preserved c).After-judge_place).0 ∙ c.loop-r.invariant.2,
      judged_over (removable a.sweep.edition) a.maps.rings a.sweep.table a.sweep.same a.sweep.level a.maps.count
          a.tablebase.now (c.loop-r.r + 1) _
          c.find_mark-r-in-loop-r.result
          c.judge_place.new.tablebase
          c.find_mark-r-in-loop-r.ensures (stepped (goal.at.loop-r-preserved c).After-judge_place).1,
      c.find_mark-r-in-loop-r.ensures.here,
      stands_at a.maps.rings a.sweep.table.mover a.sweep.table.opponent _ c.loop-r.r c.seek-at.result c.seek-at.ensures.0
          c.seek-at.ensures.1,
    )

pub shape_of-tablebase : goal.shape_of-tablebase
shape_of-tablebase c = c.loop-r.invariant.2

pub returns : goal.returns
returns c =
    let a = c.args in
    let e : c.loop-r.r ≡ size (8 * a.maps.rings) a.sweep.table.mover a.sweep.table.opponent = omega
    (arith, c.loop-r-test.false, c.loop-r.invariant.0, c.loop-r.invariant.1) in
    c.loop-r.invariant.3 ∙ ap (judged_first (removable a.sweep.edition) a.maps.rings a.sweep.table a.sweep.same a.sweep.level
    a.maps.count a.tablebase.now) e
