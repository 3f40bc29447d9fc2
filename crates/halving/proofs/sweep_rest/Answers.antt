-- `halving::sweep_rest` meets its contract. The invariant: the places passed are swept. Assumes nothing.
use mathlib.Core.Path.{◌≡◌, sym, ap, subst, ◌∙◌}
use Prim.Native.Nat.{ℕ, ◌+◌, ◌-◌, ◌*◌}
use native.Mathlib.Omega.{arith}
use Rattle.sizes.specs.Size.{size}
use Rattle.deciding.specs.Inner.Fits.{Lies}
use Rattle.ending.specs.Inner.Blocked.{blocked_place, blocked_range}
use Rattle.ending.proofs.Blocked.{range_none, range_more}
use Rattle.halving.proofs.sweep_rest.Goals as goal

pub overflow_sub-size : goal.overflow_sub-size
overflow_sub-size c = omega (arith, c.requires.lies.0.whole)

pub loop-r-init : goal.loop-r-init
loop-r-init c =
    let a = c.args in
    let p = c.requires in
    let z : 0 ≡ a.from - a.from = omega arith in (
      omega (arith, p.lies.0.whole),
      range_none a.rings a.table a.from a.tablebase.now ∙ ap (blocked_range a.rings a.table a.from a.tablebase.now) z,
    )

pub overflow_mul-rings : goal.overflow_mul-rings
overflow_mul-rings c = omega (arith, c.requires.masks.small)

pub unrank-position-requires : goal.unrank-position-requires
unrank-position-requires c =
    (omega (arith, c.requires.masks.small), omega (arith, c.loop-r-test.true, c.loop-r.invariant.0))

pub sweep_place-requires : goal.sweep_place-requires
sweep_place-requires c =
    let a = c.args in record {
      masks = c.requires.masks;
      lies = (
        subst (λ (n : ℕ). Lies (8 * a.rings) a.table n) (sym c.loop-r.auto.tablebase) c.requires.lies.0,
        omega (arith, c.loop-r-test.true, c.loop-r.invariant.0),
      );
      position_value = c.unrank-position.ensures;
    }

pub loop-r-preserved : goal.loop-r-preserved
loop-r-preserved c =
    let a = c.args in
    let y : c.loop-r.r ≡ a.from + (c.loop-r.r - a.from) = omega arith in
    let z : c.loop-r.r - a.from + 1 ≡ c.loop-r.r + 1 - a.from = omega arith in
    let e = c.sweep_place.ensures in (
      c.loop-r.invariant.0,
      e ∙ ap (blocked_place a.rings a.table c.loop-r.tablebase) y
          ∙ range_more a.rings a.table a.from a.tablebase.now (c.loop-r.r - a.from) c.loop-r.tablebase c.loop-r.invariant.1
          ∙ ap (blocked_range a.rings a.table a.from a.tablebase.now) z,
    )

pub returns : goal.returns
returns c =
    let a = c.args in
    let e : c.loop-r.r - a.from ≡ size (8 * a.rings) a.table.mover a.table.opponent - a.from =
    omega (arith, c.loop-r-test.false, c.loop-r.invariant.0, c.requires.lies.1) in
    c.loop-r.invariant.1 ∙ ap (blocked_range a.rings a.table a.from a.tablebase.now) e
