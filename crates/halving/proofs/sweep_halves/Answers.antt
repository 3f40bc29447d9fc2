-- `halving::sweep_halves` meets its contract. The invariant: the first r places of both halves are swept, and the positions are those of the
-- ranks to come. Assumes nothing.
use mathlib.Core.Path.{◌≡◌, sym, ap, subst, ◌∙◌}
use mathlib.Core.List.{List}
use Prim.Native.Nat.{ℕ, ◌+◌, ◌≤◌, ◌*◌}
use native.Mathlib.Omega.{arith}
use lib.ListN.{length}
use Rattle.board.specs.Board.{position_of}
use Rattle.sizes.proofs.Multinomials.{size_small}
use Rattle.ranking.specs.Unrank.{unrank}
use Rattle.deciding.specs.Inner.Fits.{Lies}
use Rattle.ending.specs.Inner.Blocked.{blocked_place, blocked_first, blocked_range}
use Rattle.ending.proofs.Blocked.{blocked_length, halves_none, halves_more, range_after}
use Rattle.halving.proofs.sweep_halves.Goals as goal
use Rattle.halving.proofs.sweep_halves.Goals.{Start}

-- half of a table is a small number
small : (s : Start) → s.args.half ≤ 281474976710656
small s =
    let a = s.args in
    let p = s.requires in
    omega (arith, p.lies.2, size_small (8 * a.rings) a.table.mover a.table.opponent (omega (arith, p.masks.small)))

pub overflow_mul-rings : goal.overflow_mul-rings
overflow_mul-rings c = omega (arith, c.requires.masks.small)

pub unrank-low-requires : goal.unrank-low-requires
unrank-low-requires c =
    (omega (arith, c.requires.masks.small), omega (arith, c.requires.lies.1, c.requires.lies.2))

pub overflow_mul-rings-2 : goal.overflow_mul-rings-2
overflow_mul-rings-2 c = omega (arith, c.requires.masks.small)

pub unrank-high-requires : goal.unrank-high-requires
unrank-high-requires c =
    (omega (arith, c.requires.masks.small), omega (arith, c.requires.lies.1, c.requires.lies.2))

pub loop-r-init : goal.loop-r-init
loop-r-init c =
    let a = c.args in
    let z : a.half ≡ a.half + 0 = omega arith in (
      halves_none a.rings a.table a.tablebase.now a.half,
      λ h. c.unrank-low.ensures,
      λ h. c.unrank-high.ensures ∙ ap (λ (i : ℕ). position_of (unrank (8 * a.rings) a.table.mover a.table.opponent i)) z,
    )

pub sweep_place-requires : goal.sweep_place-requires
sweep_place-requires c =
    let a = c.args in
    let p = c.requires in
    let t = c.loop-r-test.true in record { masks = c.requires.masks; lies = (subst (λ (n : ℕ). Lies (8 * a.rings) a.table n) (sym c.loop-r.auto.tablebase) p.lies.0, omega (arith, t, p.lies.2)); position_value = c.loop-r.invariant.1 t }

pub overflow_add-half : goal.overflow_add-half
overflow_add-half c = omega (arith, c.loop-r-test.true)

pub sweep_place-requires-in-loop-r : goal.sweep_place-requires-in-loop-r
sweep_place-requires-in-loop-r c =
    let a = c.args in
    let p = c.requires in
    let t = c.loop-r-test.true in
    let e = ap length c.sweep_place.ensures ∙ blocked_length a.rings a.table c.loop-r.r c.loop-r.tablebase
    ∙ c.loop-r.auto.tablebase in record {
      masks = c.requires.masks;
      lies = (subst (λ (n : ℕ). Lies (8 * a.rings) a.table n) (sym e) p.lies.0, omega (arith, t, p.lies.2));
      position_value = c.loop-r.invariant.2 t;
    }

pub ahead-low-requires : goal.ahead-low-requires
ahead-low-requires c =
    let p = c.requires in
    let t = c.loop-r-test.true in record { rings_bound = (p.masks.small, t, omega (arith, p.lies.2)); position_value = c.loop-r.invariant.1 t }

pub overflow_add-half-in-loop-r : goal.overflow_add-half-in-loop-r
overflow_add-half-in-loop-r c =
    omega (
      arith,
      small (goal.at.overflow_add-half-in-loop-r c).Start,
      c.loop-r-test.true,
    )

pub overflow_add-half-in-loop-r-2 : goal.overflow_add-half-in-loop-r-2
overflow_add-half-in-loop-r-2 c = omega (arith, small (goal.at.overflow_add-half-in-loop-r-2 c).Start)

pub ahead-high-requires : goal.ahead-high-requires
ahead-high-requires c =
    let p = c.requires in
    let t = c.loop-r-test.true in record { rings_bound = (p.masks.small, omega (arith, t), p.lies.2); position_value = c.loop-r.invariant.2 t }

pub loop-r-preserved : goal.loop-r-preserved
loop-r-preserved c =
    let a = c.args in
    let t = c.loop-r-test.true in
    let e = c.sweep_place.ensures in
    let f = c.sweep_place-in-loop-r.ensures in
    let z : a.half + c.loop-r.r + 1 ≡ a.half + (c.loop-r.r + 1) = omega arith in (
      f ∙ ap (λ (l : List ℕ). blocked_place a.rings a.table l (a.half + c.loop-r.r)) e
          ∙ halves_more a.rings a.table a.tablebase.now a.half c.loop-r.r t c.loop-r.tablebase c.loop-r.invariant.0,
      λ h. c.ahead-low.ensures h,
      λ h. c.ahead-high.ensures (omega (arith, h)) ∙ ap (λ (i : ℕ). position_of (unrank (8 * a.rings) a.table.mover a.table.opponent i)) z,
    )

pub returns : goal.returns
returns c =
    let a = c.args in
    let e : c.loop-r.r ≡ a.half = omega (arith, c.loop-r-test.false) in
    c.loop-r.invariant.0
    ∙ ap (λ (i : ℕ). blocked_range a.rings a.table a.half (blocked_first a.rings a.table a.tablebase.now i) i) e
    ∙ range_after a.rings a.table a.tablebase.now a.half a.half
