-- `halving::sweep_places` meets its contract. Assumes nothing.
use mathlib.Core.Path.{◌≡◌, sym, ap, subst, ◌∙◌}
use mathlib.Core.List.{List}
use Prim.Native.Nat.{ℕ, ◌+◌, ◌-◌, ◌*◌, ◌/◌}
use native.Mathlib.Omega.{arith}
use lib.ListN.{length}
use Rattle.sizes.specs.Size.{size}
use Rattle.deciding.specs.Inner.Fits.{Lies}
use Rattle.ending.specs.Inner.Blocked.{blocked_first, blocked_range}
use Rattle.ending.proofs.Blocked.{blocked_none, blocked_lengths, range_after}
use Rattle.halving.proofs.sweep_places.Goals as goal

pub returns-then-half-eq0 : goal.returns-then-half-eq0
returns-then-half-eq0 c =
    let a = c.args in
    let n = size (8 * a.rings) a.table.mover a.table.opponent in
    let z : 0 + (n - 0) ≡ n = omega arith in
    c.sweep_rest.ensures
    ∙ ap (λ (l : List ℕ). blocked_range a.rings a.table 0 l (n - 0)) (blocked_none a.rings a.table a.tablebase.now)
    ∙ range_after a.rings a.table a.tablebase.now 0 (n - 0) ∙ ap (blocked_first a.rings a.table a.tablebase.now) z

pub sweep_halves-requires : goal.sweep_halves-requires
sweep_halves-requires c =
    let p = c.requires in record { masks = p.masks; lies = (p.lies, omega (arith, c.if-half-eq0.false), omega (arith, p.lies.whole)) }

pub sweep_rest-requires-2 : goal.sweep_rest-requires-2
sweep_rest-requires-2 c =
    let a = c.args in
    let p = c.requires in
    let e = ap length c.sweep_halves.ensures ∙ blocked_lengths a.rings a.table a.tablebase.now _ in record { masks = p.masks; lies = (subst (λ (n : ℕ). Lies (8 * a.rings) a.table n) (sym e) p.lies, omega (arith, p.lies.whole)) }

pub returns : goal.returns
returns c =
    let a = c.args in
    let p = c.requires in
    let n = size (8 * a.rings) a.table.mover a.table.opponent in
    let h = (a.table.own.end - a.table.own.start) / 2 in
    let z : h + h + (n - (h + h)) ≡ n = omega (arith, p.lies.whole) in
    c.sweep_rest-2.ensures ∙ ap (λ (l : List ℕ). blocked_range a.rings a.table (h + h) l (n - (h + h))) c.sweep_halves.ensures
    ∙ range_after a.rings a.table a.tablebase.now (h + h) (n - (h + h)) ∙ ap (blocked_first a.rings a.table a.tablebase.now) z
