-- `pairs::sweep_pair` meets its contract. Assumes nothing.
use mathlib.Core.Path.{sym, ap, subst, ◌∙◌}
use Prim.Native.Nat.{ℕ, ◌*◌}
use lib.ListN.{length}
use Rattle.sizes.specs.Size.{size}
use Rattle.deciding.specs.Inner.Fits.{Lies}
use Rattle.ending.proofs.Blocked.{blocked_lengths}
use Rattle.pairs.proofs.PairSteps.{blocked_once, blocked_twice}
use borrow.Author.Rules.{rules}
use Rattle.pairs.proofs.sweep_pair.Goals as goal

pub returns-then-first : goal.returns-then-first
returns-then-first c =
    let a = c.args in
    c.sweep_blocked-then-first.ensures
    ∙ blocked_twice a.rings a.tables.first a.tables.second a.tablebase.now c.sweep_blocked.new.tablebase c.sweep_blocked.ensures
    c.if-first.true

pub returns-else-first : goal.returns-else-first
returns-else-first c =
    let a = c.args in
    blocked_once a.rings a.tables.first a.tables.second a.tablebase.now c.sweep_blocked.new.tablebase c.sweep_blocked.ensures c.if-first.false

pub sweep_blocked-requires-then-first : goal.sweep_blocked-requires-then-first
sweep_blocked-requires-then-first c =
    let a = c.args in
    let e = ap length c.sweep_blocked.ensures
    ∙ blocked_lengths a.rings a.tables.first a.tablebase.now (size (8 * a.rings) a.tables.first.mover a.tables.first.opponent) in record { masks = c.requires.masks; lies = subst (λ (n : ℕ). Lies (8 * a.rings) a.tables.second n) (sym e) c.requires.lies.1 }
