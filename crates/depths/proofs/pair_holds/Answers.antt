-- `depths::pair_holds` meets its contract. Assumes nothing.
use mathlib.Core.Path.{subst}
use mathlib.Core.Logic.{inl, inr}
use Rattle.depths.specs.Inner.Depths.{Held}
use Rattle.depths.proofs.Held.{last_held}
use Rattle.depths.proofs.pair_holds.Goals as goal

pub returns-then-holds : goal.returns-then-holds
returns-then-holds c = inl (inl (subst (Held _ _ _) c.if-holds.true c.holds.ensures))

pub returns-then-holds-2 : goal.returns-then-holds-2
returns-then-holds-2 c = inl (inr (subst (Held _ _ _) c.if-holds-2.true c.holds-2.ensures))

pub returns-then-holds-3 : goal.returns-then-holds-3
returns-then-holds-3 c = inr (inl (subst (Held _ _ _) c.if-holds-3.true c.holds-3.ensures))

pub returns : goal.returns
returns c =
    let a = c.args in
    last_held a.tables.first a.tables.second a.entry a.tablebase.now (subst (Held _ _ _) c.if-holds.false c.holds.ensures)
    (subst (Held _ _ _) c.if-holds-2.false c.holds-2.ensures) (subst (Held _ _ _) c.if-holds-3.false c.holds-3.ensures) c.holds-4.result
    c.holds-4.ensures
