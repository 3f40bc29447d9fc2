-- `depths::beyond` meets its contract. Assumes nothing.
use mathlib.Core.Path.{subst}
use mathlib.Core.Logic.{inl}
use native.Mathlib.Omega.{arith}
use Rattle.depths.specs.Inner.Depths.{Held}
use Rattle.depths.proofs.Held.{second_held}
use Rattle.depths.proofs.beyond.Goals as goal

pub returns-then-level-limit : goal.returns-then-level-limit
returns-then-level-limit c = inl c.if-level-limit.true

pub returns-then-holds : goal.returns-then-holds
returns-then-holds c =
    (omega (arith, c.if-level-limit.false), inl (subst (Held _ _ _) c.if-holds.true c.holds.ensures))

pub returns : goal.returns
returns c =
    let a = c.args in
    second_held a.tables.first a.tables.second a.limit a.level a.tablebase.now (omega (arith, c.if-level-limit.false))
    (subst (Held _ _ _) c.if-holds.false c.holds.ensures) c.holds-2.result c.holds-2.ensures
