-- `depths::pair_least` meets its contract. Assumes nothing.
use mathlib.Core.Path.{subst, ap₂, ◌∙◌}
use Prim.Native.Nat.{min}
use Rattle.depths.specs.Inner.Depths.{PairHeld}
use Rattle.depths.proofs.Held.{least_of, least_held}
use Rattle.depths.proofs.pair_least.Goals as goal

pub returns-then-pair_holds : goal.returns-then-pair_holds
returns-then-pair_holds c =
    let a = c.args in
    least_held a.tables.first a.tables.second a.low a.tablebase.now c.requires.1 c.requires.0
    (subst (PairHeld a.tables.first a.tables.second a.low a.tablebase.now) c.if-pair_holds.true c.pair_holds.ensures)

pub returns : goal.returns
returns c =
    let a = c.args in
    c.min-3.ensures ∙ ap₂ min c.min.ensures c.min-2.ensures
    ∙ least_of a.tables.first a.tables.second a.low a.tablebase.now c.least_depth-a.result c.least_depth-b.result
    c.least_depth-c.result c.least_depth-d.result c.least_depth-a.ensures c.least_depth-b.ensures
    c.least_depth-c.ensures c.least_depth-d.ensures
