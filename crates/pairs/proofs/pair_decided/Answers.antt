-- `pairs::pair_decided` meets its contract. Assumes nothing.
use mathlib.Core.Path.{subst}
use mathlib.Core.Logic.{inl}
use Rattle.rules.specs.Ply.{removable}
use Rattle.deciding.specs.Inner.Open.{Found}
use Rattle.pairs.proofs.PairSteps.{second_found}
use borrow.Author.Rules.{rules}
use Rattle.pairs.proofs.pair_decided.Goals as goal

pub returns-then-some_decided : goal.returns-then-some_decided
returns-then-some_decided c = inl (subst (Found _ _) c.if-some_decided.true c.some_decided.ensures)

pub returns : goal.returns
returns c =
    second_found (removable c.args.edition) c.args.rings c.args.tables.first c.args.tables.second c.args.tablebase.now
    (subst (Found _ _) c.if-some_decided.false c.some_decided.ensures) c.some_decided-2.result c.some_decided-2.ensures
