-- `tables::lower_part` meets its contract. Assumes nothing.
use mathlib.Core.Path.{◌∙◌}
use borrow.Author.Tests.{eq-eqb, ne_eqb}
use Rattle.tables.specs.Inner.Tables.{lower_start, lower_end}
use borrow.Author.Rules.{rules}
use Rattle.tables.proofs.lower_part.Goals as goal

pub returns-then-o-eq3 : goal.returns-then-o-eq3
unfolding lower_start lower_end
returns-then-o-eq3 c =
    let e = eq-eqb c.args.o 3 c.if-o-eq3.true in
    (rw (e, lower_start), rw (e, lower_end))

pub returns : goal.returns
unfolding lower_start lower_end
returns c =
    let e = ne_eqb c.args.o 3 c.if-o-eq3.false in
    (c.part_of.ensures.0 ∙ rw (e, lower_start), c.part_of.ensures.1 ∙ rw (e, lower_end))
