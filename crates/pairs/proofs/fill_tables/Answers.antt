-- `pairs::fill_tables` meets its contract. Assumes nothing.
use mathlib.Core.Path.{ap, ◌∙◌}
use Rattle.parts.specs.Parts.{filled_part}
use borrow.Author.Rules.{rules}
use Rattle.pairs.proofs.fill_tables.Goals as goal

pub returns : goal.returns
returns c =
    let b = c.args.tables.second.own in
    c.fill_table-2.ensures ∙ ap (filled_part b.start b.end c.args.v)
    c.fill_table.ensures
