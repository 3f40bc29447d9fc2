-- `asking::slides::leads` meets its contract. Assumes nothing.
use mathlib.Core.Path.{ap, ◌∙◌}
use Rattle.asking.specs.Inner.Keys.{asked}
use borrow.Author.Rules.{rules}
use Rattle.asking.proofs.slides.leads.Goals as goal

pub returns : goal.returns
returns c =
    let q = c.args.question in
    c.asked.ensures ∙ ap (asked q.low q.high) c.entry_after_move-entry.ensures
