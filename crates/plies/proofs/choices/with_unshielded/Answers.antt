-- `plies::choices::with_unshielded` meets its contract. Assumes nothing.
use mathlib.Core.Path.{sym, ◌∙◌}
use borrow.Author.Rules.{rules}
use Rattle.plies.proofs.choices.with_unshielded.Goals as goal

pub returns-then-in_mill : goal.returns-then-in_mill
returns-then-in_mill c = rw (sym c.in_mill.ensures ∙ c.if-in_mill.true)

pub returns : goal.returns
returns c = rw (sym c.in_mill.ensures ∙ c.if-in_mill.false) c.with.ensures
