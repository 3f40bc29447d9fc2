-- `asking::ranges::key` meets its contract. Assumes nothing.
use mathlib.Core.Path.{sym}
use Rattle.asking.proofs.Keys.{key_won, key_other}
use borrow.Author.Rules.{rules}
use Rattle.asking.proofs.ranges.key.Goals as goal

pub returns-then-e : goal.returns-then-e
returns-then-e c = sym (key_won c.args.entry c.if-e.true)

pub returns : goal.returns
returns c = sym (key_other c.args.entry c.if-e.false)
