-- `asking::ranges::asked` meets its contract. Assumes nothing.
use mathlib.Core.Path.{sym, ap, ◌∙◌}
use mathlib.Core.Bool.{◌&&◌}
use Prim.Native.Nat.{ℕ}
use lib.Dec.{leb, ltb}
use Rattle.asking.proofs.Keys.{asked_is}
use borrow.Author.Rules.{rules}
use Rattle.asking.proofs.ranges.asked.Goals as goal

pub returns : goal.returns
returns c =
    let a = c.args in
    ap (λ (x : ℕ). leb a.question.low x && ltb x a.question.high) c.key-k.ensures
    ∙ sym (asked_is a.question.low a.question.high a.entry)
