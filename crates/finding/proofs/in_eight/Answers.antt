-- `finding::in_eight` meets its contract. Assumes nothing.
use Rattle.std.proofs.Common.{Bool, ◌||◌, ◌∙◌, ap₂}
use Rattle.finding.proofs.Occurs.{occurs_split}
use Rattle.finding.proofs.in_eight.Goals as goal

pub returns : goal.returns
returns c =
    let a = c.args in
    ap₂ (λ (x y : Bool). x || y) c.in_four.ensures c.in_four-2.ensures ∙ occurs_split a.v a.tablebase.now a.i 4 4
