-- `finding::in_two` meets its contract. Assumes nothing.
use Rattle.std.proofs.Common.{◌+◌, Bool, ◌||◌, ◌∙◌, ap₂}
use Rattle.finding.proofs.Occurs.{occurs_one, occurs_split}
use Rattle.finding.proofs.in_two.Goals as goal

pub returns : goal.returns
returns c =
    let a = c.args in
    let l = a.tablebase.now in
    ap₂ (λ (x y : Bool). x || y) (occurs_one a.v l a.i) (occurs_one a.v l (a.i + 1)) ∙ occurs_split a.v l a.i 1 1
