-- `finding::nearer` meets its contract. Assumes nothing.
use Rattle.std.proofs.Common.{ℕ, ◌+◌, ap, ◌∙◌, arith}
use Rattle.finding.proofs.LeastDepth.{nearer_is}
use Rattle.finding.proofs.nearer.Goals as goal

pub returns : goal.returns
returns c =
    let a = c.args in
    ap (λ (n : ℕ). a.low + n) c.min.ensures ∙ nearer_is a.low a.above a.e _ c.requires (omega arith) (omega arith)
