-- `representing::whole` meets its contract. Assumes nothing.
use Rattle.std.proofs.Common.{◌++◌, List, ℕ, ap, length}
use Rattle.std.proofs.lemmas.List.{drop-replicate}
use Rattle.symmetry.specs.Symmetries.{whole}
use Rattle.representing.proofs.whole.Goals as goal

pub returns : goal.returns
unfolding whole
returns c =
    let b = c.args.board.now in
    rw c.copy_from_slice.ensures.after (ap (λ (l : List ℕ). b ++ l) (drop-replicate (length b) 24 0))
