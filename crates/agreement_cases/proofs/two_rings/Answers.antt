-- `agreement_cases::two_rings` is safe: the lengths by a law, since they are long to count. Assumes nothing.
use Rattle.std.proofs.Common.{ℕ, sym}
use lib.ListN.{length-replicate}
use Rattle.agreement_cases.proofs.two_rings.Goals as goal

pub slice_bounds-both-end : goal.slice_bounds-both-end
slice_bounds-both-end g c = sym (length-replicate {A = ℕ} 1861860 0)

pub slice_bounds-both-end-2 : goal.slice_bounds-both-end-2
slice_bounds-both-end-2 g c = sym (length-replicate {A = ℕ} 1861860 0)
