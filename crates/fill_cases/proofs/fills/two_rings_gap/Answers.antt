-- `fill_cases::fills::two_rings_gap` is safe: the length by a law, since it is long to count. Assumes nothing.
use Rattle.std.proofs.Common.{ℕ, sym}
use lib.ListN.{length-replicate}
use Rattle.fill_cases.proofs.fills.two_rings_gap.Goals as goal

pub slice_bounds-fill_over-end : goal.slice_bounds-fill_over-end
slice_bounds-fill_over-end g c = sym (length-replicate {A = ℕ} 1861860 0)
