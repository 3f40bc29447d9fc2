-- `fill_cases::fills::two_rings_of_three` is safe: the length by a law, since it is long to count. Assumes nothing.
use Rattle.std.proofs.Common.{ℕ, sym}
use lib.ListN.{length-replicate}
use Rattle.fill_cases.proofs.fills.two_rings_of_three.Goals as goal

pub slice_bounds-fill_in-end : goal.slice_bounds-fill_in-end
slice_bounds-fill_in-end g c = sym (length-replicate {A = ℕ} 160160 0)
