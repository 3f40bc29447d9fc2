-- `check_cases::two_rings` is safe: the length by a law, since it is long to count. Assumes nothing.
use mathlib.Core.Path.{sym}
use Prim.Native.Nat.{ℕ}
use lib.ListN.{length-replicate}
use Rattle.check_cases.proofs.two_rings.Goals as goal

pub slice_bounds-two_rings_over-end : goal.slice_bounds-two_rings_over-end
slice_bounds-two_rings_over-end g c = sym (length-replicate {A = ℕ} 1861860 0)
