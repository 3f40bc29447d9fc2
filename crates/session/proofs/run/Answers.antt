-- `session::run` lends what `serve` asks for: the longest length by a law, since it is long to count. Assumes nothing.
use mathlib.Core.Path.{sym}
use Prim.Native.Nat.{ℕ}
use lib.ListN.{length-replicate}
use Rattle.session.proofs.run.Goals as goal

pub slice_bounds-serve-end-4 : goal.slice_bounds-serve-end-4
slice_bounds-serve-end-4 c = sym (length-replicate {A = ℕ} _ 0)
