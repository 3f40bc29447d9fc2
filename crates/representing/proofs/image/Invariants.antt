-- `representing::image` meets its contract. The invariant: the points passed hold what stands at their sources. Assumes nothing.
use mathlib.Core.Path.{◌≡◌}
use Prim.Native.Nat.{ℕ, ◌<◌}
use lib.ListN.{length, get_or}
use Rattle.symmetry.specs.Symmetries.{source}
use Rattle.representing.proofs.image.Given as goal

abbrev pub invariant-loop-p : goal.invariant-loop-p
invariant-loop-p l = (length l.out ≡ 24) × ((k : ℕ) → k < l.p → get_or l.out k 0 ≡ get_or l.board (source l.rings l.g k) 0)
