-- `masks::mills_placed` meets its contract. The invariant: the mills passed stand at their points. Assumes nothing.
use mathlib.Core.Path.{◌≡◌}
use Prim.Native.Nat.{ℕ}
use lib.ListN.{replicate}
use Rattle.masks.specs.Inner.Placing.{mills_placed}
use Rattle.masks.proofs.mills_placed.Given as goal

abbrev pub invariant-loop-i : goal.invariant-loop-i
invariant-loop-i l = l.masks ≡ mills_placed l.i (replicate {A = ℕ} 72 0)
