-- `masks::masks_of` meets its contract. The invariant: the neighbours passed are made, and the mills stay. Assumes nothing.
use mathlib.Core.Path.{◌≡◌}
use Prim.Native.Nat.{ℕ, ◌≤◌, ◌<◌}
use lib.ListN.{length, get_or}
use Rattle.sets.specs.Sets.{set_from}
use Rattle.geometry.specs.Geometry.{neighbours}
use Rattle.masks.proofs.Derived.{derived}
use Rattle.masks.proofs.masks_of.Given as goal

abbrev pub invariant-loop-p : goal.invariant-loop-p
invariant-loop-p l =
    (length l.masks ≡ 72) × ((q : ℕ) → q < l.p → get_or l.masks q 0 ≡ set_from (neighbours l.rings q)) × ((k : ℕ) → 24 ≤ k → get_or l.masks k 0 ≡ get_or (derived l.rings) k 0)
