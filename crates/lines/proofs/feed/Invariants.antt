-- `lines::feed` meets its contract: one byte after the other. Assumes nothing.
use mathlib.Core.Path.{◌≡◌}
use Prim.Native.Nat.{◌-◌, ◌≤◌}
use lib.ListN.{length, take}
use Rattle.keeping.specs.Kept.{most_kept}
use Rattle.lines.proofs.Blocks.{Feeding}
use Rattle.lines.proofs.feed.Given as goal

abbrev pub invariant-loop-i : goal.invariant-loop-i
invariant-loop-i l =
    (l.i ≤ length l.block) × (length l.held ≡ most_kept) × (l.count ≤ most_kept) × Feeding l.tablebase l.block (take l.kept l.initial.held) l.initial.out l.i (take l.count l.held) l.out l.used
