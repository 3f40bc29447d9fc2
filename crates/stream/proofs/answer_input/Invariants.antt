-- `stream::answer_input` is safe and ends: the buffers keep their lengths. Assumes nothing.
use mathlib.Core.Path.{◌≡◌}
use Prim.Native.Nat.{◌≤◌}
use lib.ListN.{length}
use Rattle.keeping.specs.Kept.{most_kept}
use Rattle.stream.proofs.answer_input.Given as goal

abbrev pub invariant-loop : goal.invariant-loop
invariant-loop l =
    (length l.block ≡ length l.initial.block) × (length l.held ≡ length l.initial.held) × (length l.out ≡ length l.initial.out) × (l.kept ≤ most_kept)
