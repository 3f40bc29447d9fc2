-- `listing::list_removals` meets its contract. Assumes nothing.
use mathlib.Core.Path.{refl, ap, ◌∙◌}
use mathlib.Core.List.{List, [], ◌∷◌}
use Prim.Native.Nat.{ℕ, ◌+◌, ◌≤◌}
use native.Mathlib.Omega.{arith}
use borrow.Author.Rules.{rules}
use lib.ListN.{length, length-map}
use lib.Seq.{sets}
use Rattle.sets.specs.Sets.{elements}
use Rattle.sets.proofs.Passing.{Written, written_none, written_more, written_all, written_room, each_map}
use Rattle.listing.proofs.list_removals.Given as goal

abbrev pub invariant-loop-left : goal.invariant-loop-left
invariant-loop-left l = Written (λ p. (l.base + p) ∷ []) l.initial.list l.at l.removals l.list l.k l.left

abbrev pub decreases-loop-left : goal.decreases-loop-left
decreases-loop-left l = l.left
