-- `plies::choices::unshielded` meets its contract. The invariant: what is there, with the unshielded among the stones left, is the whole. Assumes
-- nothing.
use mathlib.Core.Path.{◌≡◌, sym, ap, ◌∙◌}
use mathlib.Core.Bool.{Bool, not}
use mathlib.Core.List.{List}
use Prim.Native.Nat.{ℕ, ◌^◌, ◌<◌}
use native.Mathlib.Omega.{arith}
use Rattle.lists.specs.Lists.{keep}
use Rattle.sets.specs.Sets.{has, elements, with_all, set_from}
use Rattle.sets.proofs.Elements.{bit_low, elements_none, with_none, with_kept, from_is}
use Rattle.rules.specs.Ply.{in_mill}
use Rattle.plies.proofs.choices.unshielded.Given as goal

abbrev pub invariant-loop-left : goal.invariant-loop-left
invariant-loop-left l =
    (l.left < 2 ^ 24)
    × (with_all l.s (keep (λ p. not (in_mill l.rings (λ q. has l.side q) p)) (elements 32 l.left))
    ≡ set_from (keep (λ p. not (in_mill l.rings (λ q. has l.side q) p)) (elements 32 l.side)))

abbrev pub decreases-loop-left : goal.decreases-loop-left
decreases-loop-left l = l.left
