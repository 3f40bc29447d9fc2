-- `judging::successors::some_destination` meets its contract: either way answers the same. Assumes nothing.
use mathlib.Core.Path.{◌≡◌, ap}
use Prim.Native.Nat.{ℕ}
use native.Mathlib.Omega.{arith}
use lib.ListN.{length}
use Rattle.sets.specs.Sets.{members}
use Rattle.sets.proofs.Elements.{length_elements, elements_none}
use borrow.Author.Rules.{rules}
use Rattle.judging.proofs.successors.some_destination.Goals as goal
use Rattle.judging.proofs.successors.some_destination.Goals.{Else-count-le-WALK_PAYS_ABOVE}

-- there are some destinations
some : (c : Else-count-le-WALK_PAYS_ABOVE) → c.args.stone.tos ≡ 0 → ⊥
some c z = omega (arith, c.count.ensures, ap (λ (s : ℕ). members s 32) z, length_elements 32 0, ap length (elements_none 32), c.if-count-le-WALK_PAYS_ABOVE.false)

pub some_jump-requires : goal.some_jump-requires
some_jump-requires c =
    record { probing = c.requires.probing; movable = (c.requires.movable, some (goal.at.some_jump-requires c).Else-count-le-WALK_PAYS_ABOVE) }
