-- The boards before a ply, stone by stone. Assumes nothing.
use Rattle.std.specs.Prelude.{Bool, true, false, List, [], ℕ}
use Rattle.lists.specs.Lists.{each}
use Rattle.rules.specs.Ply.{holds, in_mill}
use Rattle.rules.specs.Predecessors.{origins, restored}

-- a stone may have moved last: any, or one in a full mill where a stone was removed
unfoldable pub may_have_moved : Bool → ℕ → List ℕ → ℕ → Bool
may_have_moved capture rings c to = elim capture [ true ↦ in_mill rings (holds c 2) to | false ↦ true ]

-- the boards before a ply of the stone at a point
unfoldable pub before_stone : Bool → ℕ → List ℕ → ℕ → List (List ℕ)
before_stone capture rings c to = elim (may_have_moved capture rings c to) [
  | true ↦ each (λ from. restored capture rings c to from) (origins rings c to)
  | false ↦ []
]
