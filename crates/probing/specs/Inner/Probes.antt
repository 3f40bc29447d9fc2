-- What is read of a tablebase to judge a position by its successors: the tables of the successors are given by where they start. Assumes nothing.
use Rattle.std.specs.Prelude.{◌≡◌, true, false, List, ◌⊎◌, ℕ, suc, ◌+◌, ◌-◌, ◌≤◌, eqb, ltb, get_or}
use Rattle.board.specs.Board.{count}
use Rattle.sizes.specs.Size.{size}
use Rattle.ranking.specs.Rank.{rank}

-- the entry of a successor of a position with o opposing stones: from the table that starts at `same` where no stone was removed, else 0 for a
-- side with two stones, else from the table that starts at `fewer`
unfoldable pub probe : List ℕ → ℕ → ℕ → ℕ → List ℕ → ℕ
probe tablebase same fewer o b = elim (eqb (count 1 b) o) [
  | true ↦ get_or tablebase (same + rank b) 0
  | false ↦ elim (ltb (count 1 b) 3) [ true ↦ 0 | false ↦ get_or tablebase (fewer + rank b) 0 ]
]

-- the stones left to a side of o once a ply has removed one or none
abbrev pub StonesLeft : ℕ → ℕ → Type 0
StonesLeft o m = (m ≡ o) ⊎ (suc m ≡ o)

-- the tables of the successors of a position with m and o stones lie within a tablebase of a length
pub record Reads (length points m o same fewer : ℕ) : Type 0 where
  pub same_room : same + size points o m ≤ length
  pub fewer_room : 4 ≤ o → fewer + size points (o - 1) m ≤ length
