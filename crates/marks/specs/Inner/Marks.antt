-- Marks, by which a solver notes the open positions that it has to look at: an open place that is marked holds void, which no place of the tables to
-- fill holds otherwise. Assumes nothing.
use Rattle.std.specs.Prelude.{true, false, List, [], ◌∷◌, map, ℕ, ◌+◌, eqb, get_or, set}
use Rattle.ranking.specs.Rank.{rank}
use Rattle.game.specs.Game.{draw_entry, void_entry}

-- a place marked, if it is open
unfoldable pub mark_at : ℕ → List ℕ → List ℕ
mark_at j tablebase = elim (eqb (get_or tablebase j 0) draw_entry) [ true ↦ set tablebase j void_entry | false ↦ tablebase ]

-- places marked one after the other
unfoldable pub marked : List ℕ → List ℕ → List ℕ
marked [] tablebase = tablebase
marked (j ∷ js) tablebase = marked js (mark_at j tablebase)

-- the places of boards in the table that starts at a place
abbrev pub places : ℕ → List (List ℕ) → List ℕ
places start boards = map (λ b. start + rank b) boards
