-- Where a board's entry stands in a tablebase (document 01: "At place r of a table, counted from 0, stands the entry of its position of rank r."),
-- and where void is met. Assumes nothing.
use Rattle.std.specs.Prelude.{Bool, true, false, ◌&&◌, ◌||◌, List, ℕ, ◌+◌, ◌-◌, ◌*◌, eqb, leb, ltb, get_or, take, drop}
use Rattle.lists.specs.Lists.{any}
use Rattle.board.specs.Board.{count}
use Rattle.sizes.specs.Size.{size}
use Rattle.ranking.specs.Rank.{rank}
use Rattle.layout.specs.Layout.{start}
use Rattle.rules.specs.Ply.{Rule, successors}
use Rattle.game.specs.Game.{void_entry}

unfoldable pub place_of : ℕ → ℕ → List ℕ → ℕ
place_of rings k b = start (8 * rings) k (count 1 b) (count 2 b) + rank b

unfoldable pub entry_at : ℕ → ℕ → List ℕ → List ℕ → ℕ
entry_at rings k tablebase b = get_or tablebase (place_of rings k b) 0

-- the entry by which a successor is judged: "0 for a side with two stones"
unfoldable pub successor_entry : ℕ → ℕ → List ℕ → List ℕ → ℕ
successor_entry rings k tablebase b = elim (ltb (count 1 b) 3) [ true ↦ 0 | false ↦ entry_at rings k tablebase b ]

abbrev pub is_void : ℕ → Bool
is_void e = eqb e void_entry

-- void in any successor of a board
unfoldable pub successor_void : Rule → ℕ → ℕ → List ℕ → List ℕ → Bool
successor_void rule rings k tablebase b = any (λ c. is_void (successor_entry rings k tablebase c)) (successors rule rings b)

-- void in table (m, o)
unfoldable pub table_void : ℕ → ℕ → List ℕ → ℕ → ℕ → Bool
table_void rings k tablebase m o = any (λ e. is_void e) (take (size (8 * rings) m o) (drop (start (8 * rings) k m o) tablebase))

-- void in the lower tables of the pair (m, o) and (o, m): "(o − 1, m) and (m − 1, o), where these counts are at least 3"
unfoldable pub lower_void : ℕ → ℕ → List ℕ → ℕ → ℕ → Bool
lower_void rings k tablebase m o =
    (leb 3 (o - 1) && table_void rings k tablebase (o - 1) m) || (leb 3 (m - 1) && table_void rings k tablebase (m - 1) o)
