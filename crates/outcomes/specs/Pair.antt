-- The game of the pair (m, o) and (o, m): the entries of the lower tables are "given endings with the depths they state, a given draw as a drawn
-- end". Assumes nothing.
use Rattle.std.specs.Prelude.{◌≡◌, Bool, true, false, ◌&&◌, ◌||◌, List, ◌⊎◌, ℕ, suc, ◌+◌, ◌*◌, ◌≤◌, ◌<◌, eqb, ltb, get_or}
use Rattle.board.specs.Board.{count}
use Rattle.sizes.specs.Size.{size}
use Rattle.layout.specs.Layout.{start}
use Rattle.game.specs.Game.{Seed, live, ends, drawn, draw_entry, void_entry}
use Rattle.outcomes.specs.Places.{entry_at}

-- counts of a pair of tables of largest count k, on one, two or three rings
pub record Pair (rings k m o : ℕ) : Type 0 where
  pub small : rings ≤ 3
  pub mover_low : 3 ≤ m
  pub mover_high : m ≤ k
  pub opponent_low : 3 ≤ o
  pub opponent_high : o ≤ k

-- a board of one of the two tables
unfoldable pub in_pair : ℕ → ℕ → List ℕ → Bool
in_pair m o b = (eqb (count 1 b) m && eqb (count 2 b) o) || (eqb (count 1 b) o && eqb (count 2 b) m)

-- an entry as a given ending
unfoldable pub given : ℕ → Seed
given e = elim (eqb e draw_entry) [ true ↦ drawn | false ↦ ends e ]

-- the plies decide in the pair; a mover with two stones has lost; the rest is given by the tablebase
unfoldable pub pair_seed : ℕ → ℕ → ℕ → ℕ → List ℕ → List ℕ → Seed
pair_seed rings k m o tablebase b = elim (in_pair m o b) [
  | true ↦ live
  | false ↦ elim (ltb (count 1 b) 3) [ true ↦ ends 0 | false ↦ given (entry_at rings k tablebase b) ]
]

-- the lower tables (o - 1, m) and (m - 1, o), "where these counts are at least 3"
abbrev pub LowerTables : ℕ → ℕ → ℕ → ℕ → Type 0
LowerTables m o x y = (3 ≤ x) × (((suc x ≡ o) × (y ≡ m)) ⊎ ((suc x ≡ m) × (y ≡ o)))

-- they hold depths and draws, and no void
abbrev pub LowerValid : ℕ → ℕ → ℕ → ℕ → List ℕ → Type 0
LowerValid rings k m o tablebase = (x y r : ℕ) → LowerTables m o x y → r < size (8 * rings) x y
    → (get_or tablebase (start (8 * rings) k x y + r) 0 < void_entry) ⊎ (get_or tablebase (start (8 * rings) k x y + r) 0 ≡ draw_entry)
