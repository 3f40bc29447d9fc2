-- The best move (document 01: "A best move is the first listed among: quickest win, else a draw, else longest loss, judged by the successors'
-- entries"): a move to a lost successor wins, and one to a won successor loses. Assumes nothing.
use Rattle.std.specs.Prelude.{Bool, true, false, List, [], ◌∷◌, map, ℕ, eqb}
use Rattle.lists.specs.Lists.{any}
use Rattle.game.specs.Game.{draw_entry}
use Rattle.game.specs.Judgement.{is_lost, least_lost, greatest}

-- the best of the successors' entries: the least lost one, else a draw, else the greatest
unfoldable pub best_entry : List ℕ → ℕ
best_entry es = elim (any (λ e. is_lost e) es) [
  | true ↦ least_lost es
  | false ↦ elim (any (λ e. eqb e draw_entry) es) [ true ↦ draw_entry | false ↦ greatest es ]
]

-- the first member that passes a test, 0 where none does
abbrev pub first_that : (ℕ → Bool) → List ℕ → ℕ
first_that f [] = 0
first_that f (m ∷ ms) = elim (f m) [ true ↦ m | false ↦ first_that f ms ]

-- the first listed move that leads to the best entry, where f gives the entry that a move leads to
unfoldable pub best_move : (ℕ → ℕ) → List ℕ → ℕ
best_move f ms = first_that (λ m. eqb (f m) (best_entry (map f ms))) ms
