-- The best move of a board in a tablebase (document 01: "A best move is the first listed among: quickest win, else a draw, else longest loss, judged
-- by the successors' entries") under a rule of removal, and the board that it leads to. Document 02, A2: "First listed" follows the list with
-- captures first. Assumes nothing.
use Rattle.std.specs.Prelude.{List, ℕ}
use Rattle.rules.specs.Ply.{Rule, after_ply}
use Rattle.rules.specs.MoveList.{listed_moves}
use Rattle.outcomes.specs.Places.{successor_entry}
use Rattle.bestmove.specs.Best.{best_move}

-- what a move is judged by: the entry of the successor that it leads to
abbrev pub entry_after : ℕ → ℕ → List ℕ → List ℕ → ℕ → ℕ
entry_after rings k tablebase b move = successor_entry rings k tablebase (after_ply b move)

-- "the first listed among: quickest win, else a draw, else longest loss, judged by the successors' entries"
unfoldable pub best_listed : Rule → ℕ → ℕ → List ℕ → List ℕ → ℕ
best_listed rule rings k tablebase b = best_move (λ move. entry_after rings k tablebase b move) (listed_moves rule rings b)

-- the board that it leads to
unfoldable pub best_successor : Rule → ℕ → ℕ → List ℕ → List ℕ → List ℕ
best_successor rule rings k tablebase b = after_ply b (best_listed rule rings k tablebase b)
