-- The choice of a best move under a rule of removal, as the calls answer it. Assumes nothing.
use Rattle.std.specs.Prelude.{cond, List, [], ◌∷◌, ℕ, Result}
use Rattle.rules.specs.Ply.{Rule, blocked}
use Rattle.outcomes.specs.Places.{successor_entry, successor_void}
use Rattle.answers.specs.Answers.{Answer, answer, answered}
use Rattle.answers.specs.declared.Refusal.{Refusal}
use Rattle.bestmove.specs.declared.Best.{Best}
use Rattle.entries.specs.BestMove.{best_listed, best_successor}

-- the best move with the entry of its successor, or 9 for a blocked mover, 12 for a void successor
abbrev pub choice : Result Best Refusal → Answer
choice r = answered (λ (b : Best). b.number ∷ b.entry ∷ []) r

-- the choice at a board: the best move "with the entry of the successor it leads to"
unfoldable pub choice_at : Rule → ℕ → ℕ → List ℕ → List ℕ → Answer
choice_at rule rings k tablebase b =
    answer (cond (blocked rings b) 9 (cond (successor_void rule rings k tablebase b) 12 0))
    (best_listed rule rings k tablebase b ∷ successor_entry rings k tablebase (best_successor rule rings k tablebase b) ∷ [])
