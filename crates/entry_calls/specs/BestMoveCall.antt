-- The call `best_move` (document 01: "rings and a board, for .. its best move in a shelf"), under a rules edition (document 02, A11). Assumes
-- nothing.
use Rattle.std.specs.Prelude.{List, [], ◌∷◌, ℕ}
use Rattle.rules.specs.Ply.{removable}
use Rattle.outcomes.specs.Places.{successor_entry}
use Rattle.entries.specs.BestMove.{best_listed, best_successor}
use Rattle.refusals.specs.Refusals.{refusal}
use Rattle.refusals.specs.Conditions.{best_move_picks}
use Rattle.answers.specs.Answers.{Answer, answer}

-- 1, 20, 2, 3, 4, 15, 11, 6, 9, 12; else the best move, "with the entry of the successor it leads to"
unfoldable pub best_move_call : ℕ → ℕ → List ℕ → ℕ → List ℕ → Answer
best_move_call rings edition b k tablebase =
    let rule = removable edition in
    answer (refusal (best_move_picks rings edition b k tablebase))
    (best_listed rule rings k tablebase b ∷ successor_entry rings k tablebase (best_successor rule rings k tablebase b) ∷ [])
