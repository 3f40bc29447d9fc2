-- The call `rank` (document 01: "rings and a board, for its rank"). Assumes nothing.
use Rattle.std.specs.Prelude.{List, [], ◌∷◌, ℕ}
use Rattle.ranking.specs.Rank.{rank}
use Rattle.refusals.specs.Refusals.{refusal}
use Rattle.refusals.specs.Conditions.{board_picks}
use Rattle.answers.specs.Answers.{Answer, answer}

-- 1, 2, 3, 4; else the rank
unfoldable pub rank_call : ℕ → List ℕ → Answer
rank_call rings b = answer (refusal (board_picks rings b)) (rank b ∷ [])
