-- The call `representative` (document 01: "rings and a board, for .. its representative's rank"). Assumes nothing.
use Rattle.std.specs.Prelude.{List, [], ◌∷◌, ℕ}
use Rattle.ranking.specs.Rank.{rank}
use Rattle.symmetry.specs.Representative.{representative}
use Rattle.refusals.specs.Refusals.{refusal}
use Rattle.refusals.specs.Conditions.{board_picks}
use Rattle.answers.specs.Answers.{Answer, answer}

-- 1, 2, 3, 4; else the rank of the representative
unfoldable pub representative_call : ℕ → List ℕ → Answer
representative_call rings b = answer (refusal (board_picks rings b)) (rank (representative rings b) ∷ [])
