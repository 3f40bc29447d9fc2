-- The call `unrank` (document 01: "rings, counts and a rank, for a board"). Assumes nothing.
use Rattle.std.specs.Prelude.{List, [], ℕ, ◌*◌, length}
use Rattle.ranking.specs.Unrank.{unrank}
use Rattle.refusals.specs.Refusals.{refusal}
use Rattle.refusals.specs.Conditions.{rank_picks}
use Rattle.answers.specs.Answers.{Answer, answer, target}

-- 1, 4, 6, 5; else the board is written
unfoldable pub unrank_call : ℕ → ℕ → ℕ → ℕ → List ℕ → Answer
unrank_call rings m o r old = answer (refusal (rank_picks rings m o r (length old))) []

-- the board of the rank, or after a refusal what the target held
unfoldable pub unrank_target : ℕ → ℕ → ℕ → ℕ → List ℕ → List ℕ
unrank_target rings m o r old = target (refusal (rank_picks rings m o r (length old))) (unrank (8 * rings) m o r) old
