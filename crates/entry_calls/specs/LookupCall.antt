-- The call `lookup` (document 01: "rings and a board, for .. its entry in a shelf"). An entry means the outcome under the edition with which
-- its tablebase was filled (document 02, A11): the edition is tested, and what is read does not depend on it. Assumes nothing.
use Rattle.std.specs.Prelude.{List, [], ◌∷◌, ℕ}
use Rattle.outcomes.specs.Places.{entry_at}
use Rattle.refusals.specs.Refusals.{refusal}
use Rattle.refusals.specs.Conditions.{lookup_picks}
use Rattle.answers.specs.Answers.{Answer, answer}

-- 1, 20, 2, 3, 4, 15, 11, 6, 12; else the entry
unfoldable pub lookup_call : ℕ → ℕ → List ℕ → ℕ → List ℕ → Answer
lookup_call rings edition b k tablebase = answer (refusal (lookup_picks rings edition b k tablebase)) (entry_at rings k tablebase b ∷ [])
