-- The call `moves` (document 01: "rings and a board, for .. its move list"), under a rules edition (document 02, A11). Assumes nothing.
use Rattle.std.specs.Prelude.{List, [], ◌∷◌, ℕ, length}
use Rattle.std.proofs.lemmas.List.Edits.{sets}
use Rattle.rules.specs.Ply.{removable}
use Rattle.rules.specs.MoveList.{listed_moves}
use Rattle.refusals.specs.Refusals.{refusal}
use Rattle.refusals.specs.Conditions.{list_picks}
use Rattle.answers.specs.Answers.{Answer, answer, target}

-- 1, 20, 2, 3, 4, 7; else how many moves there are
unfoldable pub moves_call : ℕ → ℕ → List ℕ → List ℕ → Answer
moves_call rings edition b old =
    let list = listed_moves (removable edition) rings b in
    answer (refusal (list_picks rings edition b (length old) (length list))) (length list ∷ [])

-- the moves, captures first, at the start of the list, the unused places as they were; after a refusal what the list held
unfoldable pub moves_list : ℕ → ℕ → List ℕ → List ℕ → List ℕ
moves_list rings edition b old =
    let list = listed_moves (removable edition) rings b in
    target (refusal (list_picks rings edition b (length old) (length list))) (sets old 0 list) old
