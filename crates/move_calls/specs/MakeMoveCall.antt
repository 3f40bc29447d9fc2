-- The call `make_move` (document 01: "rings, a board and a move number, for the board after the ply"), under a rules edition (document 02, A11).
-- Assumes nothing.
use Rattle.std.specs.Prelude.{List, [], ℕ, length}
use Rattle.rules.specs.Ply.{after_ply}
use Rattle.refusals.specs.Refusals.{refusal}
use Rattle.refusals.specs.Conditions.{move_picks}
use Rattle.answers.specs.Answers.{Answer, answer, target}

-- 1, 20, 2, 3, 4, 6, 8; else the board is written
unfoldable pub make_move_call : ℕ → ℕ → List ℕ → ℕ → List ℕ → Answer
make_move_call rings edition b move old = answer (refusal (move_picks rings edition b move (length old))) []

-- the board after the ply, or after a refusal what the target held
unfoldable pub make_move_target : ℕ → ℕ → List ℕ → ℕ → List ℕ → List ℕ
make_move_target rings edition b move old = target (refusal (move_picks rings edition b move (length old))) (after_ply b move) old
