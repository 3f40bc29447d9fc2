-- The call `write_frame` (document 01: "rings and a board, to write as a frame"). Assumes nothing.
use Rattle.std.specs.Prelude.{List, [], ◌∷◌, ℕ, length}
use Rattle.std.proofs.lemmas.List.Edits.{sets}
use Rattle.frames.specs.Frame.{frame_length, frame_of}
use Rattle.refusals.specs.Refusals.{refusal}
use Rattle.refusals.specs.Conditions.{short_picks}
use Rattle.answers.specs.Answers.{Answer, answer, target}

-- 1, 2, 3, 4, 7; else the frame is written: 6, 10 or 14 characters
unfoldable pub write_frame_call : ℕ → List ℕ → List ℕ → Answer
write_frame_call rings b old = answer (refusal (short_picks rings b (length old) (frame_length rings))) (frame_length rings ∷ [])

-- the frame at the start of the target, the places beyond it as they were; after a refusal what the target held
unfoldable pub write_frame_target : ℕ → List ℕ → List ℕ → List ℕ
write_frame_target rings b old = target (refusal (short_picks rings b (length old) (frame_length rings))) (sets old 0 (frame_of rings b)) old
