-- The call `read_frame` (document 01: "a frame, to read"; "A frame taken apart gives a position, or its refusal."). Assumes nothing.
use Rattle.std.specs.Prelude.{List, [], ◌∷◌, ℕ}
use Rattle.board.specs.Board.{set_of}
use Rattle.frames.specs.Frame.{rings_in, board_in}
use Rattle.refusals.specs.Refusals.{refusal}
use Rattle.refusals.specs.Conditions.{frame_picks, read_picks}
use Rattle.answers.specs.Answers.{Answer, answer}

-- the position of a frame: its rings, the points of the side to move, those of the other side
abbrev pub frame_position : List ℕ → List ℕ
frame_position f = rings_in f ∷ set_of 1 (board_in f) ∷ set_of 2 (board_in f) ∷ []

-- 14, 1, 2, 3, 4; else the position
unfoldable pub read_frame_call : List ℕ → Answer
read_frame_call f = answer (refusal (read_picks f)) (frame_position f)

-- the same before the stones are counted: 14, 1, 2, 3
unfoldable pub taken_apart : List ℕ → Answer
taken_apart f = answer (refusal (frame_picks f)) (frame_position f)
