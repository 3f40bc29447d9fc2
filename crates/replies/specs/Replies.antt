-- The bytes that answer a line (document 01, "Frames"): "The fields are rings, the two stone counts, rank, entry and best move." Each field is what the
-- public call answers. Assumes nothing.
use Rattle.std.specs.Prelude.{List, [], ◌++◌, ◌∷◌, ℕ, zero, suc}
use Rattle.board.specs.Board.{count}
use Rattle.frames.specs.Frame.{rings_in, board_in}
use Rattle.refusals.specs.Refusals.{Pick, pick, unreachable_position, refusal}
use Rattle.refusals.specs.Conditions.{position_unreachable, read_picks}
use Rattle.answers.specs.Answers.{value}
use Rattle.rank_calls.specs.RankCall.{rank_call}
use Rattle.text.specs.Text.{position_line, refused_line}
use Rattle.fields.specs.Fields.{desk_edition, entry_field, move_field}

-- the line of a board
unfoldable pub board_line : List ℕ → ℕ → List ℕ → List ℕ
board_line tablebase rings b =
    position_line rings (count 1 b) (count 2 b) (value (rank_call rings b) 0) (entry_field tablebase rings b) (move_field tablebase rings b)

-- what `desk` picks for a line: what `read_frame` does, and whether a game reaches the position (document 02, A1)
abbrev pub line_picks : List ℕ → List Pick
line_picks f = pick unreachable_position (position_unreachable (rings_in f) desk_edition (board_in f)) ∷ read_picks f

-- the line of a frame by the refusal that it meets: its board's where it meets none
abbrev pub frame_line : List ℕ → List ℕ → ℕ → List ℕ
frame_line tablebase f zero = board_line tablebase (rings_in f) (board_in f)
frame_line tablebase f (suc n) = refused_line (suc n)

-- the answer to a line; 14, 1, 2, 3, 4, 15
unfoldable pub answer_of : List ℕ → List ℕ → List ℕ
answer_of tablebase line = frame_line tablebase line (refusal (line_picks line))

-- the answers to lines, one after the other
unfoldable pub answers : List ℕ → List (List ℕ) → List ℕ
answers tablebase [] = []
answers tablebase (l ∷ ls) = answer_of tablebase l ++ answers tablebase ls
