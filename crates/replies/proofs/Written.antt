-- A line of a board's fields, and a line that was written. Assumes nothing.
use Rattle.std.specs.Prelude.{Option}
use mathlib.Core.Path.{◌≡◌, subst, ◌∙◌}
use mathlib.Core.List.{List}
use Prim.Native.Nat.{ℕ, ◌+◌, ◌≤◌}
use lib.ListN.{length}
use lib.Seq.{sets}
use Rattle.sets.specs.Sets.{members}
use Rattle.board.specs.declared.Position.{Position}
use Rattle.board.specs.Board.{count, position_of}
use Rattle.board.proofs.Sides.{mover_stones, opponent_stones}
use Rattle.answers.specs.Answers.{value}
use Rattle.rank_calls.specs.RankCall.{rank_call}
use Rattle.text.specs.Text.{position_line}
use Rattle.text.specs.Inner.Room.{most_bytes}
use Rattle.fields.specs.Fields.{entry_field, move_field}
use Rattle.replies.specs.Replies.{board_line}

-- a line of these fields is the board's
pub board_line_lem : (tablebase : List ℕ) (rings : ℕ) (b : List ℕ) → length b ≤ 24 → (p : Position) → p ≡ position_of b → (m o r : ℕ) (entry move : Option ℕ)
    → m ≡ members p.mover 32 → o ≡ members p.opponent 32 → r ≡ value (rank_call rings b) 0
    → entry ≡ entry_field tablebase rings b → move ≡ move_field tablebase rings b
    → position_line rings m o r entry move ≡ board_line tablebase rings b
unfolding board_line
board_line_lem tablebase rings b l p q m o r entry move em eo er ee ev =
    let x : m ≡ count 1 b = em ∙ mover_stones b p q l in
    let y : o ≡ count 2 b = eo ∙ opponent_stones b p q l in
    rw (x, y, er, ee, ev)

-- the same bytes were written
pub same_written : (at r : ℕ) (old new : List ℕ) {xs ys : List ℕ} → xs ≡ ys → (r ≡ at + length xs) × ((r ≤ at + most_bytes) × (new ≡ sets old at xs))
    → (r ≡ at + length ys) × ((r ≤ at + most_bytes) × (new ≡ sets old at ys))
same_written at r old new e w = subst (λ (l : List ℕ). (r ≡ at + length l) × ((r ≤ at + most_bytes) × (new ≡ sets old at l))) e w
