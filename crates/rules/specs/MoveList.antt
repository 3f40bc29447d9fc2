-- The order in which moves are listed (document 02, A2): captures first. What only asks whether a move is legal goes by `moves`, which has the
-- same members. Assumes nothing.
use Rattle.std.specs.Prelude.{Bool, not, List, ◌++◌, ℕ, eqb}
use Rattle.lists.specs.Lists.{keep}
use Rattle.rules.specs.Ply.{Rule, no_removal, removed_of, moves}

-- a move "with a removal"; a mill that removes nothing is none
unfoldable pub is_capture : ℕ → Bool
is_capture move = not (eqb (removed_of move) no_removal)

-- "all moves with a removal"
abbrev pub captures : List ℕ → List ℕ
captures ms = keep (λ move. is_capture move) ms

-- "the others"
abbrev pub others : List ℕ → List ℕ
others ms = keep (λ move. not (is_capture move)) ms

-- "all moves with a removal, by rising number, and then the others, by rising number", where the moves are given by rising number
unfoldable pub captures_first : List ℕ → List ℕ
captures_first ms = captures ms ++ others ms

-- the move list of a board
abbrev pub listed_moves : Rule → ℕ → List ℕ → List ℕ
listed_moves rule rings b = captures_first (moves rule rings b)
