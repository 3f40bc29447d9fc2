-- Lines of input (document 01, "Frames": "A line ends with a line feed, the last perhaps without; nothing after a final line feed is a line"). Assumes
-- nothing.
use Rattle.std.specs.Prelude.{cond, List, [], ◌∷◌, ℕ, eqb}
use Rattle.text.specs.Text.{line_feed}

-- a byte that stands before the first of some lines
unfoldable pub at_head : ℕ → List (List ℕ) → List (List ℕ)
at_head c [] = (c ∷ []) ∷ []
at_head c (l ∷ ls) = (c ∷ l) ∷ ls

-- the lines of the input
unfoldable pub lines_of : List ℕ → List (List ℕ)
lines_of [] = []
lines_of (c ∷ cs) = cond (eqb c line_feed) ([] ∷ lines_of cs) (at_head c (lines_of cs))
