-- Lines of input, block by block (document 01, "Frames"). Assumes nothing.
use Rattle.std.specs.Prelude.{cond, List, [], ◌∷◌, ℕ, eqb}
use Rattle.text.specs.Text.{line_feed}
use Rattle.keeping.specs.Kept.{keep_byte}

-- the lines that a block ends
unfoldable pub ended_lines : List ℕ → List ℕ → List (List ℕ)
ended_lines kept [] = []
ended_lines kept (c ∷ cs) = cond (eqb c line_feed) (kept ∷ ended_lines [] cs) (ended_lines (keep_byte kept c) cs)

-- what is kept after a block
unfoldable pub left : List ℕ → List ℕ → List ℕ
left kept [] = kept
left kept (c ∷ cs) = cond (eqb c line_feed) (left [] cs) (left (keep_byte kept c) cs)

-- what is kept at the end of the input is a line, unless it is nothing
unfoldable pub last : List ℕ → List (List ℕ)
last [] = []
last (c ∷ cs) = (c ∷ cs) ∷ []
