-- Input that comes in blocks, and what is written for it (document 01, "Frames": `desk` reads frames from standard input and prints a line for each).
-- Assumes nothing.
use Rattle.std.specs.Prelude.{List, [], ◌∷◌, ◌++◌, ℕ}
use Rattle.lines.specs.Lines.{ended_lines, left, last}
use Rattle.replies.specs.Replies.{answers}

-- the input as a whole
unfoldable pub joined : List (List ℕ) → List ℕ
joined [] = []
joined (b ∷ bs) = b ++ joined bs

-- what is written: for each block what `feed` writes, and at the end what `finish` writes for what is kept
unfoldable pub written : List ℕ → List ℕ → List (List ℕ) → List ℕ
written tablebase kept [] = answers tablebase (last kept)
written tablebase kept (b ∷ bs) = answers tablebase (ended_lines kept b) ++ written tablebase (left kept b) bs
