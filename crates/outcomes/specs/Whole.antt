-- The whole game under a rule of removal (document 01): "On a whole shelf, outcomes come from the plies alone, never from entries." Assumes
-- nothing.
use Rattle.std.specs.Prelude.{true, false, List, ℕ, ltb}
use Rattle.board.specs.Board.{count}
use Rattle.rules.specs.Ply.{Rule, successors}
use Rattle.game.specs.Game.{Seed, live, ends, Entry}

-- "A side left with two stones has lost": a mover with two stones "is lost within every n plies, 0 included, and won within none"
unfoldable pub whole_seed : List ℕ → Seed
whole_seed b = elim (ltb (count 1 b) 3) [ true ↦ ends 0 | false ↦ live ]

-- the true entry of a board
abbrev pub TrueEntry : Rule → ℕ → List ℕ → ℕ → Type 0
TrueEntry rule rings b e = Entry (successors rule rings) (λ c. whole_seed c) b e
