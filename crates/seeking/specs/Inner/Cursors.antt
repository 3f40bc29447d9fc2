-- A position of a table that was looked at last, by which the next one is found. Assumes nothing.
use Rattle.std.specs.Prelude.{◌≡◌, ℕ, ◌*◌, ◌<◌}
use Rattle.board.specs.Board.{position_of}
use Rattle.ranking.specs.Unrank.{unrank}
use Rattle.seeking.specs.declared.Cursor.{Cursor}

-- the cursor stands at its rank in table (m, o) if that is below n
abbrev pub Stands : ℕ → ℕ → ℕ → ℕ → Cursor → Type 0
Stands rings m o n c = c.rank < n → c.position ≡ position_of (unrank (8 * rings) m o c.rank)
