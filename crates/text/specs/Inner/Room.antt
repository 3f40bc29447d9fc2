-- The room that a line takes. Assumes nothing.
use Rattle.std.specs.Prelude.{ℕ}

-- as many bytes as a line takes at most: six numbers of 20 digits, and a byte after each
abbrev pub most_bytes : ℕ
most_bytes = 126
