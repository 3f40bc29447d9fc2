-- What is kept of a line that is not yet ended. Assumes nothing.
use Rattle.std.specs.Prelude.{List, [], ◌∷◌, ◌++◌, ℕ, take}

-- its first 65 bytes, since a line over 64 characters is refused whatever they are
abbrev pub most_kept : ℕ
most_kept = 65

unfoldable pub keep_byte : List ℕ → ℕ → List ℕ
keep_byte kept c = take most_kept (kept ++ (c ∷ []))
