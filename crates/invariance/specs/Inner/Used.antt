-- Which symmetries a fill goes by. Assumes nothing.
use Rattle.std.specs.Prelude.{◌≡◌, ◌⊎◌, ℕ}
use Rattle.symmetry.specs.Symmetries.{symmetries}

-- the first symmetry alone, which changes nothing; the first eight, which leave the rings as they are; or all
abbrev pub Used : ℕ → Type 0
Used maps = (maps ≡ 1) ⊎ ((maps ≡ 8) ⊎ (maps ≡ symmetries))
