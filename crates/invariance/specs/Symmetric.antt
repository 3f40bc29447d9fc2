-- Tables that have one entry for all images of a position. Assumes nothing.
use Rattle.std.specs.Prelude.{◌≡◌, List, ℕ, ◌+◌, ◌*◌, ◌<◌, get_or}
use Rattle.sizes.specs.Size.{size}
use Rattle.ranking.specs.Rank.{rank}
use Rattle.ranking.specs.Unrank.{unrank}
use Rattle.layout.specs.Layout.{start}
use Rattle.outcomes.specs.Pair.{LowerTables}
use Rattle.symmetry.specs.Symmetries.{image}

-- the table (x, y) that starts at a place has one entry for all images of a position
abbrev pub SymmetricFrom : ℕ → ℕ → ℕ → ℕ → ℕ → List ℕ → Type 0
SymmetricFrom maps rings from x y tablebase = (r g : ℕ) → r < size (8 * rings) x y → g < maps
    → get_or tablebase (from + rank (image rings g (unrank (8 * rings) x y r))) 0 ≡ get_or tablebase (from + r) 0

abbrev pub TableSymmetric : ℕ → ℕ → ℕ → List ℕ → ℕ → ℕ → Type 0
TableSymmetric maps rings k tablebase x y = SymmetricFrom maps rings (start (8 * rings) k x y) x y tablebase

-- and so have the lower tables of a pair
abbrev pub LowerSymmetric : ℕ → ℕ → ℕ → ℕ → ℕ → List ℕ → Type 0
LowerSymmetric maps rings k m o tablebase = (x y : ℕ) → LowerTables m o x y → TableSymmetric maps rings k tablebase x y
