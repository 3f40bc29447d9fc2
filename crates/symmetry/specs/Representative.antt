-- Classes and their representatives (document 01: "A class is the set of images .. Its representative is the image of least rank. Images are
-- formed as whole boards of 24 points, the points not in use vacant."). Assumes nothing.
use Rattle.std.specs.Prelude.{◌≡◌, true, false, List, ℕ, zero, suc, ◌*◌, ◌<◌, ltb, take}
use Rattle.ranking.specs.Rank.{rank}
use Rattle.symmetry.specs.Symmetries.{symmetries, image, whole}

-- b and c are of one class: c is an image of b
abbrev pub SameClass : ℕ → List ℕ → List ℕ → Type 0
SameClass rings b c = (g : ℕ) × (g < symmetries) × (image rings g b ≡ c)

-- the points in use of a whole board
abbrev pub in_use : ℕ → List ℕ → List ℕ
in_use rings w = take (8 * rings) w

-- of two whole boards the first, if its rank is lower, else the second
unfoldable pub lower : ℕ → List ℕ → List ℕ → List ℕ
lower rings v w = elim (ltb (rank (in_use rings v)) (rank (in_use rings w))) [ true ↦ v | false ↦ w ]

-- the least of a whole board and its images under the first n symmetries
unfoldable pub least_image : ℕ → List ℕ → ℕ → List ℕ
least_image rings w zero = w
least_image rings w (suc n) = lower rings (image rings n w) (least_image rings w n)

-- "the image of least rank"
unfoldable pub representative : ℕ → List ℕ → List ℕ
representative rings b = in_use rings (least_image rings (whole b) symmetries)
