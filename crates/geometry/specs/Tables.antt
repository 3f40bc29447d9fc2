-- The rules of the fixed tables by point number (document 01: "Neighbours and mills stand as fixed tables by point number"). The tables are
-- those of three rings; fewer rings have a part of them (proofs/Geometry). Assumes nothing.
use Rattle.std.specs.Prelude.{◌≡◌, List, [], ℕ, ◌+◌, ◌*◌, ◌<◌, length, get_or}
use Rattle.geometry.specs.Geometry.{neighbours, mills}

-- point j of mill i
unfoldable pub mill_point : ℕ → ℕ → ℕ
mill_point i j = get_or (get_or (mills 3) i []) j 0

-- four places for each point: its neighbours, then zeros
pub record NeighbourTable (t : List ℕ) : Type 0 where
  pub at : (p j : ℕ) → p < 24 → j < 4 → get_or t (4 * p + j) 0 ≡ get_or (neighbours 3 p) j 0

-- how many neighbours each point has
pub record DegreeTable (t : List ℕ) : Type 0 where
  pub at : (p : ℕ) → p < 24 → get_or t p 0 ≡ length (neighbours 3 p)

-- three places for each mill: its points
pub record MillTable (t : List ℕ) : Type 0 where
  pub at : (i j : ℕ) → i < 16 → j < 3 → get_or t (3 * i + j) 0 ≡ mill_point i j
