-- The masks that are derived from the fixed tables once a call and lent: the neighbours of each point, and the mills through it, as sets. Assumes
-- nothing.
use Rattle.std.specs.Prelude.{◌≡◌, List, [], ℕ, ◌+◌, ◌*◌, ◌≤◌, ◌<◌, get_or}
use Rattle.sets.specs.Sets.{set_from}
use Rattle.geometry.specs.Geometry.{neighbours, mills_through}

-- a place for each point: its neighbours; then two for each: its mills, and empty sets where it has fewer
pub record Masks (rings : ℕ) (masks : List ℕ) : Type 0 where
  pub small : rings ≤ 3
  pub neighbours : (p : ℕ) → p < 24 → get_or masks p 0 ≡ set_from (neighbours rings p)
  pub mills : (p j : ℕ) → p < 24 → j < 2 → get_or masks (24 + 2 * p + j) 0 ≡ set_from (get_or (mills_through rings p) j [])
