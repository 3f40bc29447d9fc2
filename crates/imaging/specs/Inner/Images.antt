-- Images of positions as sets of points. Assumes nothing.
use Rattle.std.specs.Prelude.{◌≡◌, ℕ, ◌*◌, ◌^◌, ◌<◌}
use Rattle.sets.specs.Sets.{bit}
use Rattle.symmetry.specs.Symmetries.{place_from, source}

-- t is the image of the set s: each point is a member where its source is
pub record ImageSet (rings g s t : ℕ) : Type 0 where
  pub within : t < 2 ^ (8 * rings)
  pub at : (p : ℕ) → p < 8 * rings → bit t p ≡ bit s (source rings g p)

-- and of the eight places of a ring
pub record RingImage (g s t : ℕ) : Type 0 where
  pub within : t < 256
  pub at : (p : ℕ) → p < 8 → bit t p ≡ bit s (place_from g p)
