-- Where the runs of a set's members end. Assumes nothing.
use Rattle.std.specs.Prelude.{◌≡◌, ℕ, suc, ◌-◌, ◌^◌, ◌<◌, min}
use Rattle.sets.specs.Sets.{bit}

-- r has the points outside s that follow a member of it
pub record Ends (s r : ℕ) : Type 0 where
  pub first : bit r 0 ≡ 0
  pub after : (q : ℕ) → bit r (suc q) ≡ bit s q - min (bit s q) (bit s (suc q))
  pub within : r < 2 ^ 25
