-- A set's least member taken from it: what a loop over a set knows at each step. Assumes nothing.
use Rattle.std.specs.Prelude.{◌≡◌, ◌∷◌, ℕ, ◌≤◌, ◌<◌}
use Rattle.sets.specs.Sets.{bit, elements}

pub record Taken (s p rest : ℕ) : Type 0 where
  pub low : p < 32
  pub member : bit s p ≡ 1
  pub least : (q : ℕ) → bit s q ≡ 1 → p ≤ q
  pub apart : elements 32 s ≡ p ∷ elements 32 rest
  pub less : rest < s
  pub among : (q : ℕ) → bit rest q ≡ 1 → bit s q ≡ 1
