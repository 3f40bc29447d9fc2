-- What it takes to make a move, whatever rule of removal allows it. Assumes nothing.
use Rattle.std.specs.Prelude.{◌≡◌, List, ◌⊎◌, ℕ, ◌*◌, ◌<◌, get_or}
use Rattle.rules.specs.Ply.{no_removal, from_of, to_of, removed_of}

-- an own stone goes to a vacant point, and an opposing stone or none is removed
pub record Makeable (rings : ℕ) (b : List ℕ) (move : ℕ) : Type 0 where
  pub from_low : from_of move < 8 * rings
  pub to_low : to_of move < 8 * rings
  pub own : get_or b (from_of move) 0 ≡ 1
  pub vacant : get_or b (to_of move) 0 ≡ 0
  pub removed : (removed_of move ≡ no_removal) ⊎ ((removed_of move < 8 * rings) × (get_or b (removed_of move) 0 ≡ 2))
