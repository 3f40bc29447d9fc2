-- A part of a list, from a start on and below an end. Assumes nothing.
use Rattle.std.specs.Prelude.{List, ◌++◌, ℕ, ◌-◌, take, drop, replicate}

abbrev pub part_of : ℕ → ℕ → List ℕ → List ℕ
part_of start end l = take (end - start) (drop start l)

-- the list with one value throughout the part
unfoldable pub filled_part : ℕ → ℕ → ℕ → List ℕ → List ℕ
filled_part start end v l = take start l ++ (replicate (end - start) v ++ drop end l)
