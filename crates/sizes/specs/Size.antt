-- The size of a table (document 01, "Ranks and shelves"). Assumes nothing.
use Rattle.std.specs.Prelude.{true, false, ℕ, zero, suc, ◌+◌, ◌*◌, ◌-◌, ◌/◌, leb}

abbrev pub factorial : ℕ → ℕ
factorial zero = 1
factorial (suc n) = suc n * factorial n

-- P! / (m! × o! × (P − m − o)!), for table (m, o) on P points; there is no board with more stones than points
unfoldable pub size : ℕ → ℕ → ℕ → ℕ
size points m o = elim (leb (m + o) points) [
  | true ↦ factorial points / (factorial m * factorial o * factorial (points - (m + o)))
  | false ↦ 0
]

-- n + 1 points hold m and o stones: how many boards have a 1 at one given point
abbrev pub size_with_one : ℕ → ℕ → ℕ → ℕ
size_with_one n zero o = 0
size_with_one n (suc m) o = size n m o
