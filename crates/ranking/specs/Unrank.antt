-- The board of a rank. That its rank is the given one, and that no other board of its counts has that rank, is proved in proofs/Inverse.
-- Assumes nothing.
use Rattle.std.specs.Prelude.{true, false, List, [], ◌∷◌, reverse, ℕ, zero, suc, ◌+◌, ◌-◌, eqb, ltb}
use Rattle.board.specs.Board.{digit}
use Rattle.sizes.specs.Size.{size, size_with_one}

-- n + 1 points hold m and o stones: how many boards have a lower value than x at the highest point
abbrev pub below : ℕ → ℕ → ℕ → ℕ → ℕ
below zero n m o = 0
below (suc zero) n m o = size n m o
below (suc (suc x)) n m o = size n m o + size_with_one n m o

-- what the board of rank r has there: the highest value with no more than r boards below it
unfoldable pub top_value : ℕ → ℕ → ℕ → ℕ → ℕ
top_value n m o r = elim (ltb r (below 1 n m o)) [ true ↦ 0 | false ↦ elim (ltb r (below 2 n m o)) [ true ↦ 1 | false ↦ 2 ] ]

-- from the highest point down
unfoldable pub reading_of : ℕ → ℕ → ℕ → ℕ → List ℕ
reading_of zero m o r = []
reading_of (suc n) m o r =
    top_value n m o r
    ∷ reading_of n (m - digit (eqb (top_value n m o r) 1)) (o - digit (eqb (top_value n m o r) 2)) (r - below (top_value n m o r) n m o)

-- the board of n points with m and o stones that has rank r
unfoldable pub unrank : ℕ → ℕ → ℕ → ℕ → List ℕ
unrank n m o r = reverse (reading_of n m o r)
