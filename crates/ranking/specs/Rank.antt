-- The rank of a board (document 01, "Ranks and shelves": "Read the board from its highest point down. Order boards of equal counts by the
-- first difference, with vacant below 1 below 2. The rank is how many come before."). Assumes nothing.
use Rattle.std.specs.Prelude.{Bool, false, ◌&&◌, ◌||◌, List, [], ◌∷◌, reverse, ℕ, zero, suc, ◌+◌, eqb, ltb, length}
use Rattle.board.specs.Board.{count, digit}

-- the board read from its highest point down
abbrev pub reading : List ℕ → List ℕ
reading b = reverse b

-- by the first difference, with vacant (0) below 1 below 2
abbrev pub before : List ℕ → List ℕ → Bool
before [] ys = false
before (x ∷ xs) [] = false
before (x ∷ xs) (y ∷ ys) = ltb x y || (eqb x y && before xs ys)

-- m of the mover's stones and o of the opponent's
abbrev pub has_counts : ℕ → ℕ → List ℕ → Bool
has_counts m o xs = eqb (count 1 xs) m && eqb (count 2 xs) o

-- how many readings of n points, each vacant, 1 or 2, pass a test
abbrev pub how_many : (List ℕ → Bool) → ℕ → ℕ
how_many f zero = digit (f [])
how_many f (suc n) = how_many (λ xs. f (0 ∷ xs)) n + how_many (λ xs. f (1 ∷ xs)) n + how_many (λ xs. f (2 ∷ xs)) n

-- how many readings of equal counts come before
unfoldable pub reading_rank : List ℕ → ℕ
reading_rank ys = how_many (λ xs. has_counts (count 1 ys) (count 2 ys) xs && before xs ys) (length ys)

unfoldable pub rank : List ℕ → ℕ
rank b = reading_rank (reading b)
