-- The lines that `desk` prints, as bytes (document 01, "Frames": "Numbers are in base ten"; "A refused line prints `refused` and the number"; the
-- header and the fields of its sample). Assumes nothing.
use Rattle.std.specs.Prelude.{cond, List, [], ◌∷◌, ◌++◌, ℕ, zero, suc, ◌/◌, ltb, Option, Some, None}
use Rattle.io.specs.Digits.{last_digits}

-- how many digits n takes in base ten, found in so many steps; n steps are always enough
unfoldable pub digit_count : ℕ → ℕ → ℕ
digit_count zero n = 1
digit_count (suc steps) n = cond (ltb n 10) 1 (suc (digit_count steps (n / 10)))

-- a number in base ten
unfoldable pub decimal : ℕ → List ℕ
decimal n = last_digits 10 (digit_count n n) n

abbrev pub line_feed : ℕ
line_feed = 10

abbrev pub space : ℕ
space = 32

abbrev pub dash : ℕ
dash = 45

-- a number, or `-`
unfoldable pub shown : Option ℕ → List ℕ
shown (Some n) = decimal n
shown None = dash ∷ []

-- a field, and the byte that stands after it
unfoldable pub item : Option ℕ → ℕ → List ℕ
item field after = shown field ++ (after ∷ [])

-- the line of an accepted frame: rings, the two stone counts, rank, entry and best move
unfoldable pub position_line : ℕ → ℕ → ℕ → ℕ → Option ℕ → Option ℕ → List ℕ
position_line rings mover opponent rank entry move =
    item (Some rings) space
    ++ (item (Some mover) space ++ (item (Some opponent) space ++ (item (Some rank) space ++ (item entry space ++ item move line_feed))))

-- `refused` and a space
abbrev pub refused_word : List ℕ
refused_word = 114 ∷ 101 ∷ 102 ∷ 117 ∷ 115 ∷ 101 ∷ 100 ∷ space ∷ []

-- the line of a refused frame: `refused` and the number
unfoldable pub refused_line : ℕ → List ℕ
refused_line number = refused_word ++ item (Some number) line_feed

-- the header: `rings mover opponent rank entry move`
unfoldable pub header : List ℕ
header =
    (114 ∷ 105 ∷ 110 ∷ 103 ∷ 115 ∷ space ∷ [])
    ++ ((109 ∷ 111 ∷ 118 ∷ 101 ∷ 114 ∷ space ∷ [])
    ++ ((111 ∷ 112 ∷ 112 ∷ 111 ∷ 110 ∷ 101 ∷ 110 ∷ 116 ∷ space ∷ [])
    ++ ((114 ∷ 97 ∷ 110 ∷ 107 ∷ space ∷ []) ++ ((101 ∷ 110 ∷ 116 ∷ 114 ∷ 121 ∷ space ∷ []) ++ (109 ∷ 111 ∷ 118 ∷ 101 ∷ line_feed ∷ [])))))
