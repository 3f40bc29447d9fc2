-- A frame (document 01, "Frames"): "hexadecimal, lower case: one byte of rings, then four points a byte, the lowest point in the lowest two
-- bits." Assumes nothing.
use Rattle.std.specs.Prelude.{Bool, false, cond, ◌&&◌, ◌||◌, List, [], ◌∷◌, ℕ, ◌+◌, ◌-◌, ◌*◌, ◌/◌, ◌%◌, eqb, ltb, length, get_or, drop}

-- the most characters that are read
abbrev pub most_characters : ℕ
most_characters = 64

-- a character outside 0-9 a-f: 0 is 48, 9 is 57, a is 97, f is 102
abbrev pub outside : ℕ → Bool
outside c = ltb c 48 || (ltb 57 c && ltb c 97) || ltb 102 c

-- some character outside 0-9 a-f
unfoldable pub any_outside : List ℕ → Bool
any_outside [] = false
any_outside (c ∷ f) = outside c || any_outside f

-- empty, over 64 characters, odd length, or a character outside 0-9 a-f
unfoldable pub frame_wrong : List ℕ → Bool
frame_wrong f = eqb (length f) 0 || ltb most_characters (length f) || eqb (length f % 2) 1 || any_outside f

-- lengths: 6, 10, 14 characters
abbrev pub frame_length : ℕ → ℕ
frame_length rings = 2 + 4 * rings

-- the value of a character of 0-9 a-f
unfoldable pub value_of : ℕ → ℕ
value_of c = cond (ltb c 97) (c - 48) (10 + (c - 97))

-- the character of a value below 16
unfoldable pub character_of : ℕ → ℕ
character_of d = cond (ltb d 10) (48 + d) (97 + (d - 10))

-- a byte is two characters, the higher first
unfoldable pub byte_of : ℕ → ℕ → ℕ
byte_of c d = 16 * value_of c + value_of d

unfoldable pub bytes_in : List ℕ → List ℕ
bytes_in [] = []
bytes_in (c ∷ []) = []
bytes_in (c ∷ d ∷ f) = byte_of c d ∷ bytes_in f

-- four points a byte, the lowest point in the lowest two bits
unfoldable pub points_in : List ℕ → List ℕ
points_in [] = []
points_in (b ∷ bs) = b % 4 ∷ b / 4 % 4 ∷ b / 16 % 4 ∷ b / 64 % 4 ∷ points_in bs

-- reading: one byte of rings, then the points of the board
unfoldable pub rings_in : List ℕ → ℕ
rings_in f = get_or (bytes_in f) 0 0

unfoldable pub board_in : List ℕ → List ℕ
board_in f = points_in (drop 1 (bytes_in f))

-- the byte of four points
abbrev pub four_points : ℕ → ℕ → ℕ → ℕ → ℕ
four_points a b c d = a + 4 * b + 16 * c + 64 * d

-- the bytes of a board's points
unfoldable pub packed : List ℕ → List ℕ
packed [] = []
packed (a ∷ []) = []
packed (a ∷ b ∷ []) = []
packed (a ∷ b ∷ c ∷ []) = []
packed (a ∷ b ∷ c ∷ d ∷ rest) = four_points a b c d ∷ packed rest

-- the characters of bytes
unfoldable pub spelled : List ℕ → List ℕ
spelled [] = []
spelled (b ∷ bs) = character_of (b / 16) ∷ character_of (b % 16) ∷ spelled bs

-- writing: the characters of the rings and of the board
unfoldable pub frame_of : ℕ → List ℕ → List ℕ
frame_of rings b = spelled (rings ∷ packed b)
