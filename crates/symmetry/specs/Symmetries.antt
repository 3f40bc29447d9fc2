-- The sixteen symmetries and the images of a board (document 01: "the eight turns and mirrors of the places (p to p + 2k, or to 2k − p,
-- modulo 8), each with or without the rings reversed (ring r to rings − 1 − r)"). Each is given by the point whose stone comes to a point; the
-- sixteen are the same read the other way, since each is undone by one of them (proofs/Group). Assumes nothing.
use Rattle.std.specs.Prelude.{Bool, true, false, List, ◌++◌, ℕ, ◌+◌, ◌-◌, ◌*◌, ◌/◌, ◌%◌, eqb, ltb, get_or, length, replicate}
use Rattle.lists.specs.Lists.{values}
use Rattle.geometry.specs.Geometry.{ring, place}

abbrev pub symmetries : ℕ
symmetries = 16

-- symmetry g, from 0 on: its k, whether it mirrors, and whether it reverses the rings
abbrev pub turn : ℕ → ℕ
turn g = g % 4

abbrev pub mirrors : ℕ → Bool
mirrors g = eqb (g / 4 % 2) 1

abbrev pub reverses : ℕ → Bool
reverses g = eqb (g / 8) 1

-- p + 2k, or 2k − p, modulo 8
unfoldable pub place_from : ℕ → ℕ → ℕ
place_from g p = elim (mirrors g) [ true ↦ (8 + 2 * turn g - p) % 8 | false ↦ (p + 2 * turn g) % 8 ]

-- rings − 1 − r, where the rings are reversed
unfoldable pub ring_from : ℕ → ℕ → ℕ → ℕ
ring_from rings g r = elim (reverses g) [ true ↦ rings - 1 - r | false ↦ r ]

-- the point whose stone comes to point p; a number that is no point in use stays
unfoldable pub source : ℕ → ℕ → ℕ → ℕ
source rings g p = elim (ltb p (8 * rings)) [ true ↦ 8 * ring_from rings g (ring p) + place_from g (place p) | false ↦ p ]

-- the image of a board, of as many points
unfoldable pub image : ℕ → ℕ → List ℕ → List ℕ
image rings g b = values (λ p. get_or b (source rings g p) 0) 0 (length b)

-- "whole boards of 24 points, the points not in use vacant"
unfoldable pub whole : List ℕ → List ℕ
whole b = b ++ replicate (24 - length b) 0
