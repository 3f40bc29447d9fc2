-- The board's geometry, by the rule of document 01, "The board": point 8 × ring + place, ring 0 outermost, places 0 to 7 clockwise,
-- even places corners; on three rings, points 0 to 7 are a7, d7, g7, g4, g1, d1, a1, a4. Assumes nothing.
use Rattle.std.specs.Prelude.{Bool, true, false, ◌&&◌, ◌||◌, List, [], ◌∷◌, ◌++◌, map, ℕ, ◌+◌, ◌*◌, ◌/◌, ◌%◌, eqb}
use Rattle.lists.specs.Lists.{range, keep, each, member}

abbrev pub ring : ℕ → ℕ
ring p = p / 8

abbrev pub place : ℕ → ℕ
place p = p % 8

unfoldable pub points : ℕ → List ℕ
points rings = range 0 (8 * rings)

-- q is at the place after p's in the same ring; 0 follows 7
unfoldable pub follows : ℕ → ℕ → Bool
follows p q = eqb (ring q) (ring p) && eqb (place q) ((place p + 1) % 8)

-- p is at an odd place, and q at the same place in the next ring in
unfoldable pub inward : ℕ → ℕ → Bool
inward p q = eqb (place p % 2) 1 && (eqb (place q) (place p) && eqb (ring q) (ring p + 1))

-- the places before and after in the ring; for odd places also the same place in the next ring in or out
unfoldable pub adjoin : ℕ → ℕ → Bool
adjoin p q = (follows p q || follows q p) || (inward p q || inward q p)

-- the neighbours of a point, by rising number
unfoldable pub neighbours : ℕ → ℕ → List ℕ
neighbours rings p = keep (λ q. adjoin p q) (points rings)

-- on ring r: {0,1,2}, {2,3,4}, {4,5,6}, {6,7,0}
unfoldable pub ring_mills : ℕ → List (List ℕ)
ring_mills r = map (λ k. (8 * r + 2 * k) ∷ (8 * r + (2 * k + 1)) ∷ (8 * r + (2 * k + 2) % 8) ∷ []) (range 0 4)

-- each odd place through all three rings
unfoldable pub cross_mills : List (List ℕ)
cross_mills = map (λ k. (2 * k + 1) ∷ (8 + (2 * k + 1)) ∷ (16 + (2 * k + 1)) ∷ []) (range 0 4)

-- the mills of each ring, and on three rings also those across the rings
unfoldable pub mills : ℕ → List (List ℕ)
mills rings = each (λ r. ring_mills r) (range 0 rings) ++ elim (eqb rings 3) [ true ↦ cross_mills | false ↦ [] ]

-- the mills through a point, two at the most
unfoldable pub mills_through : ℕ → ℕ → List (List ℕ)
mills_through rings p = keep (λ mill. member p mill) (mills rings)
