-- Worked images of a board of two rings whose points hold their own numbers, computed by the definitions. Assumes nothing.
use mathlib.Core.Path.{◌≡◌, refl}
use mathlib.Core.List.{[], ◌∷◌}
use Rattle.lists.specs.Lists.{range}
use Rattle.symmetry.specs.Symmetries.{place_from, ring_from, source, image}

-- a turn
turned : image 2 1 (range 0 16) ≡ 2 ∷ 3 ∷ 4 ∷ 5 ∷ 6 ∷ 7 ∷ 0 ∷ 1 ∷ 10 ∷ 11 ∷ 12 ∷ 13 ∷ 14 ∷ 15 ∷ 8 ∷ 9 ∷ []
unfolding image source place_from ring_from
turned = refl

-- a mirror
mirrored : image 2 4 (range 0 16) ≡ 0 ∷ 7 ∷ 6 ∷ 5 ∷ 4 ∷ 3 ∷ 2 ∷ 1 ∷ 8 ∷ 15 ∷ 14 ∷ 13 ∷ 12 ∷ 11 ∷ 10 ∷ 9 ∷ []
unfolding image source place_from ring_from
mirrored = refl

-- the rings reversed
reversed : image 2 8 (range 0 16) ≡ 8 ∷ 9 ∷ 10 ∷ 11 ∷ 12 ∷ 13 ∷ 14 ∷ 15 ∷ 0 ∷ 1 ∷ 2 ∷ 3 ∷ 4 ∷ 5 ∷ 6 ∷ 7 ∷ []
unfolding image source place_from ring_from
reversed = refl
