-- The images of a ring's sets: the table is tested once for each map, each set and each place. Assumes nothing.
use mathlib.Core.Path.{◌≡◌, refl}
use mathlib.Core.Bool.{Bool, true}
use Prim.Native.Nat.{ℕ, ◌+◌, ◌*◌, ◌/◌, ◌%◌, ◌^◌, ◌<◌}
use lib.Dec.{eqb, ltb}
use lib.ListN.{get_or}
use borrow.Author.Tests.{eqb-true, ltb-true}
use Rattle.lists.proofs.Table.{every_two, every_two_lem, every_three, every_three_lem}
use Rattle.sets.specs.Sets.{bit}
use Rattle.symmetry.specs.Symmetries.{place_from}
use Rattle.imaging.specs.declared.table.TheConstants.{RING_IMAGES}
use Rattle.imaging.specs.Inner.Images.{RingImage}

-- the entry of a map and a set
unfoldable pub entry : ℕ → ℕ → ℕ
entry g s = get_or RING_IMAGES (256 * (g % 8) + s) 0

within_test : ℕ → ℕ → Bool
within_test g s = ltb (entry g s) 256

within_tests : every_two 16 256 within_test ≡ true
unfolding within_test entry
within_tests = refl

place_test : ℕ → ℕ → ℕ → Bool
place_test g s p = eqb (bit (entry g s) p) (bit s (place_from g p))

place_tests : every_three 16 256 8 place_test ≡ true
unfolding place_test entry place_from
place_tests = refl

pub image_is : (g s : ℕ) → g < 16 → s < 256 → RingImage g s (get_or RING_IMAGES (256 * (g % 8) + s) 0)
unfolding within_test place_test entry
image_is g s h l =
    record {
      within = ltb-true (entry g s) 256 (every_two_lem 16 256 within_test within_tests g s h l);
      at = λ p b. eqb-true _ _ (every_three_lem 16 256 8 place_test place_tests g s p h l b);
    }
