-- The least image as symmetry follows symmetry: a step takes the next image where its rank is lower, and keeps the image it has otherwise.
-- Assumes nothing.
use mathlib.Core.Path.{◌≡◌, refl}
use Prim.Native.Nat.{ℕ, zero, suc, ◌≤◌, ◌<◌}
use mathlib.Core.Bool.{Bool, true, false}
use mathlib.Core.List.{List}
use native.Mathlib.Omega.{arith}
use lib.Dec.{ltb}
use borrow.Author.Tests.{lt-ltb, le-ltb}
use Rattle.board.specs.Board.{Values}
use Rattle.ranking.specs.Rank.{rank}
use Rattle.symmetry.specs.Symmetries.{image}
use Rattle.symmetry.specs.Representative.{in_use, lower, least_image}
use Rattle.symmetry.proofs.Images.{image_zero, image_values}

module _ (rings : ℕ) (w : List ℕ) where
  pub least_none : least_image rings w 0 ≡ w
  unfolding least_image
  least_none = refl

  pub least_lower : (n : ℕ) → rank (in_use rings (image rings n w)) < rank (in_use rings (least_image rings w n))
      → least_image rings w (suc n) ≡ image rings n w
  unfolding least_image lower
  least_lower n h = rw (lt-ltb (rank (in_use rings (image rings n w))) (rank (in_use rings (least_image rings w n))) h, lower)

  pub least_kept : (n : ℕ) → rank (in_use rings (least_image rings w n)) ≤ rank (in_use rings (image rings n w))
      → least_image rings w (suc n) ≡ least_image rings w n
  unfolding least_image lower
  least_kept n h = rw (le-ltb (rank (in_use rings (image rings n w))) (rank (in_use rings (least_image rings w n))) h, lower)

  -- symmetry 0 leads to the board itself
  pub least_first : least_image rings w 1 ≡ w
  unfolding least_image lower
  least_first = rw (image_zero rings w, le-ltb (rank (in_use rings w)) (rank (in_use rings w)) (omega arith), lower)

  -- no other values come in
  pub least_values : (n : ℕ) → Values w → Values (least_image rings w n)
  unfolding least_image lower
  least_values zero v = v
  least_values (suc n) v =
      go (ltb (rank (in_use rings (image rings n w))) (rank (in_use rings (least_image rings w n))))
      (image rings n w) (least_image rings w n) (image_values rings n w v) (least_values n v)
    where
      go : (t : Bool) (x y : List ℕ) → Values x → Values y → Values (elim t [ true ↦ x | false ↦ y ])
      go true x y p q = p
      go false x y p q = q
