-- The image of a position's sets is the image of its board. Assumes nothing.
use mathlib.Core.Path.{◌≡◌, sym, ap₂, ◌∙◌}
use Prim.Native.Nat.{ℕ, ◌+◌, ◌*◌, ◌≤◌, ◌<◌}
use native.Mathlib.Omega.{arith}
use lib.Dec.{eqb}
use Rattle.board.specs.declared.Position.{Position}
use Rattle.board.specs.Board.{digit, value_at, board_of, OnBoard}
use Rattle.board.proofs.Sides.{length_board, board_at_lem}
use Rattle.symmetry.specs.Symmetries.{symmetries, source, image}
use Rattle.symmetry.proofs.Group.{source_low}
use Rattle.symmetry.proofs.Images.{image_is}
use Rattle.imaging.specs.Inner.Images.{ImageSet}

module _ (rings : ℕ) (few : rings ≤ 3) (g : ℕ) (h : g < symmetries) (p q : Position) (mine : ImageSet rings g p.mover q.mover)
    (theirs : ImageSet rings g p.opponent q.opponent) where
  pub board_image : board_of (8 * rings) q ≡ image rings g (board_of (8 * rings) p)
  unfolding value_at
  board_image =
      image_is rings g (board_of (8 * rings) p) (board_of (8 * rings) q) (length_board (8 * rings) q ∙ sym (length_board (8 * rings) p)) (λ i l.
      let m : i < 8 * rings = omega (arith, length_board (8 * rings) p) in
      board_at_lem (8 * rings) q i m
      ∙ ap₂ (λ (x y : ℕ). digit (eqb x 1) + 2 * digit (eqb y 1)) (mine.at i m) (theirs.at i m)
      ∙ sym (board_at_lem (8 * rings) p (source rings g i) (source_low rings few g i h m)))

  pub image_on_board : OnBoard (8 * rings) p → OnBoard (8 * rings) q
  image_on_board w = record {
    mover_within = mine.within;
    opponent_within = theirs.within;
    apart = λ i l. omega (arith, mine.at i l, theirs.at i l, w.apart (source rings g i) (source_low rings few g i h l));
  }
