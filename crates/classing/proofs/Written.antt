-- An entry written at the images of a position, one after the other: each lies in its table. Assumes nothing.
use mathlib.Core.Path.{◌≡◌, refl, sym, subst, ◌∙◌}
use mathlib.Core.List.{List}
use Prim.Native.Nat.{ℕ, zero, suc, ◌+◌, ◌*◌, ◌≤◌, ◌<◌}
use native.Mathlib.Numerals.{add-one}
use lib.ListN.{length, set, length-set}
use Rattle.board.specs.declared.Position.{Position}
use Rattle.board.specs.Board.{count, board_of, OnBoard}
use Rattle.board.proofs.Sides.{length_board, board_values}
use Rattle.sizes.specs.Size.{size}
use Rattle.ranking.specs.Rank.{rank}
use Rattle.symmetry.specs.Symmetries.{symmetries, image}
use Rattle.outcomes.proofs.Ranked.{InTable, rank_in}
use Rattle.invariance.proofs.PairMaps.{image_table}
use Rattle.classing.specs.Inner.Classes.{images_written}

-- an image's rank lies in its table
pub image_rank : (rings : ℕ) → rings ≤ 3 → (g : ℕ) → g < symmetries → (p q : Position) → OnBoard (8 * rings) p
    → board_of (8 * rings) q ≡ image rings g (board_of (8 * rings) p)
    → rank (board_of (8 * rings) q) < size (8 * rings) (count 1 (board_of (8 * rings) p)) (count 2 (board_of (8 * rings) p))
image_rank rings few g h p q w e =
    let b = board_of (8 * rings) p in
    let i : InTable rings (count 1 b) (count 2 b) b =
    record { values = board_values (8 * rings) p w; points = length_board (8 * rings) p; mover = refl; opponent = refl } in
    subst (λ (c : List ℕ). rank c < size (8 * rings) (count 1 b) (count 2 b)) (sym e)
    (rank_in rings (count 1 b) (count 2 b) (image rings g b) (image_table rings few g h (count 1 b) (count 2 b) b i))

-- the images written one after the other
module _ (rings start : ℕ) (b : List ℕ) (v : ℕ) (tablebase : List ℕ) where
  pub none_written : tablebase ≡ images_written rings start b v tablebase 0
  unfolding images_written
  none_written = refl

  pub one_written : (g : ℕ) (now : List ℕ) → now ≡ images_written rings start b v tablebase g → (r : ℕ) → r ≡ rank (image rings g b)
      → set now (start + r) v ≡ images_written rings start b v tablebase (g + 1)
  unfolding images_written
  one_written g now e r f = rw (e, f, add-one g)

  pub images_length : (n : ℕ) → length (images_written rings start b v tablebase n) ≡ length tablebase
  unfolding images_written
  images_length zero = refl
  images_length (suc n) = length-set (images_written rings start b v tablebase n) (start + rank (image rings n b)) v ∙ images_length n
