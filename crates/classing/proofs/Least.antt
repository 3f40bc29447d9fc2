-- The least of a position's images, by the mover's points alone. Assumes nothing.
use mathlib.Core.Path.{◌≡◌, sym, ap, subst, ◌∙◌}
use mathlib.Core.Bool.{true, false}
use mathlib.Core.List.{List}
use Prim.Native.Nat.{ℕ, ◌*◌, ◌^◌, ◌≤◌, ◌<◌}
use native.Mathlib.Omega.{arith}
use lib.Dec.{leb}
use lib.ListN.{length}
use borrow.Author.Tests.{le-leb, leb-true}
use Rattle.lists.specs.Lists.{all, range}
use Rattle.lists.proofs.Tests.{all_member, member_all, untrue}
use Rattle.lists.proofs.Members.{range_member, member_range}
use Rattle.sets.specs.Sets.{bit}
use Rattle.board.specs.declared.Position.{Position}
use Rattle.board.specs.Board.{set_of, digit, board_of, OnBoard}
use lib.Dec.{eqb}
use Rattle.board.proofs.Sides.{set_lt, bit_set, length_board}
use Rattle.sets.proofs.Laws.{same_set}
use Rattle.symmetry.proofs.Group.{source_low}
use Rattle.symmetry.proofs.Images.{image_zero, image_length, image_at}
use Rattle.board.proofs.OneToOne.{mover_set_lem}
use Rattle.symmetry.specs.Symmetries.{symmetries, source, image}
use Rattle.imaging.specs.Inner.Images.{ImageSet}
use Rattle.classing.specs.Inner.Classes.{mover_set, is_least}

-- the image of the mover's set is the mover's set of the image
pub number_image : (rings : ℕ) → rings ≤ 3 → (g : ℕ) → g < symmetries → (p : Position) → OnBoard (8 * rings) p → (t : ℕ) → ImageSet rings g p.mover t
    → t ≡ mover_set (image rings g (board_of (8 * rings) p))
number_image rings few g h p w t i =
    same_set (8 * rings) t (set_of 1 c) i.within (subst (λ (n : ℕ). set_of 1 c < 2 ^ n) points (set_lt 1 c)) (λ q l.
    i.at q l ∙ ap (λ (x : ℕ). bit x (source rings g q)) (sym (mover_set_lem (8 * rings) p w))
    ∙ bit_set 1 b (source rings g q) (omega (arith, source_low rings few g q h l, length_board (8 * rings) p))
    ∙ ap (λ (x : ℕ). digit (eqb x 1)) (sym (image_at rings g b q (omega (arith, length_board (8 * rings) p))))
    ∙ sym (bit_set 1 c q (omega (arith, points))))
  where
    b : List ℕ
    b = board_of (8 * rings) p

    c : List ℕ
    c = image rings g (board_of (8 * rings) p)

    points : length (image rings g (board_of (8 * rings) p)) ≡ 8 * rings
    points = image_length rings g (board_of (8 * rings) p) ∙ length_board (8 * rings) p

module _ (rings maps : ℕ) (b : List ℕ) where
  -- no image below n
  abbrev pub NoLower : ℕ → Type 0
  NoLower n = (h : ℕ) → h < n → mover_set b ≤ mover_set (image rings h b)

  -- the first symmetry changes nothing
  pub first_no_lower : NoLower 1
  first_no_lower h l =
      let z : h ≡ 0 = omega arith in
      omega (arith, ap mover_set (ap (λ (i : ℕ). image rings i b) z ∙ image_zero rings b))

  pub no_lower : NoLower maps → true ≡ is_least (λ c. mover_set c) rings maps b
  unfolding is_least
  no_lower w = sym (member_all (λ h. leb (mover_set b) (mover_set (image rings h b))) (range 0 maps) (λ h m.
      le-leb (mover_set b) (mover_set (image rings h b)) (w h (omega (arith, range_member maps 0 m)))))

  pub one_lower : (g : ℕ) → g < maps → mover_set (image rings g b) < mover_set b → false ≡ is_least (λ c. mover_set c) rings maps b
  unfolding is_least
  one_lower g l h =
      untrue (all (λ i. leb (mover_set b) (mover_set (image rings i b))) (range 0 maps)) (λ t.
      omega (
        arith,
        h,
        leb-true (mover_set b) (mover_set (image rings g b))
            (all_member (λ i. leb (mover_set b) (mover_set (image rings i b))) (range 0 maps) t g (member_range maps 0 g (omega arith) (omega arith))),
      ))
