-- Images of images: two symmetries together are one, and each is undone by one. An image has the counts of its board, and the points in use of a
-- whole board's image are the board's image. Assumes nothing.
use mathlib.Core.Path.{◌≡◌, refl, sym, ◌∙◌, ap, subst}
use mathlib.Core.List.{List, [], ◌∷◌}
use Prim.Native.Nat.{ℕ, ◌*◌, ◌≤◌, ◌<◌}
use native.Mathlib.Omega.{arith}
use lib.Dec.{eqb}
use lib.ListN.{get_or, length}
use lib.Seq.{get_or-take, length-take-le}
use Rattle.board.specs.Board.{count, digit}
use Rattle.board.proofs.Sides.{more_digit}
use Rattle.symmetry.specs.Symmetries.{symmetries, source, image, whole}
use Rattle.symmetry.specs.Representative.{in_use}
use Rattle.symmetry.proofs.Sums.{sum, sum_same, sum_front, Permutes, sum_permuted}
use Rattle.symmetry.proofs.Group.{compose, inverse, inverse_low, inverse_inverse, source_low, source_compose, source_undo, source_redo}
use Rattle.symmetry.proofs.Images.{image_length, image_at, image_is, whole_at, whole_length}

-- a count is a sum over the points
count_sum : (v : ℕ) (b : List ℕ) → count v b ≡ sum (λ p. digit (eqb (get_or b p 0) v)) (length b)
count_sum v [] = refl
count_sum v (x ∷ b) =
    omega (arith, sum_front (λ p. digit (eqb (get_or (x ∷ b) p 0) v)) (length b), count_sum v b, more_digit (eqb x v) (count v b))

module _ (rings : ℕ) (few : rings ≤ 3) where
  -- one-to-one on the points in use
  pub source_permutes : (g : ℕ) → g < symmetries → Permutes (8 * rings) (λ p. source rings g p) (λ p. source rings (inverse g) p)
  source_permutes g h = record {
    to_low = λ p l. source_low rings few g p h l;
    from_low = λ p l. source_low rings few (inverse g) p (inverse_low g h) l;
    from_to = λ p l. source_undo rings few g p h l;
    to_from = λ p l. source_redo rings few g p h l;
  }

  -- images of images
  module _ (b : List ℕ) (points : length b ≡ 8 * rings) where
    pub image_compose : (g h : ℕ) → g < symmetries → h < symmetries → image rings g (image rings h b) ≡ image rings (compose g h) b
    image_compose g h a c =
        image_is rings (compose g h) b (image rings g (image rings h b)) (image_length rings g (image rings h b) ∙ image_length rings h b) (λ p l.
        let m : p < 8 * rings = omega arith in
        image_at rings g (image rings h b) p (omega (arith, image_length rings h b))
        ∙ image_at rings h b (source rings g p) (omega (arith, source_low rings few g p a m))
        ∙ ap (λ (q : ℕ). get_or b q 0) (sym (source_compose rings few g h p a c m)))

    pub image_back : (g : ℕ) → g < symmetries → image rings (inverse g) (image rings g b) ≡ b
    image_back g h =
        sym (image_is rings (inverse g) (image rings g b) b (sym (image_length rings g b)) (λ p l.
        let m : p < 8 * rings = omega (arith, image_length rings g b) in
        ap (λ (q : ℕ). get_or b q 0) (sym (source_redo rings few g p h m))
        ∙ sym (image_at rings g b (source rings (inverse g) p) (omega (arith, source_low rings few (inverse g) p (inverse_low g h) m)))))

    pub image_forth : (g : ℕ) → g < symmetries → image rings g (image rings (inverse g) b) ≡ b
    image_forth g h =
        subst (λ (k : ℕ). image rings k (image rings (inverse g) b) ≡ b) (inverse_inverse g h) (image_back (inverse g) (inverse_low g h))

    -- the image has as many stones of each side
    pub image_count : (g v : ℕ) → g < symmetries → count v (image rings g b) ≡ count v b
    image_count g v h =
        count_sum v (image rings g b)
        ∙ ap (λ (n : ℕ). sum (λ p. digit (eqb (get_or (image rings g b) p 0) v)) n) (image_length rings g b ∙ points)
        ∙ sum_same (λ p. digit (eqb (get_or (image rings g b) p 0) v)) (λ p. digit (eqb (get_or b (source rings g p) 0) v)) (8 * rings)
        (λ p l. ap (λ (x : ℕ). digit (eqb x v)) (image_at rings g b p (omega arith)))
        ∙ sum_permuted (λ p. digit (eqb (get_or b p 0) v)) (8 * rings) (λ p. source rings g p) (λ p. source rings (inverse g) p) (source_permutes g h)
        ∙ ap (λ (n : ℕ). sum (λ p. digit (eqb (get_or b p 0) v)) n) (sym points) ∙ sym (count_sum v b)

    -- the points in use of the whole board's image are the board's image
    pub image_whole : (g : ℕ) → g < symmetries → in_use rings (image rings g (whole b)) ≡ image rings g b
    image_whole g h =
        let w = whole b in
        let n : length (image rings g w) ≡ 24 = image_length rings g w ∙ whole_length b (omega arith) in
        image_is rings g b (in_use rings (image rings g w)) (length-take-le (8 * rings) (image rings g w) (omega arith) ∙ sym points) (λ p l.
        get_or-take (8 * rings) (image rings g w) p 0 (omega arith)
        ∙ image_at rings g w p (omega (arith, image_length rings g w)) ∙ whole_at b (source rings g p))
