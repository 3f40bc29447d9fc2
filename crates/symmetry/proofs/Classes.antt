-- Classes: to be of one class is an equivalence, and an image has the counts of its board. The representative is an image, of the least rank
-- among the images, the same for all boards of a class, and its own representative. Assumes nothing.
use mathlib.Core.Path.{◌≡◌, refl, sym, ◌∙◌, ap, subst}
use mathlib.Core.Bool.{Bool, true, false}
use mathlib.Core.List.{List}
use Prim.Native.Nat.{ℕ, zero, suc, ◌*◌, ◌≤◌, ◌<◌}
use native.Mathlib.Omega.{arith}
use lib.Dec.{ltb}
use lib.ListN.{length}
use borrow.Author.Count.{below_more}
use borrow.Author.Tests.{ltb-true, ltb-false}
use Rattle.board.specs.Board.{Values, count}
use Rattle.ranking.specs.Rank.{rank}
use Rattle.ranking.proofs.Inverse.{rank_one}
use Rattle.symmetry.specs.Symmetries.{symmetries, image, whole}
use Rattle.symmetry.specs.Representative.{SameClass, in_use, least_image, representative}
use Rattle.symmetry.proofs.Group.{compose, inverse, compose_low, inverse_low}
use Rattle.symmetry.proofs.Images.{image_zero, image_length, image_values, take_whole}
use Rattle.symmetry.proofs.Compose.{image_compose, image_back, image_count, image_whole}
use Rattle.symmetry.proofs.Least.{least_none, least_lower, least_kept}

module _ (rings : ℕ) (few : rings ≤ 3) where
  module _ (b : List ℕ) (points : length b ≡ 8 * rings) where
    -- to be of one class is an equivalence
    pub class_refl : SameClass rings b b
    class_refl = (0, omega arith, image_zero rings b)

    pub class_sym : (c : List ℕ) → SameClass rings b c → SameClass rings c b
    class_sym c s =
        (inverse s.0, inverse_low s.0 s.1, ap (image rings (inverse s.0)) (sym s.2) ∙ image_back rings few b points s.0 s.1)

    pub class_trans : (c d : List ℕ) → SameClass rings b c → SameClass rings c d → SameClass rings b d
    class_trans c d s t = (
      compose t.0 s.0,
      compose_low t.0 s.0 t.1 s.1,
      sym (image_compose rings few b points t.0 s.0 t.1 s.1) ∙ ap (image rings t.0) s.2 ∙ t.2,
    )

    -- the least image so far is an image, and no image so far has a lower rank
    record Least (n : ℕ) (w : List ℕ) : Type 0 where
      pub image_of : SameClass rings b (in_use rings w)
      pub least : (g : ℕ) → g < n → rank (in_use rings w) ≤ rank (image rings g b)

    least_so_far : (n : ℕ) → n ≤ symmetries → Least n (least_image rings (whole b) n)
    least_so_far zero h = record {
      image_of = rw (least_none rings (whole b), take_whole b (8 * rings) points) class_refl;
      least = λ g l. absurd (omega arith);
    }
    least_so_far (suc n) h = go (ltb (rank (in_use rings (image rings n w))) (rank (in_use rings k))) refl (least_so_far n (omega arith))
      where
        w : List ℕ
        w = whole b

        k : List ℕ
        k = least_image rings w n

        i : List ℕ
        i = image rings n w

        e : in_use rings (image rings n w) ≡ image rings n b
        e = image_whole rings few b points n h

        go : (t : Bool) → ltb (rank (in_use rings i)) (rank (in_use rings k)) ≡ t → Least n k → Least (suc n) (least_image rings w (suc n))
        go true q s =
            let l = ltb-true (rank (in_use rings i)) (rank (in_use rings k)) q in
            rw (least_lower rings w n l) record {
              image_of = (n, h, sym e);
              least = λ g m. below_more (λ (j : ℕ). rank (in_use rings i) ≤ rank (image rings j b)) n (λ j a. omega (arith, s.least j a))
                  (omega (arith, ap rank e)) g (omega arith);
            }
        go false q s =
            let l = ltb-false (rank (in_use rings i)) (rank (in_use rings k)) q in
            rw (least_kept rings w n l) record {
              image_of = s.image_of;
              least = λ g m. below_more (λ (j : ℕ). rank (in_use rings k) ≤ rank (image rings j b)) n s.least
                  (omega (arith, ap rank e)) g (omega arith);
            }

    -- the representative has no higher rank than any image,
    pub representative_least : (g : ℕ) → g < symmetries → rank (representative rings b) ≤ rank (image rings g b)
    unfolding representative
    representative_least g h = (least_so_far symmetries (omega arith)).least g h

    -- and is an image itself
    pub representative_image : SameClass rings b (representative rings b)
    unfolding representative
    representative_image = (least_so_far symmetries (omega arith)).image_of

    pub representative_length : length (representative rings b) ≡ 8 * rings
    representative_length =
        let s = representative_image in
        ap length (sym s.2) ∙ image_length rings s.0 b ∙ points

    pub representative_values : Values b → Values (representative rings b)
    representative_values v = let s = representative_image in subst Values s.2 (image_values rings s.0 b v)

    -- it has the same counts
    pub representative_count : (v : ℕ) → count v (representative rings b) ≡ count v b
    representative_count v = let s = representative_image in ap (count v) (sym s.2) ∙ image_count rings few b points s.0 v s.1

  class_length : (b c : List ℕ) → length b ≡ 8 * rings → SameClass rings b c → length c ≡ 8 * rings
  class_length b c points s = ap length (sym s.2) ∙ image_length rings s.0 b ∙ points

  -- no representative of a class has a higher rank than another
  rank_le : (b c : List ℕ) → length b ≡ 8 * rings → SameClass rings b c → rank (representative rings b) ≤ rank (representative rings c)
  rank_le b c points s =
      let t = class_trans b points c (representative rings c) s (representative_image c (class_length b c points s)) in
      omega (arith, representative_least b points t.0 t.1, ap rank t.2)

  -- two boards of one class have representatives of one rank
  pub representative_rank : (b c : List ℕ) → length b ≡ 8 * rings → SameClass rings b c
      → rank (representative rings b) ≡ rank (representative rings c)
  representative_rank b c points s =
      omega (arith, rank_le b c points s, rank_le c b (class_length b c points s) (class_sym b points c s))

  -- boards of equal counts whose representatives have one rank have the same representative
  pub representative_one : (b c : List ℕ) → length b ≡ 8 * rings → length c ≡ 8 * rings → Values b → Values c
      → count 1 b ≡ count 1 c → count 2 b ≡ count 2 c → rank (representative rings b) ≡ rank (representative rings c)
      → representative rings b ≡ representative rings c
  representative_one b c l m v w one two e =
      rank_one (representative rings b) (representative rings c) (representative_values b l v) (representative_values c m w)
      (representative_length b l ∙ sym (representative_length c m)) (representative_count b l 1 ∙ one ∙ sym (representative_count c m 1))
      (representative_count b l 2 ∙ two ∙ sym (representative_count c m 2)) e

  -- two boards of one class have the same representative
  pub representative_same : (b c : List ℕ) → length b ≡ 8 * rings → Values b → SameClass rings b c → representative rings b ≡ representative rings c
  representative_same b c points v s =
      let equal : (x : ℕ) → count x b ≡ count x c = λ x. sym (image_count rings few b points s.0 x s.1) ∙ ap (count x) s.2 in
      representative_one b c points (class_length b c points s) v (subst Values s.2 (image_values rings s.0 b v)) (equal 1) (equal 2)
      (representative_rank b c points s)

  -- boards with the same representative are of one class
  pub same_representative : (b c : List ℕ) → length b ≡ 8 * rings → length c ≡ 8 * rings
      → representative rings b ≡ representative rings c → SameClass rings b c
  same_representative b c l m e =
      class_trans b l (representative rings b) c (representative_image b l)
      (subst (λ (r : List ℕ). SameClass rings r c) (sym e) (class_sym c m (representative rings c) (representative_image c m)))

  -- a representative's representative is itself
  pub representative_again : (b : List ℕ) → length b ≡ 8 * rings → Values b → representative rings (representative rings b) ≡ representative rings b
  representative_again b points v = sym (representative_same b (representative rings b) points v (representative_image b points))
