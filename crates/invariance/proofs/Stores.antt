-- The steps of a ply on an image: a slide, a removal and the change of names lead to the image of what they lead to on the board, each point
-- taken to its source. Assumes nothing.
use mathlib.Core.Path.{◌≡◌, refl, sym, ◌∙◌, ap}
use mathlib.Core.Bool.{Bool, true, false}
use mathlib.Core.List.{List, map}
use mathlib.Core.Logic.{◌⊎◌, inl, inr}
use Prim.Native.Nat.{ℕ, ◌*◌, ◌≤◌, ◌<◌}
use native.Mathlib.Omega.{arith}
use lib.Dec.{eqb}
use lib.ListN.{get_or, set, length, length-set, length-map}
use lib.Seq.{get_or-set_same, get_or-set_other}
use borrow.Author.Tests.{eqb-true, eqb-false}
use Rattle.rules.specs.Ply.{slide, no_removal, remove, exchange}
use Rattle.rules.proofs.Leads.{slide_is, remove_none, remove_one, exchange_at}
use Rattle.symmetry.specs.Symmetries.{symmetries, source, image}
use Rattle.symmetry.proofs.Group.{inverse, source_none, source_low, source_undo}
use Rattle.symmetry.proofs.Images.{image_length, image_at, image_is}

-- what a ply removes: nothing, or the stone at a point
abbrev pub PointOrNone : ℕ → ℕ → Type 0
PointOrNone rings r = (r ≡ no_removal) ⊎ (r < 8 * rings)

module _ (rings : ℕ) (few : rings ≤ 3) (g : ℕ) (h : g < symmetries) where
  -- to the source and back
  pub removed_back : (r : ℕ) → PointOrNone rings r → source rings (inverse g) (source rings g r) ≡ r
  removed_back r (inl e) =
      ap (λ (x : ℕ). source rings (inverse g) x) (source_none rings g r (omega arith)) ∙ source_none rings (inverse g) r (omega arith)
  removed_back r (inr l) = source_undo rings few g r h l

  pub image_exchange : (b : List ℕ) → map (λ v. exchange v) (image rings g b) ≡ image rings g (map (λ v. exchange v) b)
  image_exchange b =
      image_is rings g (map (λ v. exchange v) b) (map (λ v. exchange v) (image rings g b))
      (length-map (image rings g b) (λ v. exchange v) ∙ image_length rings g b ∙ sym (length-map b (λ v. exchange v)))
      (λ p l. exchange_at (image rings g b) p
      ∙ ap (λ (v : ℕ). exchange v) (image_at rings g b p (omega (arith, length-map b (λ v. exchange v))))
      ∙ sym (exchange_at b (source rings g p)))

  image_set : (b : List ℕ) → length b ≡ 8 * rings → (p v : ℕ) → p < 8 * rings → set (image rings g b) p v ≡ image rings g (set b (source rings g p) v)
  image_set b points p v low =
      image_is rings g (set b at v) (set (image rings g b) p v)
      (length-set (image rings g b) p v ∙ image_length rings g b ∙ sym (length-set b at v))
      (λ q m. go q (omega (arith, length-set b at v)) (eqb q p) refl)
    where
      at : ℕ
      at = source rings g p

      go : (q : ℕ) → q < 8 * rings → (t : Bool) → eqb q p ≡ t → get_or (set (image rings g b) p v) q 0 ≡ get_or (set b at v) (source rings g q) 0
      go q m true e =
          let z = eqb-true q p e in
          rw z (get_or-set_same (image rings g b) p v 0 (omega (arith, image_length rings g b))
          ∙ sym (get_or-set_same b at v 0 (omega (arith, source_low rings few g p h low))))
      go q m false e =
          let ne = eqb-false q p e in
          get_or-set_other (image rings g b) p q v 0 ne ∙ image_at rings g b q (omega arith)
          ∙ sym (get_or-set_other b at (source rings g q) v 0 (λ z.
          ne (sym (source_undo rings few g q h m) ∙ ap (λ (x : ℕ). source rings (inverse g) x) z ∙ source_undo rings few g p h low)))

  module _ (b : List ℕ) (points : length b ≡ 8 * rings) where
    pub slide_image : (s t : ℕ) → s < 8 * rings → t < 8 * rings
        → slide (image rings g b) s t ≡ image rings g (slide b (source rings g s) (source rings g t))
    slide_image s t a c =
        slide_is (image rings g b) s t ∙ ap (λ (x : List ℕ). set x t 1) (image_set b points s 0 a)
        ∙ image_set (set b (source rings g s) 0) (length-set b (source rings g s) 0 ∙ points) t 1 c
        ∙ ap (image rings g) (sym (slide_is b (source rings g s) (source rings g t)))

    pub remove_image : (r : ℕ) → PointOrNone rings r → remove (image rings g b) r ≡ image rings g (remove b (source rings g r))
    remove_image r (inl e) =
        remove_none (image rings g b) r e
        ∙ ap (image rings g) (sym (remove_none b (source rings g r) (source_none rings g r (omega arith) ∙ e)))
    remove_image r (inr l) =
        let low = source_low rings few g r h l in
        remove_one (image rings g b) r (λ z. omega arith) ∙ image_set b points r 0 l
        ∙ ap (image rings g) (sym (remove_one b (source rings g r) (λ z. omega arith)))
