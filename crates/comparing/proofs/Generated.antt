-- A turn, a mirror and the reversal of the rings make all sixteen symmetries: where they keep the entry of every position that is no draw, all of them
-- keep all entries. Assumes nothing.
use mathlib.Core.Path.{◌≡◌, refl, sym, ap, subst, ◌∙◌}
use mathlib.Core.Bool.{Bool, true, false}
use mathlib.Core.List.{List}
use mathlib.Core.Logic.{◌⊎◌, inl, inr}
use Prim.Native.Nat.{ℕ, zero, suc, ◌+◌, ◌-◌, ◌*◌, ◌≤◌, ◌<◌}
use native.Mathlib.Omega.{arith}
use lib.Dec.{eqb, ltb}
use lib.ListN.{get_or}
use borrow.Author.Tests.{eqb-true, eqb-false, ltb-true, ltb-false}
use Rattle.lists.proofs.Table.{every, every_at}
use Rattle.sizes.specs.Size.{size}
use Rattle.ranking.specs.Rank.{rank}
use Rattle.ranking.specs.Unrank.{unrank}
use Rattle.ranking.proofs.Inverse.{rank_unrank}
use Rattle.game.specs.Game.{draw_entry}
use Rattle.outcomes.proofs.Ranked.{InTable, unrank_in, rank_in, unrank_of}
use Rattle.symmetry.specs.Symmetries.{symmetries, image}
use Rattle.symmetry.proofs.Group.{compose, inverse, inverse_low}
use Rattle.symmetry.proofs.Images.{image_zero}
use Rattle.symmetry.proofs.Compose.{image_compose, image_back}
use Rattle.invariance.specs.Symmetric.{SymmetricFrom}
use Rattle.invariance.proofs.PairMaps.{image_table}

-- turns by turns, mirrors from turns, and those with the rings reversed from the others
turns : every 3 (λ n. eqb (compose 1 n) (suc n)) ≡ true
unfolding compose
turns = refl

mirrors : every 4 (λ n. eqb (compose 4 n) (4 + n)) ≡ true
unfolding compose
mirrors = refl

reversals : every 8 (λ n. eqb (compose 8 n) (8 + n)) ≡ true
unfolding compose
reversals = refl

module _ (rings : ℕ) (few : rings ≤ 3) (start x y : ℕ) (tablebase : List ℕ) where
  abbrev entry : List ℕ → ℕ
  entry b = get_or tablebase (start + rank b) 0

  -- the three that are tested keep the entry of b
  pub record SharedByThree (b : List ℕ) : Type 0 where
    pub turned : entry (image rings 1 b) ≡ entry b
    pub mirrored : entry (image rings 4 b) ≡ entry b
    pub reversed : entry (image rings 8 b) ≡ entry b

  module _ (tested : (b : List ℕ) → InTable rings x y b → (entry b ≡ draw_entry) ⊎ SharedByThree b) where
    -- a position that is no draw
    module _ (b : List ℕ) (w : InTable rings x y b) (decided : entry b ≡ draw_entry → ⊥) where
      abbrev Same : ℕ → Type 0
      Same g = entry (image rings g b) ≡ entry b

      in_table : (g : ℕ) → g < symmetries → InTable rings x y (image rings g b)
      in_table g l = image_table rings few g l x y b w

      -- an image has the entry too, so it is tested
      image_kept : (h : ℕ) → h < symmetries → Same h → SharedByThree (image rings h b)
      image_kept h l s = go (tested (image rings h b) (in_table h l))
        where
          go : (entry (image rings h b) ≡ draw_entry) ⊎ SharedByThree (image rings h b) → SharedByThree (image rings h b)
          go (inl e) = absurd (decided (sym s ∙ e))
          go (inr k) = k

      joined : (a h g : ℕ) → a < symmetries → h < symmetries → compose a h ≡ g → entry (image rings a (image rings h b)) ≡ entry (image rings h b)
          → Same h → Same g
      joined a h g l m e k s =
          ap (λ (i : ℕ). entry (image rings i b)) (sym e) ∙ ap entry (sym (image_compose rings few b w.points a h l m)) ∙ k ∙ s

      turned_all : (n : ℕ) → n < 4 → Same n
      turned_all zero l = ap entry (image_zero rings b)
      turned_all (suc n) l =
          let s = turned_all n (omega arith) in
          joined 1 n (suc n) (omega arith) (omega arith) (eqb-true (compose 1 n) (suc n) (every_at 3 (λ i. eqb (compose 1 i) (suc i)) turns n (omega arith)))
          (image_kept n (omega arith) s).turned s

      mirrored_all : (n : ℕ) → n < 4 → Same (4 + n)
      mirrored_all n l =
          let s = turned_all n l in
          joined 4 n (4 + n) (omega arith) (omega arith) (eqb-true (compose 4 n) (4 + n) (every_at 4 (λ i. eqb (compose 4 i) (4 + i)) mirrors n l))
          (image_kept n (omega arith) s).mirrored s

      outward : (n : ℕ) → n < 8 → Same n
      outward n l = go (ltb n 4) refl
        where
          go : (c : Bool) → ltb n 4 ≡ c → Same n
          go true e = turned_all n (ltb-true n 4 e)
          go false e =
              let h = ltb-false n 4 e in
              let z : 4 + (n - 4) ≡ n = omega arith in
              subst Same z (mirrored_all (n - 4) (omega arith))

      decided_kept : (g : ℕ) → g < symmetries → Same g
      decided_kept g l = go (ltb g 8) refl
        where
          go : (c : Bool) → ltb g 8 ≡ c → Same g
          go true e = outward g (ltb-true g 8 e)
          go false e =
              let h = ltb-false g 8 e in
              let z : 8 + (g - 8) ≡ g = omega arith in
              let s = outward (g - 8) (omega arith) in
              subst Same z (joined 8 (g - 8) (8 + (g - 8)) (omega arith) (omega arith)
              (eqb-true (compose 8 (g - 8)) (8 + (g - 8)) (every_at 8 (λ i. eqb (compose 8 i) (8 + i)) reversals (g - 8) (omega arith)))
              (image_kept (g - 8) (omega arith) s).reversed s)

    -- the image of a draw is a draw: it would else lead back to an entry that is none
    all_kept : (g : ℕ) → g < symmetries → (b : List ℕ) → InTable rings x y b → entry (image rings g b) ≡ entry b
    all_kept g l b w = go (eqb (entry b) draw_entry) refl (eqb (entry (image rings g b)) draw_entry) refl
      where
        go : (c : Bool) → eqb (entry b) draw_entry ≡ c → (d : Bool) → eqb (entry (image rings g b)) draw_entry ≡ d → entry (image rings g b) ≡ entry b
        go false e d f = decided_kept b w (eqb-false (entry b) draw_entry e) g l
        go true e true f = eqb-true (entry (image rings g b)) draw_entry f ∙ sym (eqb-true (entry b) draw_entry e)
        go true e false f =
            sym (ap entry (sym (image_back rings few b w.points g l))
            ∙ decided_kept (image rings g b) (image_table rings few g l x y b w) (eqb-false (entry (image rings g b)) draw_entry f) (inverse g)
            (inverse_low g l))

  pub generated : ((r : ℕ) → r < size (8 * rings) x y → (get_or tablebase (start + r) 0 ≡ draw_entry) ⊎ SharedByThree (unrank (8 * rings) x y r))
      → SymmetricFrom symmetries rings start x y tablebase
  generated tested r g h l =
      all_kept each g l (unrank (8 * rings) x y r) (unrank_in rings x y r h)
      ∙ ap (λ (i : ℕ). get_or tablebase (start + i) 0) (rank_unrank (8 * rings) x y r h).rank_is
    where
      each : (b : List ℕ) → InTable rings x y b → (entry b ≡ draw_entry) ⊎ SharedByThree b
      each b w = subst (λ (c : List ℕ). (entry b ≡ draw_entry) ⊎ SharedByThree c) (unrank_of rings x y b w) (tested (rank b) (rank_in rings x y b w))
