-- The positions of a table tested one after the other, those that are draws passed over. Assumes nothing.
use mathlib.Core.Path.{◌≡◌, refl, sym, ap, subst, ◌∙◌}
use mathlib.Core.Bool.{Bool, true, false, ◌&&◌}
use mathlib.Core.List.{List}
use mathlib.Core.Logic.{◌⊎◌, inl, inr}
use Prim.Native.Nat.{ℕ, ◌+◌, ◌*◌, ◌≤◌, ◌<◌}
use native.Mathlib.Decide.{ℕ_discrete}
use native.Mathlib.Omega.{arith}
use lib.Dec.{ltb}
use lib.ListN.{get_or}
use borrow.Author.Tests.{eqb-true, eq-eqb, ltb-true, ltb-false, not-false}
use Rattle.lists.proofs.Tests.{and_left, and_right}
use Rattle.sizes.specs.Size.{size}
use Rattle.ranking.specs.Rank.{rank}
use Rattle.ranking.specs.Unrank.{unrank}
use Rattle.ranking.proofs.Inverse.{rank_unrank}
use Rattle.game.specs.Game.{draw_entry}
use Rattle.symmetry.specs.Symmetries.{symmetries, image}
use Rattle.invariance.specs.Symmetric.{SymmetricFrom}
use Rattle.finding.specs.Inner.Finding.{First}
use Rattle.comparing.specs.Inner.Compared.{image_has, same_images, is_decided}
use Rattle.comparing.proofs.Generated.{SharedByThree, generated}

module _ (rings start m o : ℕ) (tablebase : List ℕ) where
  -- the entry of rank r, and the board of that rank
  module _ (r : ℕ) (h : r < size (8 * rings) m o) where
    abbrev board : List ℕ
    board = unrank (8 * rings) m o r

    own : get_or tablebase (start + rank board) 0 ≡ get_or tablebase (start + r) 0
    own = ap (λ (i : ℕ). get_or tablebase (start + i) 0) (rank_unrank (8 * rings) m o r h).rank_is

    has : (g : ℕ) → image_has rings start tablebase board (get_or tablebase (start + r) 0) g ≡ true
        → get_or tablebase (start + rank (image rings g board)) 0 ≡ get_or tablebase (start + rank board) 0
    unfolding image_has
    has g e = eqb-true _ _ e ∙ sym own

    pub images_kept : (few : rings ≤ 3) → same_images rings start tablebase board (get_or tablebase (start + r) 0) ≡ true
        → SharedByThree rings few start m o tablebase board
    unfolding same_images
    images_kept few e =
        let two = and_left (test 1 && test 4) (test 8) e in
        record {
          turned = has 1 (and_left (test 1) (test 4) two);
          mirrored = has 4 (and_right (test 1) (test 4) two);
          reversed = has 8
              (and_right (test 1 && test 4) (test 8) e);
        }
      where
        test : ℕ → Bool
        test g = image_has rings start tablebase board (get_or tablebase (start + r) 0) g

    -- where the table is symmetric, every position passes
    module _ (w : SymmetricFrom symmetries rings start m o tablebase) where
      holds : (g : ℕ) → g < symmetries → image_has rings start tablebase board (get_or tablebase (start + r) 0) g ≡ true
      unfolding image_has
      holds g l = eq-eqb _ _ (w r g h l)

      pub images_same : same_images rings start tablebase board (get_or tablebase (start + r) 0) ≡ true
      unfolding same_images
      images_same = rw (holds 1 (omega arith), holds 4 (omega arith), holds 8 (omega arith))

  -- the positions below r are draws or keep their entries
  abbrev pub AllTested : (few : rings ≤ 3) → ℕ → Type 0
  AllTested few n = (r : ℕ) → r < n → r < size (8 * rings) m o
      → (get_or tablebase (start + r) 0 ≡ draw_entry) ⊎ SharedByThree rings few start m o tablebase (unrank (8 * rings) m o r)

  pub passed_over : (few : rings ≤ 3) (from end i : ℕ) → First (is_decided start tablebase) from end i → AllTested few from → AllTested few i
  passed_over few from end i w p r l h = go (ltb r from) refl
    where
      go : (c : Bool) → ltb r from ≡ c
          → (get_or tablebase (start + r) 0 ≡ draw_entry) ⊎ SharedByThree rings few start m o tablebase (unrank (8 * rings) m o r)
      go true e = p r (ltb-true r from e) h
      go false e = inl (eqb-true _ _ (not-false _ (w.none r (ltb-false r from e) l)))

  pub passed_one : (few : rings ≤ 3) (n : ℕ) → same_images rings start tablebase (unrank (8 * rings) m o n) (get_or tablebase (start + n) 0) ≡ true
      → AllTested few n
      → AllTested few (n + 1)
  passed_one few n e p r l h = go (ℕ_discrete r n)
    where
      go : Dec (r ≡ n) → (get_or tablebase (start + r) 0 ≡ draw_entry) ⊎ SharedByThree rings few start m o tablebase (unrank (8 * rings) m o r)
      go (yes q) = inr (images_kept r h few (subst (λ (i : ℕ). same_images rings start tablebase (unrank (8 * rings) m o i)
          (get_or tablebase (start + i) 0) ≡ true) (sym q) e))
      go (no d) = p r (omega (arith, d)) h

  pub passed_all : (few : rings ≤ 3) (n : ℕ) → n ≡ size (8 * rings) m o → AllTested few n → SymmetricFrom symmetries rings start m o tablebase
  passed_all few n e p = generated rings few start m o tablebase (λ r h. p r (omega (arith, e)) h)
