-- What the symmetries keep: points adjoin where their sources do, and the sources of a mill's points are a mill's points. Tests over all
-- symmetries, points and mills, which the prover computes; so an image has its mills where its board has them. Assumes nothing.
use mathlib.Core.Path.{◌≡◌, refl, sym, ◌∙◌, ap, subst}
use mathlib.Core.Bool.{Bool, true, false, ◌&&◌, false≢true}
use mathlib.Core.List.{List, Memᴰ}
use Prim.Native.Nat.{ℕ, zero, suc, ◌*◌, ◌≤◌, ◌<◌}
use native.Mathlib.Omega.{arith}
use lib.Dec.{eqb}
use lib.ListN.{get_or, length}
use Rattle.lists.specs.Lists.{all, any, member}
use Rattle.lists.proofs.Table.{every, every_at, every_three, every_three_lem}
use Rattle.lists.proofs.Tests.{same_test, and_left, and_right, and_both, member_is, is_member, all_member, any_member, member_any, member_all}
use Rattle.geometry.specs.Geometry.{follows, inward, adjoin, ring_mills, cross_mills, mills}
use Rattle.rules.specs.Ply.{holds, in_mill}
use Rattle.rules.proofs.Mills.{in_mill_any}
use Rattle.geometry.proofs.Geometry.{mill_low}
use Rattle.symmetry.specs.Symmetries.{symmetries, place_from, ring_from, source, image}
use Rattle.symmetry.proofs.Group.{inverse, inverse_low, source_undo, source_redo}
use Rattle.symmetry.proofs.Images.{image_length, image_at}
use Rattle.symmetry.proofs.Compose.{image_back}

-- neighbours
agrees : Bool → Bool → Bool
agrees true b = b
agrees false true = false
agrees false false = true

agrees_is : (a b : Bool) → agrees a b ≡ true → a ≡ b
unfolding agrees
agrees_is true b e = sym e
agrees_is false true e = absurd (false≢true e)
agrees_is false false e = refl

neighbours_kept : ℕ → ℕ → ℕ → ℕ → Bool
neighbours_kept rings g p q = agrees (adjoin (source rings g p) (source rings g q)) (adjoin p q)

neighbour_tests : (rings : ℕ) → rings ≤ 3 → every_three symmetries (8 * rings) (8 * rings) (neighbours_kept rings) ≡ true
unfolding neighbours_kept agrees adjoin follows inward source ring_from place_from
neighbour_tests zero h = refl
neighbour_tests (suc zero) h = refl
neighbour_tests (suc (suc zero)) h = refl
neighbour_tests (suc (suc (suc zero))) h = refl
neighbour_tests (suc (suc (suc (suc r)))) h = absurd (omega arith)

-- points adjoin where their sources do
pub adjoin_kept : (rings : ℕ) → rings ≤ 3 → (g p q : ℕ) → g < symmetries → p < 8 * rings → q < 8 * rings
    → adjoin (source rings g p) (source rings g q) ≡ adjoin p q
unfolding neighbours_kept
adjoin_kept rings few g p q a b c =
    agrees_is (adjoin (source rings g p) (source rings g q)) (adjoin p q)
    (every_three_lem symmetries (8 * rings) (8 * rings) (neighbours_kept rings) (neighbour_tests rings few) g p q a b c)

-- mills
comes_to : ℕ → ℕ → List ℕ → List ℕ → Bool
comes_to rings g l m = all (λ x. member (source rings g x) m) l && all (λ y. member (source rings (inverse g) y) l) m

mills_kept : ℕ → ℕ → Bool
mills_kept rings g = all (λ l. any (λ m. comes_to rings g l m) (mills rings)) (mills rings)

mill_tests : (rings : ℕ) → rings ≤ 3 → every symmetries (mills_kept rings) ≡ true
unfolding mills_kept comes_to mills ring_mills cross_mills source ring_from place_from inverse
mill_tests zero h = refl
mill_tests (suc zero) h = refl
mill_tests (suc (suc zero)) h = refl
mill_tests (suc (suc (suc zero))) h = refl
mill_tests (suc (suc (suc (suc r)))) h = absurd (omega arith)

-- the mill that a mill's sources are
pub record MillFrom (rings g : ℕ) (l : List ℕ) : Type 0 where
  pub mill : List ℕ
  pub is_mill : Memᴰ mill (mills rings)
  pub there : (x : ℕ) → Memᴰ x l → Memᴰ (source rings g x) mill
  pub back : (y : ℕ) → Memᴰ y mill → Memᴰ (source rings (inverse g) y) l

module _ (rings : ℕ) (few : rings ≤ 3) where
  pub mill_kept : (g : ℕ) → g < symmetries → (l : List ℕ) → Memᴰ l (mills rings) → MillFrom rings g l
  unfolding mills_kept comes_to
  mill_kept g h l i =
      let s = any_member _ (mills rings) (all_member _ (mills rings) (every_at symmetries (mills_kept rings) (mill_tests rings few) g h) l i) in
      let m = s.0 in
      let there = all_member (λ x. member (source rings g x) m) l (and_left _ _ s.2) in
      let back = all_member (λ y. member (source rings (inverse g) y) l) m (and_right (all (λ x. member (source rings g x) m) l) _ s.2) in
      record { mill = m; is_mill = s.1; there = λ x j. member_is _ m (there x j); back = λ y j. member_is _ l (back y j) }

  -- a full mill of the image is one of the board,
  mill_forth : (g : ℕ) → g < symmetries → (b : List ℕ) → length b ≡ 8 * rings → (v p : ℕ) → in_mill rings (holds (image rings g b) v) p ≡ true
      → in_mill rings (holds b v) (source rings g p) ≡ true
  mill_forth g h b points v p t =
      let c = image rings g b in
      let e = any_member _ (mills rings) (sym (in_mill_any rings (holds c v) p) ∙ t) in
      let l = e.0 in
      let k = mill_kept g h l e.1 in
      let own = member_is p l (and_left (member p l) _ e.2) in
      let full = all_member (holds c v) l (and_right (member p l) _ e.2) in
      in_mill_any rings (holds b v) (source rings g p)
      ∙ member_any _ (mills rings) k.is_mill
      (and_both (member (source rings g p) k.mill) _ (is_member (source rings g p) k.mill (k.there p own))
      (member_all (holds b v) k.mill (λ y m.
      let q = k.back y m in
      let low = mill_low rings few l e.1 (source rings (inverse g) y) q in
      let ly = mill_low rings few k.mill k.is_mill y m in
      ap (λ (x : ℕ). eqb x v) (ap (λ (i : ℕ). get_or b i 0) (sym (source_redo rings few g y h ly))
      ∙ sym (image_at rings g b (source rings (inverse g) y) (subst (λ (n : ℕ). source rings (inverse g) y < n) (sym points) low)))
      ∙ full (source rings (inverse g) y) q)))

  -- and the other way round
  pub mill_image : (g : ℕ) → g < symmetries → (b : List ℕ) → length b ≡ 8 * rings → (v p : ℕ) → p < 8 * rings
      → in_mill rings (holds (image rings g b) v) p ≡ in_mill rings (holds b v) (source rings g p)
  mill_image g h b points v p low =
      same_test (in_mill rings (holds (image rings g b) v) p) (in_mill rings (holds b v) (source rings g p)) (λ t. mill_forth g h b points v p t) (λ t.
      subst (λ (q : ℕ). in_mill rings (holds (image rings g b) v) q ≡ true) (source_undo rings few g p h low)
      (mill_forth (inverse g) (inverse_low g h) (image rings g b) (image_length rings g b ∙ points) v (source rings g p)
      (subst (λ (c : List ℕ). in_mill rings (holds c v) (source rings g p) ≡ true) (sym (image_back rings few b points g h)) t)))
