-- The plies of an image are the images of the plies, for any rule of removal that names opposing stones and commutes with the symmetries: each
-- move of the image is, point by point, a move of the board, each move of the board one of the image, and the boards after them are images.
-- Assumes nothing.
use mathlib.Core.Path.{◌≡◌, refl, sym, ◌∙◌, ap, ap₂, subst}
use mathlib.Core.Bool.{Bool, true, false, ◌||◌, not}
use mathlib.Core.List.Memᴰ
use mathlib.Core.List.{List, [], ◌∷◌, map, Memᴰ}
use mathlib.Core.Logic.{◌⊎◌, inl, inr}
use Prim.Native.Nat.{ℕ, ◌*◌, ◌≤◌, ◌<◌}
use native.Mathlib.Omega.{arith}
use lib.Dec.{eqb}
use lib.ListN.{length}
use borrow.Author.Tests.{eqb-true, eqb-false}
use Rattle.lists.specs.Lists.{or_else}
use Rattle.lists.proofs.Members.{or_else_first, or_else_second}
use Rattle.rules.specs.Ply.{Rule, holds, holding, in_mill, slide, unshielded, if_all_shielded, removable, no_removal, removals, move_number, from_of, to_of, removed_of, moves, remove, exchange, after_ply, successors}
use Rattle.rules.proofs.Listed.{holding_is, is_holding, Move, Listed, move_of, of_move, removals_with, removals_without, removal_cases, TakesOpponent, successor_of, of_successor, unshielded_is, is_unshielded, removable_are, shielded_none, shielded_any}
use Rattle.rules.proofs.Leads.{Parts, parts_of, after_parts, after_length, slide_length}
use Rattle.symmetry.specs.Symmetries.{symmetries, source, image}
use Rattle.symmetry.proofs.Group.{inverse, inverse_low, inverse_inverse, source_none, source_low, source_undo}
use Rattle.symmetry.proofs.Images.{image_length, image_at}
use Rattle.symmetry.proofs.Compose.{image_back, image_forth, image_count}
use Rattle.invariance.proofs.Kept.{adjoin_kept, mill_image}
use Rattle.invariance.proofs.Stores.{PointOrNone, removed_back, image_exchange, slide_image, remove_image}

-- a move number with each of its points taken to its source; no removal stays none
unfoldable pub source_move : ℕ → ℕ → ℕ → ℕ
source_move rings g n = move_number (source rings g (from_of n)) (source rings g (to_of n)) (source rings g (removed_of n))

-- a rule of removal commutes with the symmetries: what it names on an image, it names on the board, at its source
abbrev pub Commutes : Rule → Type 0
Commutes rule = (rings : ℕ) → rings ≤ 3 → (g : ℕ) → g < symmetries → (b : List ℕ) → length b ≡ 8 * rings
    → (r : ℕ) → Memᴰ r (rule rings (image rings g b)) → Memᴰ (source rings g r) (rule rings b)

-- a first choice, or a second where there is no first: members carry over if the choices' members do
or_else_carried : (f : ℕ → ℕ) (l k o u : List ℕ) (x : ℕ) → ((y : ℕ) → Memᴰ y l → Memᴰ (f y) k)
    → ((y : ℕ) → Memᴰ y k → (z : ℕ) × Memᴰ z l) → (Memᴰ x o → Memᴰ (f x) u)
    → Memᴰ x (or_else l o) → Memᴰ (f x) (or_else k u)
or_else_carried f [] k o u x there back other m = or_else_second k u (λ y i. Memᴰ.not-nil (back y i).1) (other m)
or_else_carried f (a ∷ l) k o u x there back other m = or_else_first k u (there x m)

module _ (rule : Rule) (takes : TakesOpponent rule) (commutes : Commutes rule) (rings : ℕ) (few : rings ≤ 3) where
  removal_point : (b : List ℕ) (t r : ℕ) → Memᴰ r (removals rule rings b t) → PointOrNone rings r
  removal_point b t r m = go (removal_cases rule rings b t m)
    where
      go : (r ≡ no_removal) ⊎ Memᴰ r (rule rings b) → PointOrNone rings r
      go (inl e) = inl e
      go (inr i) = inr (takes rings b r i).0

  move_parts : (b : List ℕ) (n s t r : ℕ) → Move rule rings b s t r → n ≡ move_number s t r → Parts n s t r
  move_parts b n s t r v e = parts_of n s t r (omega (arith, v.to_low)) (go (removal_point (slide b s t) t r v.removal)) e
    where
      go : PointOrNone rings r → r < 32
      go (inl e) = omega arith
      go (inr l) = omega arith

  -- what may be removed on an image, may be removed on the board, at its source
  removals_image : (g : ℕ) → g < symmetries → (b : List ℕ) → length b ≡ 8 * rings → (t r : ℕ) → t < 8 * rings
      → Memᴰ r (removals rule rings (image rings g b) t) → Memᴰ (source rings g r) (removals rule rings b (source rings g t))
  removals_image g h b points t r low m = go (in_mill rings (holds b 1) (source rings g t)) refl
    where
      none : Memᴰ r (no_removal ∷ []) → Memᴰ (source rings g r) (no_removal ∷ [])
      none i = let e = Memᴰ.eq_of_singleton i in Memᴰ.head (source_none rings g r (omega arith) ∙ e)

      back : (x : ℕ) → Memᴰ x (rule rings b) → (z : ℕ) × Memᴰ z (rule rings (image rings g b))
      back x i = (
        source rings (inverse g) x,
        commutes rings few (inverse g) (inverse_low g h) (image rings g b) (image_length rings g b ∙ points) x
            (subst (λ (c : List ℕ). Memᴰ x (rule rings c)) (sym (image_back rings few b points g h)) i),
      )

      same : in_mill rings (holds (image rings g b) 1) t ≡ in_mill rings (holds b 1) (source rings g t)
      same = mill_image rings few g h b points 1 t low

      go : (c : Bool) → in_mill rings (holds b 1) (source rings g t) ≡ c → Memᴰ (source rings g r) (removals rule rings b (source rings g t))
      go true e =
          subst (λ (l : List ℕ). Memᴰ (source rings g r) l) (sym (removals_with rule rings b (source rings g t) e))
          (or_else_carried (λ x. source rings g x) (rule rings (image rings g b)) (rule rings b) (no_removal ∷ []) (no_removal ∷ []) r
          (λ x j. commutes rings few g h b points x j) back none
          (subst (λ (l : List ℕ). Memᴰ r l) (removals_with rule rings (image rings g b) t (same ∙ e)) m))
      go false e =
          subst (λ (l : List ℕ). Memᴰ (source rings g r) l) (sym (removals_without rule rings b (source rings g t) e))
          (none (subst (λ (l : List ℕ). Memᴰ r l) (removals_without rule rings (image rings g b) t (same ∙ e)) m))

  module _ (g : ℕ) (h : g < symmetries) (b : List ℕ) (points : length b ≡ 8 * rings) where
    -- a move of the image is a move of the board, point by point
    move_image : (s t r : ℕ) → Move rule rings (image rings g b) s t r → Move rule rings b (source rings g s) (source rings g t) (source rings g r)
    move_image s t r v =
        let k = slide b (source rings g s) (source rings g t) in
        record {
          from_low = source_low rings few g s h v.from_low;
          to_low = source_low rings few g t h v.to_low;
          own = sym (image_at rings g b s (omega (arith, v.from_low))) ∙ v.own;
          vacant = sym (image_at rings g b t (omega (arith, v.to_low))) ∙ v.vacant;
          reach =
              ap₂ (λ (x : ℕ) (z : Bool). eqb x 3 || z) (sym (image_count rings few b points g 1 h))
              (adjoin_kept rings few g s t h v.from_low v.to_low) ∙ v.reach;
          removal =
              removals_image g h k (slide_length b (source rings g s) (source rings g t) ∙ points) t r v.to_low
              (subst (λ (c : List ℕ). Memᴰ r (removals rule rings c t)) (slide_image rings few g h b points s t v.from_low v.to_low)
              v.removal);
        }

    -- a move n of the image, seen from the board
    pub record FromImage (n : ℕ) : Type 0 where
      pub listed : Memᴰ (source_move rings g n) (moves rule rings b)
      pub after_is : after_ply (image rings g b) n ≡ image rings g (after_ply b (source_move rings g n))
      pub back_is : source_move rings (inverse g) (source_move rings g n) ≡ n

    pub moves_image : (n : ℕ) → Memᴰ n (moves rule rings (image rings g b)) → FromImage n
    unfolding source_move
    moves_image n m = go (move_of rule rings (image rings g b) n m)
      where
        go : Listed rule rings (image rings g b) n → FromImage n
        go l =
            let v = l.move in
            let s = source rings g l.from in
            let t = source rings g l.to in
            let r = source rings g l.removed in
            let w = move_image l.from l.to l.removed v in
            let c = removal_point (slide (image rings g b) l.from l.to) l.to l.removed v.removal in
            let q = move_parts (image rings g b) n l.from l.to l.removed v l.number in
            let e : source_move rings g n ≡ move_number s t r = rw (q.from_is, q.to_is, q.removed_is) in
            let z = move_parts b (source_move rings g n) s t r w e in
            record {
              listed = subst (λ (i : ℕ). Memᴰ i (moves rule rings b)) (sym e) (of_move rule rings b s t r w);
              after_is =
                  after_parts (image rings g b) n l.from l.to l.removed q
                  ∙ ap (λ (x : List ℕ). map (λ v. exchange v) (remove x l.removed))
                  (slide_image rings few g h b points l.from l.to v.from_low v.to_low)
                  ∙ ap (λ (x : List ℕ). map (λ v. exchange v) x)
                  (remove_image rings few g h (slide b s t) (slide_length b s t ∙ points) l.removed c)
                  ∙ image_exchange rings few g h (remove (slide b s t) r)
                  ∙ ap (λ (x : List ℕ). image rings g x) (sym (after_parts b (source_move rings g n) s t r z));
              back_is =
                  rw (
                    z.from_is,
                    z.to_is,
                    z.removed_is,
                    source_undo rings few g l.from h v.from_low,
                    source_undo rings few g l.to h v.to_low,
                    removed_back rings few g h l.removed c,
                  )
                  (sym l.number);
            }

  module _ (g : ℕ) (h : g < symmetries) (b : List ℕ) (points : length b ≡ 8 * rings) where
    -- a move n of the board, seen from the image
    pub record ToImage (n : ℕ) : Type 0 where
      pub listed : Memᴰ (source_move rings (inverse g) n) (moves rule rings (image rings g b))
      pub after_is : image rings g (after_ply b n) ≡ after_ply (image rings g b) (source_move rings (inverse g) n)
      pub back_is : source_move rings g (source_move rings (inverse g) n) ≡ n

    pub image_moves : (n : ℕ) → Memᴰ n (moves rule rings b) → ToImage n
    image_moves n m =
        let c = image rings g b in
        let l = image_length rings g b ∙ points in
        let e = image_back rings few b points g h in
        let k = source_move rings (inverse g) n in
        let w = moves_image (inverse g) (inverse_low g h) c l n (subst (λ (x : List ℕ). Memᴰ n (moves rule rings x)) (sym e) m) in
        record {
          listed = w.listed;
          after_is =
              ap (λ (x : List ℕ). image rings g (after_ply x n)) (sym e) ∙ ap (λ (x : List ℕ). image rings g x) w.after_is
              ∙ image_forth rings few (after_ply c k) (after_length c k ∙ l) g h;
          back_is = subst (λ (i : ℕ). source_move rings i k ≡ n) (inverse_inverse g h) w.back_is;
        }

    -- each successor of the image is the image of a successor,
    pub successors_image : (c : List ℕ) → Memᴰ c (successors rule rings (image rings g b))
        → (d : List ℕ) × Memᴰ d (successors rule rings b) × (c ≡ image rings g d)
    successors_image c m =
        let a = successor_of rule rings (image rings g b) c m in
        let w = moves_image g h b points a.0 a.1 in
        (after_ply b (source_move rings g a.0), of_successor rule rings b (source_move rings g a.0) w.listed, a.2 ∙ w.after_is)

    -- and the image of each successor is a successor of the image
    pub image_successors : (d : List ℕ) → Memᴰ d (successors rule rings b)
        → Memᴰ (image rings g d) (successors rule rings (image rings g b))
    image_successors d m =
        let a = successor_of rule rings b d m in
        let w = image_moves a.0 a.1 in
        subst (λ (x : List ℕ). Memᴰ x (successors rule rings (image rings g b)))
        (sym (ap (λ (x : List ℕ). image rings g x) a.2 ∙ w.after_is))
        (of_successor rule rings (image rings g b) (source_move rings (inverse g) a.0) w.listed)

-- the stones of an image come from stones of the same side
holding_image : (rings : ℕ) → rings ≤ 3 → (g : ℕ) → g < symmetries → (b : List ℕ) → length b ≡ 8 * rings → (v p : ℕ)
    → Memᴰ p (holding rings (image rings g b) v) → Memᴰ (source rings g p) (holding rings b v)
holding_image rings few g h b points v p m =
    let s = holding_is rings (image rings g b) v p m in
    is_holding rings b v (source rings g p) (source_low rings few g p h s.0) (sym (image_at rings g b p (omega (arith, s.0))) ∙ s.1)

unshielded_commutes : Commutes (λ rings b. unshielded rings b)
unshielded_commutes rings few g h b points r m =
    let c = image rings g b in
    let s = unshielded_is rings c r m in
    let l = holding_is rings c 2 r s.0 in
    is_unshielded rings b (source rings g r) (holding_image rings few g h b points 2 r s.0)
    (ap not (sym (mill_image rings few g h b points 2 r l.0)) ∙ s.1)

-- what may be removed if all stand in mills
shielded_commutes : (edition : ℕ) → Commutes (if_all_shielded edition)
shielded_commutes edition rings few g h b points r m = go (eqb edition 2) refl
  where
    there : (l : List ℕ) → if_all_shielded edition rings (image rings g b) ≡ l → Memᴰ r l
    there l e = subst (λ (k : List ℕ). Memᴰ r k) e m

    go : (t : Bool) → eqb edition 2 ≡ t → Memᴰ (source rings g r) (if_all_shielded edition rings b)
    go true e = absurd (Memᴰ.not-nil (there [] (shielded_none edition rings (image rings g b) (eqb-true edition 2 e))))
    go false e =
        let n = eqb-false edition 2 e in
        subst (λ (k : List ℕ). Memᴰ (source rings g r) k) (sym (shielded_any edition rings b n))
        (holding_image rings few g h b points 2 r (there (holding rings (image rings g b) 2) (shielded_any edition rings (image rings g b) n)))

-- the rule of each edition commutes with the symmetries
pub removable_commutes : (edition : ℕ) → Commutes (removable edition)
removable_commutes edition rings few g h b points r m =
    let c = image rings g b in
    subst (λ (l : List ℕ). Memᴰ (source rings g r) l) (sym (removable_are edition rings b))
    (or_else_carried (λ p. source rings g p) (unshielded rings c) (unshielded rings b) (if_all_shielded edition rings c) (if_all_shielded edition rings b) r
    (λ x i. unshielded_commutes rings few g h b points x i)
    (λ x i. (
      source rings (inverse g) x,
      unshielded_commutes rings few (inverse g) (inverse_low g h) c (image_length rings g b ∙ points) x
          (subst (λ (y : List ℕ). Memᴰ x (unshielded rings y)) (sym (image_back rings few b points g h)) i),
    ))
    (λ i. shielded_commutes edition rings few g h b points r i) (subst (λ (l : List ℕ). Memᴰ r l) (removable_are edition rings c) m))
