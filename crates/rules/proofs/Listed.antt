-- A listed move, taken apart and put together: the stone, where it goes, and what it removes. Later proofs on plies go by this and not by the
-- lists. Assumes nothing.
use mathlib.Core.Path.{◌≡◌, refl, ap, subst}
use mathlib.Core.Bool.{Bool, true, false, not, ◌||◌}
use mathlib.Core.List.Memᴰ
use mathlib.Core.List.{List, [], ◌∷◌, map, Memᴰ}
use mathlib.Core.Logic.{◌⊎◌, inl, inr, ⊎_elim}
use Prim.Native.Nat.{ℕ, ◌*◌, ◌<◌}
use lib.Dec.{eqb}
use lib.ListN.{get_or}
use borrow.Author.Tests.{eqb-true, eqb-false, eq-eqb, ne_eqb}
use Rattle.lists.specs.Lists.{each, or_else}
use Rattle.lists.proofs.Members.{keep_member, member_keep, each_member, member_each, map_member, member_map, or_else_cases}
use Rattle.geometry.specs.Geometry.{points, adjoin}
use Rattle.board.specs.Board.{count}
use Rattle.geometry.proofs.Geometry.{point_low, low_point}
use Rattle.rules.specs.Ply.{Rule, holds, holding, in_mill, destinations, slide, unshielded, if_all_shielded, removable, no_removal, removals, move_number, stone_moves, moves, after_ply, successors}

module _ (rings : ℕ) (b : List ℕ) (v p : ℕ) where
  pub holding_is : Memᴰ p (holding rings b v) → (p < 8 * rings) × (get_or b p 0 ≡ v)
  unfolding holding
  holding_is m =
      let s = keep_member (holds b v) (points rings) m in
      (point_low rings p s.0, eqb-true (get_or b p 0) v s.1)

  pub is_holding : p < 8 * rings → get_or b p 0 ≡ v → Memᴰ p (holding rings b v)
  unfolding holding
  is_holding h e = member_keep (holds b v) (points rings) (low_point rings p h) (eq-eqb (get_or b p 0) v e)

-- a stone goes to a vacant point
pub destination_vacant : (rings : ℕ) (b : List ℕ) (from to : ℕ) → Memᴰ to (destinations rings b from) → (to < 8 * rings) × (get_or b to 0 ≡ 0)
unfolding destinations
destination_vacant rings b from to m = holding_is rings b 0 to (keep_member (λ q. eqb (count 1 b) 3 || adjoin from q) (holding rings b 0) m).0

-- that is a neighbour, or any with exactly three stones
pub destination_of : (rings : ℕ) (b : List ℕ) (from to : ℕ) → Memᴰ to (destinations rings b from) → (eqb (count 1 b) 3 || adjoin from to) ≡ true
unfolding destinations
destination_of rings b from to m = (keep_member (λ q. eqb (count 1 b) 3 || adjoin from q) (holding rings b 0) m).1

pub of_destination : (rings : ℕ) (b : List ℕ) (from to : ℕ) → to < 8 * rings → get_or b to 0 ≡ 0 → (eqb (count 1 b) 3 || adjoin from to) ≡ true
    → Memᴰ to (destinations rings b from)
unfolding destinations
of_destination rings b from to h v r = member_keep (λ q. eqb (count 1 b) 3 || adjoin from q) (holding rings b 0) (is_holding rings b 0 to h v) r

-- what makes a move a listed one
pub record Move (rule : Rule) (rings : ℕ) (b : List ℕ) (from to removed : ℕ) : Type 0 where
  pub from_low : from < 8 * rings
  pub to_low : to < 8 * rings
  pub own : get_or b from 0 ≡ 1
  pub vacant : get_or b to 0 ≡ 0
  pub reach : (eqb (count 1 b) 3 || adjoin from to) ≡ true
  pub removal : Memᴰ removed (removals rule rings (slide b from to) to)

-- a listed move with its number
pub record Listed (rule : Rule) (rings : ℕ) (b : List ℕ) (n : ℕ) : Type 0 where
  pub from : ℕ
  pub to : ℕ
  pub removed : ℕ
  pub number : n ≡ move_number from to removed
  pub move : Move rule rings b from to removed

module _ (rule : Rule) (rings : ℕ) (b : List ℕ) where
  pub move_of : (n : ℕ) → Memᴰ n (moves rule rings b) → Listed rule rings b n
  unfolding moves
  move_of n m =
      let x = each_member _ (holding rings b 1) m in
      let y = each_member _ (destinations rings b x.0) x.2 in
      let z = map_member _ (removals rule rings (slide b x.0 y.0) y.0) y.2 in
      let f = holding_is rings b 1 x.0 x.1 in
      let g = destination_vacant rings b x.0 y.0 y.1 in
      record {
        from = x.0;
        to = y.0;
        removed = z.0;
        number = z.2;
        move = record { from_low = f.0; to_low = g.0; own = f.1; vacant = g.1; reach = destination_of rings b x.0 y.0 y.1; removal = z.1 };
      }

  pub of_move : (from to removed : ℕ) → Move rule rings b from to removed → Memᴰ (move_number from to removed) (moves rule rings b)
  unfolding moves
  of_move from to removed v =
      member_each _ (holding rings b 1) from (is_holding rings b 1 from v.from_low v.own)
      (member_each _ (destinations rings b from) to (of_destination rings b from to v.to_low v.vacant v.reach)
      (member_map (λ r. move_number from to r) (removals rule rings (slide b from to) to) v.removal))

  -- what a slide may remove, by whether it closes a mill
  pub removals_without : (to : ℕ) → in_mill rings (holds b 1) to ≡ false → removals rule rings b to ≡ no_removal ∷ []
  unfolding removals
  removals_without to e = rw (e, removals)

  pub removals_with : (to : ℕ) → in_mill rings (holds b 1) to ≡ true → removals rule rings b to ≡ or_else (rule rings b) (no_removal ∷ [])
  unfolding removals
  removals_with to e = rw (e, removals)

  -- a removal is none, or one that the rule names
  pub removal_cases : (to : ℕ) {r : ℕ} → Memᴰ r (removals rule rings b to) → (r ≡ no_removal) ⊎ Memᴰ r (rule rings b)
  removal_cases to {r} m = go (in_mill rings (holds b 1) to) refl
    where
      go : (c : Bool) → in_mill rings (holds b 1) to ≡ c → (r ≡ no_removal) ⊎ Memᴰ r (rule rings b)
      go true e =
          ⊎_elim (λ i. inr i) (λ i. inl (Memᴰ.eq_of_singleton i))
          (or_else_cases (rule rings b) (no_removal ∷ []) (subst (λ (l : List ℕ). Memᴰ r l) (removals_with to e) m))
      go false e = inl (Memᴰ.eq_of_singleton (subst (λ (l : List ℕ). Memᴰ r l) (removals_without to e) m))

  -- the list, stone by stone
  pub moves_are : moves rule rings b ≡ each (λ from. stone_moves rule rings b from (destinations rings b from)) (holding rings b 1)
  unfolding moves
  moves_are = refl

  -- the boards after the listed moves
  pub successors_are : successors rule rings b ≡ map (λ n. after_ply b n) (moves rule rings b)
  unfolding successors
  successors_are = refl

  -- a successor is the board after a listed move
  pub successor_of : (c : List ℕ) → Memᴰ c (successors rule rings b) → (n : ℕ) × Memᴰ n (moves rule rings b) × (c ≡ after_ply b n)
  unfolding successors
  successor_of c m = map_member (λ n. after_ply b n) (moves rule rings b) m

  pub of_successor : (n : ℕ) → Memᴰ n (moves rule rings b) → Memᴰ (after_ply b n) (successors rule rings b)
  unfolding successors
  of_successor n m = member_map (λ n. after_ply b n) (moves rule rings b) m

-- a rule of removal names opposing stones on the board
abbrev pub TakesOpponent : Rule → Type 0
TakesOpponent rule = (rings : ℕ) (b : List ℕ) (r : ℕ) → Memᴰ r (rule rings b) → (r < 8 * rings) × (get_or b r 0 ≡ 2)

-- who stands outside any mill
pub unshielded_is : (rings : ℕ) (b : List ℕ) (r : ℕ) → Memᴰ r (unshielded rings b)
    → Memᴰ r (holding rings b 2) × (not (in_mill rings (holds b 2) r) ≡ true)
unfolding unshielded
unshielded_is rings b r m = keep_member (λ p. not (in_mill rings (holds b 2) p)) (holding rings b 2) m

pub is_unshielded : (rings : ℕ) (b : List ℕ) (r : ℕ) → Memᴰ r (holding rings b 2) → not (in_mill rings (holds b 2) r) ≡ true
    → Memᴰ r (unshielded rings b)
unfolding unshielded
is_unshielded rings b r m e = member_keep (λ p. not (in_mill rings (holds b 2) p)) (holding rings b 2) m e

-- who may be removed by the rule of an edition
module _ (edition rings : ℕ) (b : List ℕ) where
  pub removable_are : removable edition rings b ≡ or_else (unshielded rings b) (if_all_shielded edition rings b)
  unfolding removable
  removable_are = refl

  -- if all stand in mills: none under edition 2, and any under another
  pub shielded_none : edition ≡ 2 → if_all_shielded edition rings b ≡ []
  unfolding if_all_shielded
  shielded_none e = ap (λ (t : Bool). elim t as (λ c. List ℕ) [ true ↦ [] | false ↦ holding rings b 2 ]) (eq-eqb edition 2 e)

  pub shielded_any : (edition ≡ 2 → ⊥) → if_all_shielded edition rings b ≡ holding rings b 2
  unfolding if_all_shielded
  shielded_any n = ap (λ (t : Bool). elim t as (λ c. List ℕ) [ true ↦ [] | false ↦ holding rings b 2 ]) (ne_eqb edition 2 n)

  pub shielded_cases : (if_all_shielded edition rings b ≡ []) ⊎ (if_all_shielded edition rings b ≡ holding rings b 2)
  shielded_cases = go (eqb edition 2) refl
    where
      go : (t : Bool) → eqb edition 2 ≡ t → (if_all_shielded edition rings b ≡ []) ⊎ (if_all_shielded edition rings b ≡ holding rings b 2)
      go true e = inl (shielded_none (eqb-true edition 2 e))
      go false e = inr (shielded_any (eqb-false edition 2 e))

  pub shielded_holding : (r : ℕ) → Memᴰ r (if_all_shielded edition rings b) → Memᴰ r (holding rings b 2)
  shielded_holding r m = go shielded_cases
    where
      go : (if_all_shielded edition rings b ≡ []) ⊎ (if_all_shielded edition rings b ≡ holding rings b 2) → Memᴰ r (holding rings b 2)
      go (inl e) = absurd (Memᴰ.not-nil (subst (λ (l : List ℕ). Memᴰ r l) e m))
      go (inr e) = subst (λ (l : List ℕ). Memᴰ r l) e m

-- they are opposing stones
pub removable_takes : (edition : ℕ) → TakesOpponent (removable edition)
removable_takes edition rings b r m =
    ⊎_elim (λ k. holding_is rings b 2 r (unshielded_is rings b r k).0) (λ k. holding_is rings b 2 r (shielded_holding edition rings b r k))
    (or_else_cases (unshielded rings b) (if_all_shielded edition rings b) (subst (λ (l : List ℕ). Memᴰ r l) (removable_are edition rings b) m))
