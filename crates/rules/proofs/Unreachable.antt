-- Positions that no game reaches: what the test says, on boards and on sets; and that plies lead from a position that passes it to such positions only,
-- under any rule by which a closed mill must remove a stone. Under edition 2 they need not: a worked board. Assumes nothing.
use mathlib.Core.Path.{◌≡◌, refl, sym, ap, ap₂, subst, ◌∙◌}
use mathlib.Core.Bool.{Bool, true, false, ◌&&◌, ◌||◌}
use mathlib.Core.List.{List, [], ◌∷◌, ◌++◌, map, Memᴰ}
use mathlib.Core.Logic.{◌⊎◌, inl, inr, ⊎_elim}
use Prim.Native.Nat.{ℕ, zero, suc, ◌*◌, ◌≤◌, ◌<◌}
use native.Mathlib.Omega.{arith}
use lib.Dec.{eqb}
use lib.ListN.{get_or, set, length, replicate}
use lib.Seq.{get_or-set_same, get_or-set_other}
use borrow.Author.Tests.{eqb-true, eqb-false, eq-eqb}
use Rattle.lists.specs.Lists.{all, any, member, or_else}
use Rattle.lists.proofs.Tests.{untrue, clash, and_left, and_right, and_both, or_cases, left_or, right_or, is_member, all_member, member_all, all_same}
use Rattle.lists.proofs.Tests.{any_member, member_any, any_same}
use Rattle.lists.proofs.Members.{get_d_member, or_else_only}
use Rattle.sets.specs.Sets.{has, members}
use Rattle.geometry.specs.Geometry.{points, follows, inward, adjoin, ring_mills, cross_mills, mills}
use Rattle.geometry.proofs.Geometry.{mill_low}
use Rattle.board.specs.Board.{Values, count, set_of}
use Rattle.board.proofs.Sides.{value_le, members_count}
use Rattle.board.proofs.Stores.{has_set}
use Rattle.rules.specs.Ply.{Rule, holds, holding, in_mill, destinations, slide, unshielded, if_all_shielded, removable, no_removal, removals}
use Rattle.rules.specs.Ply.{moves, remove, exchange, after_ply, successors}
use Rattle.rules.specs.Unreachable.{has_mill, nine_against_mill, unreachable}
use Rattle.rules.proofs.Listed.{Move, move_of, removals_with, successor_of, TakesOpponent, removable_are, shielded_any}
use Rattle.rules.proofs.Leads.{Removed, BeforeExchange, removed_of_lem, removed_before, listed_parts, after_parts, remove_none, remove_one, exchange_at, exchange_own}
use Rattle.rules.proofs.Leads.{exchange_counts, slide_counts, slide_length, slide_from, slide_other, slid_opposing}
use Rattle.rules.proofs.OnSets.{length_holding}
use Rattle.rules.proofs.Mills.{in_mill_any}

-- worked boards, point 0 first: nine opposing stones against a mill, and nine own ones; against three stones that are no mill; eight against a mill;
-- and nine against a mill on two rings
pub unreachable_cases : (unreachable 3 (1 ∷ 1 ∷ 1 ∷ replicate {A = ℕ} 9 2 ++ replicate {A = ℕ} 12 0) ≡ true)
    × (unreachable 3 (2 ∷ 2 ∷ 2 ∷ replicate {A = ℕ} 9 1 ++ replicate {A = ℕ} 12 0) ≡ true)
    × (unreachable 3 (1 ∷ 1 ∷ 0 ∷ 1 ∷ replicate {A = ℕ} 9 2 ++ replicate {A = ℕ} 11 0) ≡ false)
    × (unreachable 3 (1 ∷ 1 ∷ 1 ∷ replicate {A = ℕ} 8 2 ++ replicate {A = ℕ} 13 0) ≡ false)
    × (unreachable 2 (1 ∷ 1 ∷ 1 ∷ replicate {A = ℕ} 9 2 ++ replicate {A = ℕ} 4 0) ≡ false)
unfolding unreachable nine_against_mill has_mill ring_mills cross_mills mills
unreachable_cases = (refl, refl, refl, refl, refl)

-- some mill is full, by the mills
pub has_mill_any : (rings : ℕ) (own : ℕ → Bool) → has_mill rings own ≡ any (λ mill. all own mill) (mills rings)
unfolding has_mill
has_mill_any rings own = refl

-- a mill whose points all hold v
pub record Mill (rings : ℕ) (b : List ℕ) (v : ℕ) : Type 0 where
  pub points : List ℕ
  pub is_mill : Memᴰ points (mills rings)
  pub full : (q : ℕ) → Memᴰ q points → get_or b q 0 ≡ v

-- one side has nine stones, and the other a full mill
abbrev pub NineAgainstMill : ℕ → List ℕ → Type 0
NineAgainstMill rings b = ((count 1 b ≡ 9) × Mill rings b 2) ⊎ ((count 2 b ≡ 9) × Mill rings b 1)

module _ (rings : ℕ) (b : List ℕ) where
  nine_is : (v w : ℕ) → nine_against_mill rings b v w ≡ true → (count v b ≡ 9) × Mill rings b w
  unfolding nine_against_mill has_mill
  nine_is v w e =
      let (l, i, f) = any_member (λ mill. all (holds b w) mill) (mills rings) (and_right (eqb (count v b) 9) _ e) in (
        eqb-true (count v b) 9 (and_left _ _ e),
        record { points = l; is_mill = i; full = λ q k. eqb-true (get_or b q 0) w (all_member (holds b w) l f q k) },
      )

  is_nine : (v w : ℕ) → (count v b ≡ 9) × Mill rings b w → nine_against_mill rings b v w ≡ true
  unfolding nine_against_mill has_mill
  is_nine v w (n, m) =
      and_both (eqb (count v b) 9) _ (eq-eqb (count v b) 9 n) (member_any (λ mill. all (holds b w) mill) (mills rings) m.is_mill
      (member_all (holds b w) m.points (λ q k. eq-eqb (get_or b q 0) w (m.full q k))))

  -- what the test says
  pub unreachable_is : unreachable rings b ≡ true → (rings ≡ 3) × NineAgainstMill rings b
  unfolding unreachable
  unreachable_is e =
      let x = nine_against_mill rings b 1 2 in
      let y = nine_against_mill rings b 2 1 in (
        eqb-true rings 3 (and_left (eqb rings 3) (x || y) e),
        ⊎_elim (λ h. inl (nine_is 1 2 h)) (λ h. inr (nine_is 2 1 h)) (or_cases x y (and_right (eqb rings 3) (x || y) e)),
      )

  pub is_unreachable : rings ≡ 3 → NineAgainstMill rings b → unreachable rings b ≡ true
  unfolding unreachable
  is_unreachable r h = and_both (eqb rings 3) (x || y) (eq-eqb rings 3 r) (go h)
    where
      x : Bool
      x = nine_against_mill rings b 1 2

      y : Bool
      y = nine_against_mill rings b 2 1

      go : NineAgainstMill rings b → (x || y) ≡ true
      go (inl h) = left_or x y (is_nine 1 2 h)
      go (inr h) = right_or x y (is_nine 2 1 h)

  -- on three rings the sides decide
  pub three_rings : rings ≡ 3 → unreachable rings b ≡ (nine_against_mill rings b 1 2 || nine_against_mill rings b 2 1)
  unfolding unreachable
  three_rings r = ap (λ (t : Bool). t && (nine_against_mill rings b 1 2 || nine_against_mill rings b 2 1)) (eq-eqb rings 3 r)

  -- on one ring and on two every position passes
  pub fewer_rings : (rings ≡ 3 → ⊥) → unreachable rings b ≡ false
  fewer_rings n = sym (untrue (unreachable rings b) (λ e. n (unreachable_is e).0))

-- the test on a board's sets
pub nine_sets : (rings : ℕ) → rings ≤ 3 → (b : List ℕ) → length b ≡ 8 * rings → (v w : ℕ)
    → nine_against_mill rings b v w ≡ (eqb (members (set_of v b) 32) 9 && has_mill rings (λ q. has (set_of w b) q))
unfolding nine_against_mill has_mill
nine_sets rings small b whole v w =
    ap₂ (λ (n : ℕ) (t : Bool). eqb n 9 && t) (sym (members_count v b (omega (arith, whole))))
    (any_same (λ mill. all (holds b w) mill) (λ mill. all (λ q. has (set_of w b) q) mill) (mills rings)
    (λ l m. all_same (holds b w) (λ q. has (set_of w b) q) l
    (λ q k. sym (has_set w b q (subst (λ (n : ℕ). q < n) (sym whole) (mill_low rings small l m q k))))))

-- a rule by which a closed mill must remove a stone: it names one wherever an opposing stone stands
abbrev pub MustRemove : Rule → Type 0
MustRemove rule = (rings : ℕ) (b : List ℕ) (p : ℕ) → Memᴰ p (holding rings b 2) → (r : ℕ) × Memᴰ r (rule rings b)

pub removable_must : (edition : ℕ) → (edition ≡ 2 → ⊥) → MustRemove (removable edition)
removable_must edition n rings b p i =
    let e = removable_are edition rings b ∙ ap (or_else (unshielded rings b)) (shielded_any edition rings b n) in
    let (r, j) = pick (unshielded rings b) in
    (r, subst (λ (l : List ℕ). Memᴰ r l) (sym e) j)
  where
    pick : (l : List ℕ) → (r : ℕ) × Memᴰ r (or_else l (holding rings b 2))
    pick [] = (p, i)
    pick (x ∷ l) = (x, Memᴰ.head refl)

-- what a value was before the sides changed names
exchanged_one : (v : ℕ) → exchange v ≡ 1 → 2 ≤ v
unfolding exchange
exchanged_one zero e = absurd (omega arith)
exchanged_one (suc zero) e = absurd (omega arith)
exchanged_one (suc (suc v)) e = omega arith

exchanged_two : (v : ℕ) → exchange v ≡ 2 → v ≡ 1
exchanged_two v e = eqb-true v 1 (sym (exchange_own v) ∙ eq-eqb (exchange v) 2 e)

-- what holds a stone after a removal held it before
remove_kept : (b : List ℕ) (r p v : ℕ) → Removed b r → get_or (remove b r) p 0 ≡ suc v → get_or b p 0 ≡ suc v
remove_kept b r p v (inl e) h = sym (ap (λ (l : List ℕ). get_or l p 0) (remove_none b r e)) ∙ h
remove_kept b r p v (inr k) h = go (eqb p r) refl
  where
    one : get_or (set b r 0) p 0 ≡ suc v
    one = sym (ap (λ (l : List ℕ). get_or l p 0) (remove_one b r (λ e. omega (arith, k.1)))) ∙ h

    go : (t : Bool) → eqb p r ≡ t → get_or b p 0 ≡ suc v
    go true e =
        let z : get_or (set b r 0) p 0 ≡ 0 = ap (λ (i : ℕ). get_or (set b r 0) i 0) (eqb-true p r e) ∙ get_or-set_same b r 0 0 k.0 in
        absurd (omega (arith, z, one))
    go false e = sym (get_or-set_other b r p 0 0 (eqb-false p r e)) ∙ one

module _ (rule : Rule) (takes : TakesOpponent rule) (must : MustRemove rule) (rings : ℕ) (small : rings ≤ 3) (b : List ℕ) (v : Values b)
    (whole : length b ≡ 8 * rings) (few : count 2 b ≤ 9) where
  module _ (from to r : ℕ) (m : Move rule rings b from to r) where
    abbrev slid : List ℕ
    slid = slide b from to

    abbrev left : List ℕ
    left = remove slid r

    abbrev next : List ℕ
    next = map (λ x. exchange x) left

    from_in : from < length b
    from_in = omega (arith, m.from_low)

    to_in : to < length b
    to_in = omega (arith, m.to_low)

    removed : Removed slid r
    removed = removed_of_lem rule takes rings small b v whole from to r m

    before : BeforeExchange b left r
    before = removed_before b from to r from_in to_in m.own m.vacant v removed

    -- a mill of the side that is to move now stood there before
    old_mill : Mill rings next 1 → Mill rings b 2
    old_mill w = record { points = w.points; is_mill = w.is_mill; full = at }
      where
        two : (q : ℕ) → Memᴰ q w.points → get_or left q 0 ≡ 2
        two q k =
            let h = exchanged_one (get_or left q 0) (sym (exchange_at left q) ∙ w.full q k) in
            omega (arith, h, value_le left before.values q)

        at : (q : ℕ) → Memᴰ q w.points → get_or b q 0 ≡ 2
        at q k = slid_opposing b from to m.own m.vacant from_in to_in q (remove_kept slid r q 1 removed (two q k))

    -- a mill that the moved stone closes removes a stone
    closed_removes : 1 ≤ count 2 b → in_mill rings (holds slid 1) to ≡ true → r ≡ no_removal → ⊥
    closed_removes some e none =
        let n = slide_counts b from to from_in to_in m.own m.vacant in
        let l = length_holding rings small slid (slide_length b from to ∙ whole) 2 in
        let (x, j) = must rings slid (get_or (holding rings slid 2) 0 0) (get_d_member (holding rings slid 2) 0 0 (omega (arith, l, n.1))) in
        let k = subst (λ (l : List ℕ). Memᴰ r l) (removals_with rule rings slid to e) m.removal in
        let t = takes rings slid r (or_else_only (rule rings slid) (no_removal ∷ []) j k) in
        omega (arith, t.0)

    -- a mill of the side that moved, where no stone was removed: the moved stone is not in it, so it stood there before
    own_mill : r ≡ no_removal → 1 ≤ count 2 b → Mill rings next 2 → Mill rings b 1
    own_mill none some w = record { points = w.points; is_mill = w.is_mill; full = at }
      where
        one : (q : ℕ) → Memᴰ q w.points → get_or slid q 0 ≡ 1
        one q k = remove_kept slid r q 0 removed (exchanged_two (get_or left q 0) (sym (exchange_at left q) ∙ w.full q k))

        apart : Memᴰ to w.points → ⊥
        apart k =
            closed_removes some (in_mill_any rings (holds slid 1) to
            ∙ member_any (λ mill. member to mill && all (holds slid 1) mill) (mills rings) w.is_mill
            (and_both (member to w.points) (all (holds slid 1) w.points) (is_member to w.points k)
            (member_all (holds slid 1) w.points (λ q i. eq-eqb (get_or slid q 0) 1 (one q i))))) none

        at : (q : ℕ) → Memᴰ q w.points → get_or b q 0 ≡ 1
        at q k =
            sym (slide_other b from to m.own m.vacant q
            (λ e. let z = sym (ap (λ (i : ℕ). get_or slid i 0) e ∙ slide_from b from to m.own m.vacant from_in) ∙ one q k in omega arith)
            (λ e. apart (subst (λ (x : ℕ). Memᴰ x w.points) e k))) ∙ one q k

    -- nine stones against a mill after a ply: they stood so before it
    nine_before : NineAgainstMill rings next → NineAgainstMill rings b
    nine_before (inr h) = inl (sym ((exchange_counts left before.values).1 ∙ before.mover) ∙ h.0, old_mill h.1)
    nine_before (inl h) = go before.opponent
      where
        nine : count 2 left ≡ 9
        nine = sym (exchange_counts left before.values).0 ∙ h.0

        go : ((r ≡ no_removal) × (count 2 left ≡ count 2 b)) ⊎ ((r < 24) × (suc (count 2 left) ≡ count 2 b)) → NineAgainstMill rings b
        go (inl x) = inr (sym x.1 ∙ nine, own_mill x.0 (omega (arith, x.1, nine)) h.1)
        go (inr x) = absurd (omega (arith, x.1, nine, few))

  -- a ply from a board that passes the test leads to a board that passes it
  pub reachable_kept : unreachable rings b ≡ false → (c : List ℕ) → Memᴰ c (successors rule rings b) → unreachable rings c ≡ false
  reachable_kept pass c i = sym (untrue (unreachable rings c) fails)
    where
      fails : unreachable rings c ≡ true → ⊥
      fails e =
          let s = successor_of rule rings b c i in
          let l = move_of rule rings b s.0 s.1 in
          let q = listed_parts rule takes rings small b v whole s.0 l in
          let u = unreachable_is rings c e in
          let is = s.2 ∙ after_parts b s.0 l.from l.to l.removed q in
          clash (is_unreachable rings b u.0 (nine_before l.from l.to l.removed l.move
          (subst (λ (x : List ℕ). NineAgainstMill rings x) is u.1))) pass

-- Under edition 2 plies lead to such positions: this board passes the test, the stone from 13 to 21 closes a mill and removes none of nine stones, which
-- all stand in mills, and the board after it fails. Under edition 1 that is no move
abbrev pub shielded_nine : List ℕ
shielded_nine = 1 ∷ 2 ∷ 2 ∷ 2 ∷ 2 ∷ 0 ∷ 0 ∷ 0 ∷ 0 ∷ 2 ∷ 2 ∷ 2 ∷ 2 ∷ 1 ∷ 0 ∷ 0 ∷ 0 ∷ 2 ∷ 0 ∷ 1 ∷ 1 ∷ 0 ∷ 1 ∷ 0 ∷ []

pub edition_two_leaves : (unreachable 3 shielded_nine ≡ false) × (member 14015 (moves (removable 2) 3 shielded_nine) ≡ true)
    × (unreachable 3 (after_ply shielded_nine 14015) ≡ true) × (member 14015 (moves (removable 1) 3 shielded_nine) ≡ false)
unfolding unreachable nine_against_mill has_mill moves holding in_mill destinations slide unshielded if_all_shielded removable removals after_ply remove exchange points follows inward adjoin ring_mills cross_mills mills
edition_two_leaves = (refl, refl, refl, refl)
