-- Every ply is found from the board that it leads to, for any rule of removal that names opposing stones; and what is found is a board of the same
-- points, with the stones that such a ply leaves in place. Assumes nothing.
use mathlib.Core.Path.{◌≡◌, refl, sym, ap, ap₂, subst, ◌∙◌}
use mathlib.Core.Bool.{Bool, true, false, not, ◌||◌, or_comm}
use mathlib.Core.List.Memᴰ
use mathlib.Core.List.{List, [], ◌∷◌, map, Memᴰ}
use mathlib.Core.Logic.{◌⊎◌, inl, inr}
use Prim.Native.Nat.{ℕ, zero, suc, ◌+◌, ◌*◌, ◌≤◌, ◌<◌}
use native.Mathlib.Omega.{arith}
use lib.Dec.{eqb}
use lib.ListN.{get_or, set, length, length-set, length-map}
use lib.Seq.{get_or-set_same, get_or-set_other, set-get_or, set-set, set_comm}
use borrow.Author.Tests.{eqb-true, eqb-false, ne_eqb, not-true}
use Rattle.lists.proofs.Members.{keep_member, member_keep, each_member, member_each, map_member, member_map}
use Rattle.geometry.specs.Geometry.{follows, inward, adjoin}
use Rattle.board.specs.Board.{Values, count, digit}
use Rattle.rules.specs.Ply.{Rule, holds, holding, in_mill, slide, no_removal, removals, remove, exchange, successors}
use Rattle.rules.specs.Predecessors.{moved, origins, unslide, restored, predecessors}
use Rattle.rules.proofs.Listed.{Move, move_of, holding_is, is_holding, removals_without, successor_of, TakesOpponent}
use Rattle.rules.proofs.Leads.{other_point, apart, slide_to, slide_from, slide_other, Removed, BeforeExchange, removed_of_lem, removed_before, listed_parts, after_parts, remove_none, remove_one, exchange_at, exchange_own, exchange_counts, exchange_values, slide_counts, slide_length, slide_values, count_set, values_set}
use Rattle.rules.proofs.Mills.{in_mill_same}

-- neighbours of each other
pub adjoin_both : (p q : ℕ) → adjoin p q ≡ adjoin q p
unfolding adjoin
adjoin_both p q = ap₂ ◌||◌ (or_comm (follows p q) (follows q p)) (or_comm (inward p q) (inward q p))

-- the sides change names twice
exchange_twice : (b : List ℕ) → Values b → map (λ v. exchange v) (map (λ v. exchange v) b) ≡ b
unfolding exchange
exchange_twice [] h = refl
exchange_twice (zero ∷ b) h = ap (λ (l : List ℕ). 0 ∷ l) (exchange_twice b h.1)
exchange_twice (suc zero ∷ b) h = ap (λ (l : List ℕ). 1 ∷ l) (exchange_twice b h.1)
exchange_twice (suc (suc zero) ∷ b) h = ap (λ (l : List ℕ). 2 ∷ l) (exchange_twice b h.1)
exchange_twice (suc (suc (suc v)) ∷ b) h = absurd (omega arith)

exchange_of : (b : List ℕ) (p x : ℕ) → get_or b p 0 ≡ x → get_or (map (λ v. exchange v) b) p 0 ≡ exchange x
exchange_of b p x e = exchange_at b p ∙ ap (λ y. exchange y) e

-- a slide taken back
module _ (b : List ℕ) (from to : ℕ) (own : get_or b from 0 ≡ 1) (vacant : get_or b to 0 ≡ 0) where
  slide_back : slide (slide b from to) to from ≡ b
  unfolding slide
  slide_back =
      ap (λ (l : List ℕ). set l from 1)
      (set-set (set b from 0) to 1 0 ∙ ap (set (set b from 0) to) (sym (get_or-set_other b from to 0 0 (apart b from to own vacant) ∙ vacant)) ∙ set-get_or (set b from 0) to 0)
      ∙ set-set b from 0 1 ∙ ap (set b from) (sym own) ∙ set-get_or b from 0

-- a store elsewhere may come before a slide or after it
set_slide : (b : List ℕ) (from to p x : ℕ) → (from ≡ p → ⊥) → (to ≡ p → ⊥) → set (slide b from to) p x ≡ slide (set b p x) from to
unfolding slide
set_slide b from to p x f t = set_comm (set b from 0) to p 1 x t ∙ ap (λ (l : List ℕ). set l to 1) (set_comm b from p 0 x f)

-- what makes a board one of those before a ply
is_predecessor : (capture : Bool) (rings : ℕ) (c b : List ℕ) (from to : ℕ) → Memᴰ to (moved capture rings c) → Memᴰ from (origins rings c to)
    → Memᴰ b (restored capture rings c to from) → Memᴰ b (predecessors capture rings c)
unfolding predecessors
is_predecessor capture rings c b from to m o k = member_each _ (moved capture rings c) to m (member_each _ (origins rings c to) from o k)

-- a stone is removed only where a mill is closed
removal_closes : (rule : Rule) (rings : ℕ) (b : List ℕ) (to r : ℕ) → Memᴰ r (removals rule rings b to) → (r ≡ no_removal → ⊥)
    → in_mill rings (holds b 1) to ≡ true
removal_closes rule rings b to r m n = go (in_mill rings (holds b 1) to) refl
  where
    go : (c : Bool) → in_mill rings (holds b 1) to ≡ c → in_mill rings (holds b 1) to ≡ true
    go true e = e
    go false e = absurd (n (Memᴰ.eq_of_singleton (subst (λ (l : List ℕ). Memᴰ r l) (removals_without rule rings b to e) m)))

-- the board once the sides have changed names: the side that moved is 2 there
module _ (rings : ℕ) (d : List ℕ) (v : Values d) where
  abbrev after : List ℕ
  after = map (λ x. exchange x) d

  stone_after : (p : ℕ) → p < 8 * rings → get_or d p 0 ≡ 1 → Memᴰ p (holding rings after 2)
  unfolding exchange
  stone_after p h e = is_holding rings after 2 p h (exchange_of d p 1 e)

  vacant_after : (p : ℕ) → p < 8 * rings → get_or d p 0 ≡ 0 → Memᴰ p (holding rings after 0)
  unfolding exchange
  vacant_after p h e = is_holding rings after 0 p h (exchange_of d p 0 e)

  origin_after : (from to : ℕ) → from < 8 * rings → get_or d from 0 ≡ 0 → (eqb (count 1 d) 3 || adjoin from to) ≡ true → Memᴰ from (origins rings after to)
  unfolding origins
  origin_after from to h e reach =
      member_keep _ (holding rings after 0) (vacant_after from h e)
      (ap₂ (λ (n : ℕ) (near : Bool). eqb n 3 || near) (exchange_counts d v).1 (adjoin_both to from) ∙ reach)

  back_after : (from to : ℕ) → unslide after to from ≡ slide d to from
  unfolding unslide
  back_after from to = ap (λ (l : List ℕ). slide l to from) (exchange_twice d v)

-- the board before a move is among those before the board after it
module _ (rule : Rule) (rings : ℕ) (small : rings ≤ 3) (b : List ℕ) (points : length b ≡ 8 * rings) (from to r : ℕ)
    (m : Move rule rings b from to r) where
  abbrev slid : List ℕ
  slid = slide b from to

  at_to : get_or slid to 0 ≡ 1
  at_to = slide_to b from to m.own m.vacant (omega (arith, m.to_low))

  at_from : get_or slid from 0 ≡ 0
  at_from = slide_from b from to m.own m.vacant (omega (arith, m.from_low))

  back : slide slid to from ≡ b
  back = slide_back b from to m.own m.vacant

  reach_kept : (d : List ℕ) → count 1 d ≡ count 1 b → (eqb (count 1 d) 3 || adjoin from to) ≡ true
  reach_kept d e = ap (λ (n : ℕ). eqb n 3 || adjoin from to) e ∙ m.reach

  found_none : BeforeExchange b slid r → Memᴰ b (predecessors false rings (map (λ x. exchange x) slid))
  unfolding moved restored
  found_none w =
      is_predecessor false rings (after rings slid w.values) b from to
      (stone_after rings slid w.values to m.to_low at_to)
      (origin_after rings slid w.values from to m.from_low at_from (reach_kept slid w.mover))
      (Memᴰ.head (sym (back_after rings slid w.values from to ∙ back)))

  module _ (low : r < 8 * rings) (taken : get_or slid r 0 ≡ 2) (w : BeforeExchange b (set slid r 0) r) where
    abbrev left : List ℕ
    left = set slid r 0

    abbrev next : List ℕ
    next = map (λ x. exchange x) left

    to_stays : to ≡ r → ⊥
    to_stays = other_point slid to r at_to taken (λ z. omega arith)

    from_stays : from ≡ r → ⊥
    from_stays = other_point slid from r at_from taken (λ z. omega arith)

    -- the removed stone counted towards no mill of the side that moved
    same_side : (q : ℕ) → holds next 2 q ≡ holds slid 1 q
    unfolding exchange
    same_side q = ap (λ (x : ℕ). eqb x 2) (exchange_at left q) ∙ exchange_own (get_or left q 0) ∙ go (eqb q r) refl
      where
        go : (t : Bool) → eqb q r ≡ t → eqb (get_or left q 0) 1 ≡ eqb (get_or slid q 0) 1
        go true e = rw (eqb-true q r e, get_or-set_same slid r 0 0 (omega (arith, slide_length b from to)), taken)
        go false e = ap (λ (x : ℕ). eqb x 1) (get_or-set_other slid r q 0 0 (eqb-false q r e))

    mill_stays : (r ≡ no_removal → ⊥) → in_mill rings (holds next 2) to ≡ true
    mill_stays n =
        in_mill_same rings small (holds next 2) (holds slid 1) (λ q h. same_side q) to ∙ removal_closes rule rings slid to r m.removal n

    put_back : set (unslide next to from) r 2 ≡ b
    put_back =
        ap (λ (l : List ℕ). set l r 2) (back_after rings left w.values from to) ∙ set_slide left to from r 2 to_stays from_stays
        ∙ ap (λ (l : List ℕ). slide l to from) (set-set slid r 0 2 ∙ ap (set slid r) (sym taken) ∙ set-get_or slid r 0) ∙ back

    found_one : Memᴰ b (predecessors true rings next)
    unfolding moved restored
    found_one =
        is_predecessor true rings next b from to
        (member_keep _ (holding rings next 2)
        (stone_after rings left w.values to m.to_low (get_or-set_other slid r to 0 0 to_stays ∙ at_to)) (mill_stays (λ e. omega arith)))
        (origin_after rings left w.values from to m.from_low (get_or-set_other slid r from 0 0 from_stays ∙ at_from) (reach_kept left w.mover))
        (subst (λ (l : List ℕ). Memᴰ l (restored true rings next to from)) put_back
        (member_map _ _ (member_keep _ (holding rings next 0)
        (vacant_after rings left w.values r low (get_or-set_same slid r 0 0 (omega (arith, slide_length b from to))))
        (ap not (ne_eqb r from (λ e. from_stays (sym e)))))))

-- b is among the boards before c, by a ply that removed no stone or by one that removed one
abbrev pub Predecessor : ℕ → List ℕ → List ℕ → Type 0
Predecessor rings b c =
    (Memᴰ b (predecessors false rings c) × (count 1 c ≡ count 2 b)) ⊎ (Memᴰ b (predecessors true rings c) × (suc (count 1 c) ≡ count 2 b))

module _ (rule : Rule) (takes : TakesOpponent rule) (rings : ℕ) (small : rings ≤ 3) (b : List ℕ) (v : Values b)
    (points : length b ≡ 8 * rings) where
  found_move : (from to r : ℕ) → Move rule rings b from to r → Predecessor rings b (map (λ x. exchange x) (remove (slide b from to) r))
  found_move from to r m =
      let g = removed_of_lem rule takes rings small b v points from to r m in
      let w = removed_before b from to r (omega (arith, m.from_low)) (omega (arith, m.to_low)) m.own m.vacant v g in
      go g w (exchange_counts left w.values).0 w.opponent
    where
      left : List ℕ
      left = remove (slide b from to) r

      go : Removed (slide b from to) r → BeforeExchange b left r → count 1 (map (λ x. exchange x) left) ≡ count 2 left
          → ((r ≡ no_removal) × (count 2 left ≡ count 2 b)) ⊎ ((r < 24) × (suc (count 2 left) ≡ count 2 b)) → Predecessor rings b (map (λ x. exchange x) left)
      go g w n (inl x) =
          let e = remove_none (slide b from to) r x.0 in
          inl (rw e (found_none rule rings small b points from to r m (rw e at w)), n ∙ x.1)
      go (inl y) w n (inr x) = absurd (omega (arith, x.0))
      go (inr y) w n (inr x) =
          let e = remove_one (slide b from to) r (λ z. omega (arith, x.0)) in
          inr (rw e (found_one rule rings small b points from to r m (omega (arith, y.0, slide_length b from to)) y.2 (rw e at w)), ap suc n ∙ x.1)

  pub found : (c : List ℕ) → Memᴰ c (successors rule rings b) → Predecessor rings b c
  found c i =
      let s = successor_of rule rings b c i in
      let l = move_of rule rings b s.0 s.1 in
      let q = listed_parts rule takes rings small b v points s.0 l in
      rw (s.2, after_parts b s.0 l.from l.to l.removed q) (found_move l.from l.to l.removed l.move)

-- what is found: boards of the same points, with the side that moved as it was and the other with a stone more where one was removed
pub record PredecessorOf (capture : Bool) (rings : ℕ) (c b : List ℕ) : Type 0 where
  pub values : Values b
  pub points : length b ≡ 8 * rings
  pub mover : count 1 b ≡ count 2 c
  pub opponent : count 2 b ≡ count 1 c + digit capture

-- a stone taken back from one point to another
module _ (rings : ℕ) (c : List ℕ) (v : Values c) (whole : length c ≡ 8 * rings) (from to : ℕ) (hf : from < 8 * rings) (ht : to < 8 * rings)
    (stone : get_or c to 0 ≡ 2) (vacant : get_or c from 0 ≡ 0) where
  abbrev named : List ℕ
  named = map (λ x. exchange x) c

  named_length : length named ≡ 8 * rings
  named_length = length-map c (λ x. exchange x) ∙ whole

  named_stone : get_or named to 0 ≡ 1
  unfolding exchange
  named_stone = exchange_of c to 2 stone

  named_vacant : (p : ℕ) → get_or c p 0 ≡ 0 → get_or named p 0 ≡ 0
  unfolding exchange
  named_vacant p e = exchange_of c p 0 e

  slid_back : PredecessorOf false rings c (unslide c to from)
  unfolding unslide
  slid_back =
      let n = slide_counts named to from (omega (arith, named_length)) (omega (arith, named_length)) named_stone (named_vacant from vacant) in
      let x = exchange_counts c v in
      record {
        values = slide_values named to from (exchange_values c);
        points = slide_length named to from ∙ named_length;
        mover = n.0 ∙ x.0;
        opponent = omega (arith, n.1, x.1);
      }

  stood_again : (p : ℕ) → p < 8 * rings → get_or c p 0 ≡ 0 → (p ≡ from → ⊥) → PredecessorOf true rings c (set (unslide c to from) p 2)
  unfolding unslide
  stood_again p h e n =
      let s = slid_back in
      let still : get_or (slide named to from) p 0 ≡ 0 =
      slide_other named to from named_stone (named_vacant from vacant) p
      (other_point named p to (named_vacant p e) named_stone (λ z. omega arith)) n ∙ named_vacant p e in
      let k₁ = rw still at (count_set 1 (slide named to from) p 2 (omega (arith, s.points))) in
      let k₂ = rw still at (count_set 2 (slide named to from) p 2 (omega (arith, s.points))) in
      record {
        values = values_set (slide named to from) p 2 (omega arith) s.values;
        points = length-set (slide named to from) p 2 ∙ s.points;
        mover = omega (arith, k₁, s.mover);
        opponent = omega (arith, k₂, s.opponent);
      }

-- the members, taken apart
moved_is : (capture : Bool) (rings : ℕ) (c : List ℕ) (to : ℕ) → Memᴰ to (moved capture rings c) → (to < 8 * rings) × (get_or c to 0 ≡ 2)
unfolding moved
moved_is true rings c to m = holding_is rings c 2 to (keep_member _ (holding rings c 2) m).0
moved_is false rings c to m = holding_is rings c 2 to m

origin_is : (rings : ℕ) (c : List ℕ) (from to : ℕ) → Memᴰ from (origins rings c to) → (from < 8 * rings) × (get_or c from 0 ≡ 0)
unfolding origins
origin_is rings c from to m = holding_is rings c 0 from (keep_member _ (holding rings c 0) m).0

restored_is : (capture : Bool) (rings : ℕ) (c : List ℕ) → Values c → length c ≡ 8 * rings → (from to : ℕ) → (from < 8 * rings) × (get_or c from 0 ≡ 0)
    → (to < 8 * rings) × (get_or c to 0 ≡ 2) → (b : List ℕ) → Memᴰ b (restored capture rings c to from) → PredecessorOf capture rings c b
unfolding restored
restored_is false rings c v whole from to f t b m = rw (Memᴰ.eq_of_singleton m) (slid_back rings c v whole from to f.0 t.0 t.1 f.1)
restored_is true rings c v whole from to f t b m =
    let s = map_member _ _ m in
    let k = keep_member _ (holding rings c 0) s.1 in
    let h = holding_is rings c 0 s.0 k.0 in
    rw s.2 (stood_again rings c v whole from to f.0 t.0 t.1 f.1 s.0 h.0 h.1
    (eqb-false s.0 from (not-true (eqb s.0 from) k.1)))

pub predecessor_of : (capture : Bool) (rings : ℕ) (c : List ℕ) → Values c → length c ≡ 8 * rings → (b : List ℕ)
    → Memᴰ b (predecessors capture rings c) → PredecessorOf capture rings c b
unfolding predecessors
predecessor_of capture rings c v whole b m =
    let x = each_member _ (moved capture rings c) m in
    let y = each_member _ (origins rings c x.0) x.2 in
    restored_is capture rings c v whole y.0 x.0 (origin_is rings c y.0 x.0 y.1) (moved_is capture rings c x.0 x.1) b y.2
