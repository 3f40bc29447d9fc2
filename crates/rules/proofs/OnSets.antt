-- The definitions of a ply on a board's sets: where the stones are, what a slide leaves, who may be removed and where a stone may go. The functions
-- work on these. Assumes nothing.
use mathlib.Core.Path.{◌≡◌, refl, sym, ap, ap₂, subst, ◌∙◌}
use mathlib.Core.Bool.{Bool, true, false, not, ◌||◌}
use mathlib.Core.List.{List, [], ◌∷◌, map, Memᴰ}
use mathlib.Core.Logic.{◌⊎◌, inl, inr}
use Prim.Native.Nat.{ℕ, zero, suc, ◌+◌, ◌*◌, ◌^◌, ◌≤◌, ◌<◌, min}
use native.Mathlib.Nat.{lt_of_lt_of_le}
use native.Mathlib.Omega.{arith}
use lib.Bits.{bit_and, and_le_l}
use lib.Dec.{eqb}
use lib.ListN.{length, get_or, set, length-set}
use lib.Pow.{pow_mono}
use borrow.Author.Tests.{eq-eqb, ne_eqb}
use Rattle.lists.specs.Lists.{range, keep, or_else}
use Rattle.lists.proofs.Members.{keep_member, member_keep}
use Rattle.lists.proofs.Tests.{keep_same}
use Rattle.sets.specs.Sets.{bit, has, with, without, elements, set_from}
use Rattle.sets.proofs.Laws.{bit_and_lem, bit_cases, same_set, without_absent}
use Rattle.sets.proofs.Elements.{length_elements, elements_is, is_element, elements_more, from_elements, from_lt, bit_from, from_bit, from_first, from_second, from_one}
use Rattle.geometry.specs.Geometry.{points, adjoin, neighbours}
use Rattle.board.specs.Board.{Values, count, digit, set_of}
use Rattle.geometry.proofs.Geometry.{points_are, low_point, neighbours_are}
use Rattle.board.proofs.Sides.{members_count, set_lt, bit_set, set_none, set_cons}
use Rattle.board.proofs.Stores.{has_set, elements_set, set_with, set_without}
use Rattle.rules.specs.Ply.{Rule, holds, holding, in_mill, destinations, slide, unshielded, if_all_shielded, removable, no_removal, removals, exchange}
use Rattle.rules.proofs.Listed.{destination_vacant, removals_without, removals_with, removable_are}
use Rattle.rules.proofs.Leads.{slide_length}
use Rattle.rules.proofs.Mills.{in_mill_same}

module _ (rings : ℕ) (small : rings ≤ 3) (b : List ℕ) (whole : length b ≡ 8 * rings) where
  -- a board's sets are sets of its points
  pub set_within : (v : ℕ) → set_of v b < 2 ^ (8 * rings)
  set_within v = subst (λ (n : ℕ). set_of v b < 2 ^ n) whole (set_lt v b)

  pub holding_set : (v : ℕ) → holding rings b v ≡ elements 32 (set_of v b)
  unfolding holding
  holding_set v =
      ap (keep (holds b v)) (points_are rings) ∙
      sym (elements_more (8 * rings) 32 (set_of v b) (set_within v) (omega arith)
      ∙ subst (λ (n : ℕ). elements n (set_of v b) ≡ keep (holds b v) (range 0 n)) whole (elements_set v b))

  pub length_holding : (v : ℕ) → length (holding rings b v) ≡ count v b
  length_holding v = ap length (holding_set v) ∙ length_elements 32 (set_of v b) ∙ members_count v b (omega (arith, whole))

  pub from_holding : (v : ℕ) → set_from (holding rings b v) ≡ set_of v b
  from_holding v =
      ap set_from (holding_set v)
      ∙ from_elements 32 (set_of v b) (lt_of_lt_of_le (set_within v) (pow_mono {i = 8 * rings} {j = 32} (omega arith)))

  pub in_mill_set : (v p : ℕ) → in_mill rings (holds b v) p ≡ in_mill rings (λ q. has (set_of v b) q) p
  in_mill_set v p =
      in_mill_same rings small (holds b v) (λ q. has (set_of v b) q)
      (λ q h. sym (has_set v b q (subst (λ (n : ℕ). q < n) (sym whole) h))) p

-- who may be removed, by the opponent's set alone
abbrev pub unshielded_of : ℕ → ℕ → List ℕ
unshielded_of rings s = keep (λ p. not (in_mill rings (λ q. has s q) p)) (elements 32 s)

pub unshielded_set : (rings : ℕ) → rings ≤ 3 → (b : List ℕ) → length b ≡ 8 * rings → unshielded rings b ≡ unshielded_of rings (set_of 2 b)
unfolding unshielded
unshielded_set rings small b whole =
    keep_same (λ p. not (in_mill rings (holds b 2) p)) (λ p. not (in_mill rings (λ q. has (set_of 2 b) q) p)) (holding rings b 2)
    (λ p m. ap not (in_mill_set rings small b whole 2 p))
    ∙ ap (keep (λ p. not (in_mill rings (λ q. has (set_of 2 b) q) p))) (holding_set rings small b whole 2)

-- the stones that may be removed if all stand in mills
abbrev pub shielded_of : ℕ → ℕ → List ℕ
shielded_of edition side = elim (eqb edition 2) [ true ↦ [] | false ↦ elements 32 side ]

module _ (edition rings : ℕ) (small : rings ≤ 3) (b : List ℕ) (whole : length b ≡ 8 * rings) where
  shielded_set : if_all_shielded edition rings b ≡ shielded_of edition (set_of 2 b)
  unfolding if_all_shielded
  shielded_set = go (eqb edition 2)
    where
      go : (t : Bool) → ◌≡◌ {A = List ℕ} (elim t [ true ↦ [] | false ↦ holding rings b 2 ]) (elim t [ true ↦ [] | false ↦ elements 32 (set_of 2 b) ])
      go true = refl
      go false = holding_set rings small b whole 2

  pub removable_set : removable edition rings b ≡ or_else (unshielded_of rings (set_of 2 b)) (shielded_of edition (set_of 2 b))
  removable_set = removable_are edition rings b ∙ ap₂ or_else (unshielded_set rings small b whole) shielded_set

-- a slide moves one point of the mover's set, and the opponent's set stays
module _ (b : List ℕ) (from to : ℕ) (hf : from < length b) (ht : to < length b) where
  to_low : to < length (set b from 0)
  to_low = subst (λ (n : ℕ). to < n) (sym (length-set b from 0)) ht

  pub slide_mover : set_of 1 (slide b from to) ≡ with (without (set_of 1 b) from) to
  unfolding slide
  slide_mover = set_with 1 (set b from 0) to 1 to_low refl ∙ ap (λ (s : ℕ). with s to) (set_without 1 b from 0 hf refl)

  pub slide_opponent : get_or b from 0 ≡ 1 → get_or b to 0 ≡ 0 → set_of 2 (slide b from to) ≡ set_of 2 b
  unfolding slide
  slide_opponent own vacant =
      set_without 2 (set b from 0) to 1 to_low refl
      ∙ ap (λ (s : ℕ). without s to) (set_without 2 b from 0 hf refl
      ∙ without_absent (set_of 2 b) from (bit_set 2 b from hf ∙ ap (λ (x : ℕ). digit (eqb x 2)) own))
      ∙ without_absent (set_of 2 b) to (bit_set 2 b to ht ∙ ap (λ (x : ℕ). digit (eqb x 2)) vacant)

-- where a stone may go: with three stones to every vacant point, else to those among its neighbours
module _ (rings : ℕ) (small : rings ≤ 3) (b : List ℕ) (whole : length b ≡ 8 * rings) (from : ℕ) where
  pub destinations_jump : count 1 b ≡ 3 → set_from (destinations rings b from) ≡ set_of 0 b
  unfolding destinations
  destinations_jump e =
      ap set_from (all_kept (holding rings b 0)) ∙ from_holding rings small b whole 0
    where
      all_kept : (l : List ℕ) → keep (λ to. eqb (count 1 b) 3 || adjoin from to) l ≡ l
      all_kept [] = refl
      all_kept (x ∷ l) = rw (eq-eqb (count 1 b) 3 e, keep) (ap (λ (k : List ℕ). x ∷ k) (all_kept l))

  pub destinations_slide : (count 1 b ≡ 3 → ⊥) → set_from (destinations rings b from) ≡ bit_and (set_of 0 b) (set_from (neighbours rings from))
  unfolding destinations
  destinations_slide n =
      same_set (8 * rings) (set_from (destinations rings b from)) (bit_and (set_of 0 b) (set_from (neighbours rings from)))
      (from_lt (8 * rings) (destinations rings b from) (λ p m. (destination_vacant rings b from p m).0))
      (omega (arith, and_le_l (set_of 0 b) (set_from (neighbours rings from)), set_within rings small b whole 0))
      (λ p h. go p h (bit_cases (set_from (destinations rings b from)) p) (bit_cases (set_of 0 b) p) (bit_cases (set_from (neighbours rings from)) p)
      ∙ sym (bit_and_lem (set_of 0 b) (set_from (neighbours rings from)) p))
    where
      kept : (p : ℕ) → p < 8 * rings → bit (set_of 0 b) p ≡ 1 → bit (set_from (neighbours rings from)) p ≡ 1 → bit (set_from (destinations rings b from)) p ≡ 1
      kept p h v a =
          let m = subst (λ (l : List ℕ). Memᴰ p l) (neighbours_are rings from) (from_bit (neighbours rings from) p a) in
          bit_from (destinations rings b from) p (member_keep (λ to. eqb (count 1 b) 3 || adjoin from to) (holding rings b 0)
          (subst (λ (l : List ℕ). Memᴰ p l) (sym (holding_set rings small b whole 0)) (is_element 32 (set_of 0 b) p (omega arith) v))
          (rw (ne_eqb (count 1 b) 3 n) (keep_member (λ q. adjoin from q) (points rings) m).1))

      vacant : (p : ℕ) → bit (set_from (destinations rings b from)) p ≡ 1 → bit (set_of 0 b) p ≡ 1
      vacant p t =
          let m = keep_member (λ to. eqb (count 1 b) 3 || adjoin from to) (holding rings b 0) (from_bit (destinations rings b from) p t) in
          (elements_is 32 (set_of 0 b) p (subst (λ (l : List ℕ). Memᴰ p l) (holding_set rings small b whole 0) m.0)).1

      near : (p : ℕ) → p < 8 * rings → bit (set_from (destinations rings b from)) p ≡ 1 → bit (set_from (neighbours rings from)) p ≡ 1
      near p h t =
          let m = keep_member (λ to. eqb (count 1 b) 3 || adjoin from to) (holding rings b 0) (from_bit (destinations rings b from) p t) in
          bit_from (neighbours rings from) p (subst (λ (l : List ℕ). Memᴰ p l) (sym (neighbours_are rings from))
          (member_keep (λ q. adjoin from q) (points rings) (low_point rings p h) (rw (ne_eqb (count 1 b) 3 n) at m.1)))

      go : (p : ℕ) → p < 8 * rings → (bit (set_from (destinations rings b from)) p ≡ 0) ⊎ (bit (set_from (destinations rings b from)) p ≡ 1)
          → (bit (set_of 0 b) p ≡ 0) ⊎ (bit (set_of 0 b) p ≡ 1) → (bit (set_from (neighbours rings from)) p ≡ 0) ⊎ (bit (set_from (neighbours rings from)) p ≡ 1)
          → bit (set_from (destinations rings b from)) p ≡ min (bit (set_of 0 b) p) (bit (set_from (neighbours rings from)) p)
      go p h (inl t) (inl v) x = rw (t, v) (omega arith)
      go p h (inl t) (inr v) (inl a) = rw (t, v, a)
      go p h (inl t) (inr v) (inr a) = absurd (omega (arith, t, kept p h v a))
      go p h (inr t) v x = rw (t, vacant p t, near p h t)

-- what a slide may remove
module _ (rule : Rule) (rings : ℕ) (b : List ℕ) (to : ℕ) where
  pub removals_open : in_mill rings (holds b 1) to ≡ false → set_from (removals rule rings b to) ≡ 2 ^ 31
  removals_open e = ap set_from (removals_without rule rings b to e) ∙ from_one no_removal

  pub removals_closed : in_mill rings (holds b 1) to ≡ true → (set_from (rule rings b) ≡ 0 → ⊥) → set_from (removals rule rings b to) ≡ set_from (rule rings b)
  removals_closed e n = ap set_from (removals_with rule rings b to e) ∙ from_first (rule rings b) (no_removal ∷ []) n

  pub removals_idle : in_mill rings (holds b 1) to ≡ true → set_from (rule rings b) ≡ 0 → set_from (removals rule rings b to) ≡ 2 ^ 31
  removals_idle e z = ap set_from (removals_with rule rings b to e) ∙ from_second (rule rings b) (no_removal ∷ []) z ∙ from_one no_removal

-- a slide changes nothing of what may be removed
module _ (rings : ℕ) (small : rings ≤ 3) (b : List ℕ) (whole : length b ≡ 8 * rings) (from to : ℕ) (hf : from < 8 * rings) (ht : to < 8 * rings)
    (own : get_or b from 0 ≡ 1) (vacant : get_or b to 0 ≡ 0) where
  lf : from < length b
  lf = subst (λ (n : ℕ). from < n) (sym whole) hf

  lt : to < length b
  lt = subst (λ (n : ℕ). to < n) (sym whole) ht

  pub slide_whole : length (slide b from to) ≡ 8 * rings
  slide_whole = slide_length b from to ∙ whole

  pub removable_slide : (edition : ℕ) → removable edition rings (slide b from to) ≡ removable edition rings b
  removable_slide edition =
      removable_set edition rings small (slide b from to) slide_whole
      ∙ ap (λ (s : ℕ). or_else (unshielded_of rings s) (shielded_of edition s)) (slide_opponent b from to lf lt own vacant)
      ∙ sym (removable_set edition rings small b whole)

  pub in_mill_slide : in_mill rings (holds (slide b from to) 1) to ≡ in_mill rings (λ q. has (with (without (set_of 1 b) from) to) q) to
  in_mill_slide =
      in_mill_set rings small (slide b from to) slide_whole 1 to
      ∙ ap (λ (s : ℕ). in_mill rings (λ q. has s q) to) (slide_mover b from to lf lt)

one_more : (x y : ℕ) (b : List ℕ) → set_of 1 (map (λ v. exchange v) b) ≡ set_of 2 b → set_of 2 (map (λ v. exchange v) b) ≡ set_of 1 b
    → digit (eqb y 1) ≡ digit (eqb x 2) → digit (eqb y 2) ≡ digit (eqb x 1)
    → (set_of 1 (y ∷ map (λ v. exchange v) b) ≡ set_of 2 (x ∷ b)) × (set_of 2 (y ∷ map (λ v. exchange v) b) ≡ set_of 1 (x ∷ b))
one_more x y b p q d e = (
  set_cons 1 y (map (λ v. exchange v) b) ∙ ap₂ (λ (i k : ℕ). i + 2 * k) d p ∙ sym (set_cons 2 x b),
  set_cons 2 y (map (λ v. exchange v) b) ∙ ap₂ (λ (i k : ℕ). i + 2 * k) e q ∙ sym (set_cons 1 x b),
)

-- the sides change names, and so do their sets
pub exchange_sets : (b : List ℕ) → Values b → (set_of 1 (map (λ v. exchange v) b) ≡ set_of 2 b) × (set_of 2 (map (λ v. exchange v) b) ≡ set_of 1 b)
unfolding exchange
exchange_sets [] h = (set_none 1 ∙ sym (set_none 2), set_none 2 ∙ sym (set_none 1))
exchange_sets (zero ∷ b) h = let s = exchange_sets b h.1 in one_more 0 0 b s.0 s.1 refl refl
exchange_sets (suc zero ∷ b) h = let s = exchange_sets b h.1 in one_more 1 2 b s.0 s.1 refl refl
exchange_sets (suc (suc zero) ∷ b) h = let s = exchange_sets b h.1 in one_more 2 1 b s.0 s.1 refl refl
exchange_sets (suc (suc (suc v)) ∷ b) h = absurd (omega arith)
