-- How many moves a board can have under an edition: 324 at the most, nine stones of four neighbours or three of all vacant points, each with up to
-- nine removals. Assumes nothing.
use mathlib.Core.Path.{◌≡◌, refl, sym, ap, subst, ◌∙◌}
use mathlib.Core.Bool.{Bool, true, false, not, ◌||◌}
use mathlib.Core.List.{List, [], ◌∷◌, Memᴰ}
use mathlib.Core.Logic.{◌⊎◌, inl, inr}
use Prim.Native.Nat.{ℕ, ◌+◌, ◌-◌, ◌*◌, ◌≤◌, ◌<◌}
use native.Mathlib.Nat.{mul-le-mul_right, le_trans}
use native.Mathlib.Omega.{arith}
use lib.Dec.{eqb, ltb, leb}
use lib.ListN.{length, get_or, length-map}
use borrow.Author.Tests.{eqb-true, eqb-false, ne_eqb, leb-true}
use Rattle.lists.specs.Lists.{keep}
use Rattle.lists.proofs.Keep.{keep_keep}
use Rattle.lists.proofs.Lengths.{keep_le, or_else_le, each_le}
use Rattle.lists.proofs.Table.{every_at}
use Rattle.lists.proofs.Tests.{keep_same}
use Rattle.geometry.specs.Geometry.{points, adjoin, neighbours}
use Rattle.board.specs.Board.{Values, count}
use Rattle.board.proofs.Counts.{count_all}
use Rattle.geometry.proofs.Geometry.{neighbours_are, neighbours_within, neighbours_few}
use Rattle.rules.specs.Ply.{holds, holding, in_mill, destinations, slide, unshielded, if_all_shielded, removable, no_removal, removals, move_number, slide_moves, stone_moves, moves}
use Rattle.rules.specs.MoveList.{listed_moves}
use Rattle.rules.proofs.CapturesFirst.{listed_length}
use Rattle.rules.proofs.Listed.{holding_is, destination_vacant, removable_are, shielded_cases}
use Rattle.rules.proofs.Leads.{slide_length, slide_counts}
use Rattle.rules.proofs.OnSets.{length_holding}

module _ (edition rings : ℕ) (small : rings ≤ 3) where
  unshielded_le : (b : List ℕ) → length (unshielded rings b) ≤ length (holding rings b 2)
  unfolding unshielded
  unshielded_le b = keep_le (λ p. not (in_mill rings (holds b 2) p)) (holding rings b 2)

  shielded_le : (b : List ℕ) → length (if_all_shielded edition rings b) ≤ length (holding rings b 2)
  shielded_le b = go (shielded_cases edition rings b)
    where
      go : (if_all_shielded edition rings b ≡ []) ⊎ (if_all_shielded edition rings b ≡ holding rings b 2)
          → length (if_all_shielded edition rings b) ≤ length (holding rings b 2)
      go (inl e) = rw e (omega arith)
      go (inr e) = rw e (omega arith)

  removable_le : (b : List ℕ) → length b ≡ 8 * rings → length (removable edition rings b) ≤ count 2 b
  removable_le b whole =
      let h = length_holding rings small b whole 2 in
      subst (λ (l : List ℕ). length l ≤ count 2 b) (sym (removable_are edition rings b))
      (or_else_le (count 2 b) (unshielded rings b) (if_all_shielded edition rings b)
      (omega (arith, h, unshielded_le b)) (omega (arith, h, shielded_le b)))

  removals_le : (b : List ℕ) → length b ≡ 8 * rings → 1 ≤ count 2 b → (to : ℕ) → length (removals (removable edition) rings b to) ≤ count 2 b
  unfolding removals
  removals_le b whole some to = go (in_mill rings (holds b 1) to) refl
    where
      go : (x : Bool) → in_mill rings (holds b 1) to ≡ x → length (removals (removable edition) rings b to) ≤ count 2 b
      go true e = rw (e, removals) (or_else_le (count 2 b) (removable edition rings b) (no_removal ∷ []) (removable_le b whole) some)
      go false e = rw (e, removals) some

  module _ (b : List ℕ) (whole : length b ≡ 8 * rings) (values : Values b) (m : count 1 b ≤ 9) (some : 1 ≤ count 2 b) (o : count 2 b ≤ 9) where
    -- a stone's moves to one point
    slide_few : (from to : ℕ) → get_or b from 0 ≡ 1 → from < 8 * rings → Memᴰ to (destinations rings b from)
        → length (slide_moves (removable edition) rings b from to) ≤ count 2 b
    slide_few from to own low t =
        let v = destination_vacant rings b from to t in
        let hf : from < length b = omega (arith, whole) in
        let ht : to < length b = omega (arith, whole, v.0) in
        let n = slide_counts b from to hf ht own v.1 in
        let l = slide_length b from to in
        omega (
          arith,
          n.1,
          length-map (removals (removable edition) rings (slide b from to) to) (λ r. move_number from to r),
          removals_le (slide b from to) (l ∙ whole) (omega (arith, n.1, some)) to,
        )

    -- three stones: as many points as are vacant
    jump_few : (from : ℕ) → length (destinations rings b from) ≤ count 0 b
    unfolding destinations
    jump_few from = omega (arith, keep_le (λ to. eqb (count 1 b) 3 || adjoin from to) (holding rings b 0), length_holding rings small b whole 0)

    -- else four at the most
    near_few : (count 1 b ≡ 3 → ⊥) → (from : ℕ) → from < 24 → length (destinations rings b from) ≤ 4
    unfolding destinations holding
    near_few n from h =
        let same : keep (λ to. eqb (count 1 b) 3 || adjoin from to) (points rings) ≡ neighbours rings from =
        keep_same (λ to. eqb (count 1 b) 3 || adjoin from to) (λ to. adjoin from to) (points rings)
        (λ to i. ap (λ (x : Bool). x || adjoin from to) (ne_eqb (count 1 b) 3 n))
        ∙ sym (neighbours_are rings from) in
        omega (
          arith,
          ap length (keep_keep (λ to. eqb (count 1 b) 3 || adjoin from to) (holds b 0) (points rings) ∙ ap (keep (holds b 0)) same),
          keep_le (holds b 0) (neighbours rings from),
          ap length (neighbours_within rings from small),
          keep_le (λ q. ltb q (8 * rings)) (neighbours 3 from),
          neighbours_few from h,
        )

    stone_few : (k : ℕ) → ((from : ℕ) → from < 24 → length (destinations rings b from) ≤ k) → (from : ℕ) → Memᴰ from (holding rings b 1)
        → length (stone_moves (removable edition) rings b from (destinations rings b from)) ≤ k * count 2 b
    stone_few k few from i =
        let h = holding_is rings b 1 from i in
        le_trans (each_le (λ to. slide_moves (removable edition) rings b from to) (count 2 b) (destinations rings b from)
        (λ to t. slide_few from to h.1 h.0 t))
        (mul-le-mul_right (count 2 b) (few from (omega (arith, h.0))))

    all_few : (k : ℕ) → ((from : ℕ) → from < 24 → length (destinations rings b from) ≤ k)
        → length (moves (removable edition) rings b) ≤ count 1 b * (k * count 2 b)
    unfolding moves
    all_few k few =
        subst (λ (n : ℕ). length (moves (removable edition) rings b) ≤ n * (k * count 2 b)) (length_holding rings small b whole 1)
        (each_le (λ from. stone_moves (removable edition) rings b from (destinations rings b from)) (k * count 2 b) (holding rings b 1)
        (λ from i. stone_few k few from i))

    pub moves_bound : length (moves (removable edition) rings b) ≤ 324
    moves_bound = go (eqb (count 1 b) 3) refl
      where
        vacant : count 0 b + count 1 b + count 2 b ≤ 24
        vacant = omega (arith, count_all b values, whole)

        product : (m z o : ℕ) → m ≡ 3 → z + m + o ≤ 24 → o ≤ 9 → m * (z * o) ≤ 324
        product m z o e h l =
            let a : (21 - o) * o ≤ 108 = leb-true _ _ (every_at 10 (λ o. leb ((21 - o) * o) 108) refl o (omega arith)) in
            let c : z * o ≤ (21 - o) * o = mul-le-mul_right o (omega (arith, e, h)) in
            rw e (omega (arith, a, c))

        go : (x : Bool) → eqb (count 1 b) 3 ≡ x → length (moves (removable edition) rings b) ≤ 324
        go true e =
            le_trans (all_few (count 0 b) (λ from h. jump_few from)) (product (count 1 b) (count 0 b) (count 2 b) (eqb-true (count 1 b) 3 e) vacant o)
        go false e =
            le_trans (all_few 4 (λ from h. near_few (eqb-false (count 1 b) 3 e) from h)) (le_trans (mul-le-mul_right (4 * count 2 b) m) (omega arith))

    -- captures first, the list is as long
    pub listed_bound : length (listed_moves (removable edition) rings b) ≤ 324
    listed_bound = omega (arith, listed_length (moves (removable edition) rings b), moves_bound)
