-- The moves of a board rise, for any rule of removal that names opposing stones by rising number. Assumes nothing.
use mathlib.Core.Path.{◌≡◌, refl, sym, subst}
use mathlib.Core.Bool.{Bool, true, false}
use mathlib.Core.List.{List, [], ◌∷◌, Memᴰ}
use mathlib.Core.Logic.{◌⊎◌, inl, inr}
use Prim.Native.Nat.{ℕ, ◌+◌, ◌*◌, ◌≤◌, ◌<◌}
use native.Mathlib.Omega.{arith}
use Rattle.lists.specs.Lists.{Rising}
use Rattle.lists.proofs.Members.{each_member, map_member}
use Rattle.lists.proofs.Rises.{rising_range, rising_keep, rising_else, rising_add, rising_each}
use Rattle.geometry.specs.Geometry.{points}
use Rattle.geometry.proofs.Geometry.{points_are}
use Rattle.rules.specs.Ply.{Rule, holds, holding, in_mill, destinations, slide, unshielded, if_all_shielded, removable, no_removal, removals, slide_moves, stone_moves, moves}
use Rattle.rules.proofs.Listed.{destination_vacant, removal_cases, removable_are, shielded_cases, TakesOpponent}

abbrev pub RisingRule : Rule → Type 0
RisingRule rule = (rings : ℕ) (b : List ℕ) → Rising (rule rings b)

pub holding_rising : (rings : ℕ) (b : List ℕ) (v : ℕ) → Rising (holding rings b v)
unfolding holding
holding_rising rings b v =
    rising_keep (holds b v) (points rings) (subst Rising (sym (points_are rings)) (rising_range (8 * rings) 0))

pub destinations_rising : (rings : ℕ) (b : List ℕ) (from : ℕ) → Rising (destinations rings b from)
unfolding destinations
destinations_rising rings b from = rising_keep _ (holding rings b 0) (holding_rising rings b 0)

unshielded_rising : RisingRule (λ rings b. unshielded rings b)
unfolding unshielded
unshielded_rising rings b = rising_keep _ (holding rings b 2) (holding_rising rings b 2)

shielded_rising : (edition : ℕ) → RisingRule (if_all_shielded edition)
shielded_rising edition rings b = go (shielded_cases edition rings b)
  where
    go : (if_all_shielded edition rings b ≡ []) ⊎ (if_all_shielded edition rings b ≡ holding rings b 2) → Rising (if_all_shielded edition rings b)
    go (inl e) = rw e tt
    go (inr e) = rw e (holding_rising rings b 2)

pub removable_rising : (edition : ℕ) → RisingRule (removable edition)
removable_rising edition rings b =
    subst Rising (sym (removable_are edition rings b))
    (rising_else (unshielded rings b) (if_all_shielded edition rings b) (unshielded_rising rings b) (shielded_rising edition rings b))

module _ (rule : Rule) (takes : TakesOpponent rule) (rises : RisingRule rule) (rings : ℕ) (small : rings ≤ 3) where
  pub removals_rising : (b : List ℕ) (to : ℕ) → Rising (removals rule rings b to)
  unfolding removals
  removals_rising b to = go (in_mill rings (holds b 1) to) refl
    where
      go : (c : Bool) → in_mill rings (holds b 1) to ≡ c → Rising (removals rule rings b to)
      go true e = rw (e, removals) (rising_else (rule rings b) (no_removal ∷ []) (rises rings b) (tt, tt))
      go false e = rw (e, removals) (tt, tt)

  pub removal_low : (b : List ℕ) (to r : ℕ) → Memᴰ r (removals rule rings b to) → r < 32
  removal_low b to r m = go (removal_cases rule rings b to m)
    where
      go : (r ≡ no_removal) ⊎ Memᴰ r (rule rings b) → r < 32
      go (inl e) = omega arith
      go (inr i) = omega (arith, (takes rings b r i).0)

  module _ (b : List ℕ) where
    slid_within : (from to n : ℕ) → Memᴰ n (slide_moves rule rings b from to) → (1024 * from + 32 * to ≤ n) × (n < 1024 * from + 32 * to + 32)
    slid_within from to n m =
        let x = map_member _ (removals rule rings (slide b from to) to) m in
        let l = removal_low (slide b from to) to x.0 x.1 in
        (omega (arith, x.2), omega (arith, x.2))

    gone_within : (from n : ℕ) → Memᴰ n (stone_moves rule rings b from (destinations rings b from)) → (1024 * from ≤ n) × (n < 1024 * from + 1024)
    gone_within from n m =
        let x = each_member (λ to. slide_moves rule rings b from to) (destinations rings b from) m in
        let w = slid_within from x.0 n x.2 in
        let l = (destination_vacant rings b from x.0 x.1).0 in
        (omega (arith, w.0), omega (arith, w.1))

    pub moves_rising : Rising (moves rule rings b)
    unfolding moves
    moves_rising =
        rising_each (λ from. stone_moves rule rings b from (destinations rings b from)) (holding rings b 1) (holding_rising rings b 1)
        (λ from m. rising_each (λ to. slide_moves rule rings b from to) (destinations rings b from) (destinations_rising rings b from)
        (λ to k. rising_add (1024 * from + 32 * to) (removals rule rings (slide b from to) to) (removals_rising (slide b from to) to))
        (λ x y i j h p q mp mq. omega (arith, h, (slid_within from x p mp).1, (slid_within from y q mq).0)))
        (λ x y i j h p q mp mq. omega (arith, h, (gone_within x p mp).1, (gone_within y q mq).0))
