-- The masks that the code derives are the masks of the board, by computed tests for each number of rings: the mills placed one after the other stand
-- where the rule says, and the neighbours are those of three rings cut to the board. Assumes nothing.
use mathlib.Core.Path.{◌≡◌, refl}
use mathlib.Core.Bool.{Bool, true}
use mathlib.Core.List.{List, []}
use Prim.Native.Nat.{ℕ, zero, suc, ◌+◌, ◌-◌, ◌*◌, ◌^◌, ◌≤◌, ◌<◌}
use native.Mathlib.Omega.{arith}
use lib.Bits.{bit_and}
use lib.Dec.{eqb}
use lib.ListN.{length, get_or, replicate}
use borrow.Author.Tests.{eqb-true}
use Rattle.lists.proofs.Table.{every, every_at, every_two, every_two_lem}
use Rattle.sets.specs.Sets.{with_all, set_from}
use Rattle.geometry.specs.Geometry.{points, follows, inward, adjoin, neighbours, ring_mills, cross_mills, mills, mills_through}
use Rattle.geometry.specs.Tables.{mill_point}
use Rattle.masks.specs.Inner.Placing.{placed, mill_placed, mills_placed}

-- the mills of a board, each at its points
abbrev pub derived : ℕ → List ℕ
derived rings = mills_placed (length (mills rings)) (replicate {A = ℕ} 72 0)

mill_at : ℕ → ℕ → ℕ → Bool
mill_at rings p j = eqb (get_or (derived rings) (24 + 2 * p + j) 0) (set_from (get_or (mills_through rings p) j []))

pub derived_mills : (rings : ℕ) → rings ≤ 3 → (p j : ℕ) → p < 24 → j < 2
    → get_or (derived rings) (24 + 2 * p + j) 0 ≡ set_from (get_or (mills_through rings p) j [])
unfolding mill_at placed mill_placed mills_placed mill_point mills_through mills ring_mills cross_mills set_from with_all
derived_mills rings h p j a b = go rings h
  where
    at : (rings : ℕ) → every_two 24 2 (mill_at rings) ≡ true → get_or (derived rings) (24 + 2 * p + j) 0 ≡ set_from (get_or (mills_through rings p) j [])
    at rings t = eqb-true _ _ (every_two_lem 24 2 (mill_at rings) t p j a b)

    go : (rings : ℕ) → rings ≤ 3 → get_or (derived rings) (24 + 2 * p + j) 0 ≡ set_from (get_or (mills_through rings p) j [])
    go zero l = at 0 refl
    go (suc zero) l = at 1 refl
    go (suc (suc zero)) l = at 2 refl
    go (suc (suc (suc zero))) l = at 3 refl
    go (suc (suc (suc (suc r)))) l = absurd (omega arith)

pub derived_length : (rings : ℕ) → rings ≤ 3 → length (derived rings) ≡ 72
unfolding placed mill_placed mills_placed mill_point mills ring_mills cross_mills set_from with_all
derived_length zero h = refl
derived_length (suc zero) h = refl
derived_length (suc (suc zero)) h = refl
derived_length (suc (suc (suc zero))) h = refl
derived_length (suc (suc (suc (suc r)))) h = absurd (omega arith)

-- the neighbours on fewer rings are those on three that are points of the board
cut_at : ℕ → ℕ → Bool
cut_at rings p = eqb (bit_and (2 ^ (8 * rings) - 1) (set_from (neighbours 3 p))) (set_from (neighbours rings p))

pub neighbours_cut : (rings : ℕ) → rings ≤ 3 → (p : ℕ) → p < 24 → bit_and (2 ^ (8 * rings) - 1) (set_from (neighbours 3 p)) ≡ set_from (neighbours rings p)
unfolding cut_at neighbours adjoin follows inward points set_from with_all
neighbours_cut rings h p a = go rings h
  where
    at : (rings : ℕ) → every 24 (cut_at rings) ≡ true → bit_and (2 ^ (8 * rings) - 1) (set_from (neighbours 3 p)) ≡ set_from (neighbours rings p)
    at rings t = eqb-true _ _ (every_at 24 (cut_at rings) t p a)

    go : (rings : ℕ) → rings ≤ 3 → bit_and (2 ^ (8 * rings) - 1) (set_from (neighbours 3 p)) ≡ set_from (neighbours rings p)
    go zero l = at 0 refl
    go (suc zero) l = at 1 refl
    go (suc (suc zero)) l = at 2 refl
    go (suc (suc (suc zero))) l = at 3 refl
    go (suc (suc (suc (suc r)))) l = absurd (omega arith)
