-- What document 01 says of the whole board, by computation: how many mills and neighbour pairs there are. Fewer rings have a part of the
-- tables of three rings: the neighbours that are points of theirs, and the first mills. Assumes nothing.
use mathlib.Core.Path.{◌≡◌, refl, subst}
use mathlib.Core.Bool.{Bool, true, false, not, ◌&&◌}
use mathlib.Core.List.{List, [], ◌∷◌, Memᴰ}
use Prim.Native.Nat.{ℕ, zero, suc, ◌+◌, ◌*◌, ◌-◌, ◌/◌, ◌≤◌, ◌<◌}
use native.Mathlib.Nat.{zero-add}
use native.Mathlib.Omega.{arith}
use lib.Dec.{eqb, ltb, leb}
use lib.ListN.{length, take, get_or}
use borrow.Author.Tests.{ltb-true, leb-true, eqb-true}
use Rattle.lists.specs.Lists.{range, keep, all, each}
use Rattle.geometry.specs.Geometry.{points, follows, inward, adjoin, neighbours, ring_mills, cross_mills, mills}
use Rattle.geometry.specs.Tables.{mill_point}
use Rattle.lists.proofs.Table.{every_at}
use Rattle.lists.proofs.Keep.{keep_below}
use Rattle.lists.proofs.Members.{keep_member, range_member, member_range, get_d_member}
use Rattle.lists.proofs.Tests.{all_member}

-- the points of a board, and the neighbours of one
pub points_are : (rings : ℕ) → points rings ≡ range 0 (8 * rings)
unfolding points
points_are rings = refl

pub point_low : (rings p : ℕ) → Memᴰ p (points rings) → p < 8 * rings
unfolding points
point_low rings p m = omega (arith, (range_member (8 * rings) 0 m).1)

pub low_point : (rings p : ℕ) → p < 8 * rings → Memᴰ p (points rings)
unfolding points
low_point rings p h = member_range (8 * rings) 0 p (omega arith) (omega arith)

pub neighbours_are : (rings p : ℕ) → neighbours rings p ≡ keep (λ q. adjoin p q) (points rings)
unfolding neighbours
neighbours_are rings p = refl

-- 4, 8 and 16 mills
pub mill_counts : (length (mills 1) ∷ length (mills 2) ∷ length (mills 3) ∷ []) ≡ 4 ∷ 8 ∷ 16 ∷ []
unfolding mills ring_mills cross_mills
mill_counts = refl

-- each pair is counted at both of its points
pub neighbour_pairs : ℕ → ℕ
neighbour_pairs rings = length (each (λ p. neighbours rings p) (points rings)) / 2

-- 8, 20 and 32 neighbour pairs
pub pair_counts : (neighbour_pairs 1 ∷ neighbour_pairs 2 ∷ neighbour_pairs 3 ∷ []) ≡ 8 ∷ 20 ∷ 32 ∷ []
unfolding neighbour_pairs neighbours points adjoin follows inward
pair_counts = refl

-- how many of the sixteen mills a board has
abbrev pub mill_count : ℕ → ℕ
mill_count rings = length (mills rings)

-- the mills of fewer rings are the first of the sixteen
pub mills_first : (rings : ℕ) → 1 ≤ rings → rings ≤ 3 → mills rings ≡ take (mill_count rings) (mills 3)
unfolding mills ring_mills cross_mills
mills_first zero l h = absurd (omega arith)
mills_first (suc zero) l h = refl
mills_first (suc (suc zero)) l h = refl
mills_first (suc (suc (suc zero))) l h = refl
mills_first (suc (suc (suc (suc r)))) l h = absurd (omega arith)

-- the neighbours on fewer rings are those among the 24 points that are points of the board
pub neighbours_within : (rings p : ℕ) → rings ≤ 3 → keep (λ q. ltb q (8 * rings)) (neighbours 3 p) ≡ neighbours rings p
unfolding neighbours points
neighbours_within rings p h =
    let n : ℕ = 8 * rings in
    let e : n + (24 - n) ≡ 24 = omega arith in
    subst (λ (k : ℕ). keep (λ q. ltb q n) (keep (λ q. adjoin p q) (range 0 k)) ≡ keep (λ q. adjoin p q) (range 0 n)) e
    (keep_below (λ q. adjoin p q) n n (24 - n) 0 (omega arith))

-- a mill is the list of its three points, which are points of the board
three_at : ℕ → Bool
three_at i = eqb (length (get_or (mills 3) i [])) 3

inside_at : ℕ → ℕ → Bool
inside_at j i = ltb (mill_point i j) 24

three_points : (l : List ℕ) → length l ≡ 3 → l ≡ get_or l 0 0 ∷ get_or l 1 0 ∷ get_or l 2 0 ∷ []
three_points [] e = absurd (omega (arith, e))
three_points (a ∷ []) e = absurd (omega (arith, e))
three_points (a ∷ b ∷ []) e = absurd (omega (arith, e))
three_points (a ∷ b ∷ c ∷ []) e = refl
three_points (a ∷ b ∷ c ∷ d ∷ l) e = absurd (omega (arith, e))

module _ (i : ℕ) (h : i < 16) where
  pub mill_list : get_or (mills 3) i [] ≡ mill_point i 0 ∷ mill_point i 1 ∷ mill_point i 2 ∷ []
  unfolding three_at mill_point mills ring_mills cross_mills
  mill_list = three_points (get_or (mills 3) i []) (eqb-true _ 3 (every_at 16 three_at refl i h))

  pub mill_points : (mill_point i 0 < 24) × (mill_point i 1 < 24) × (mill_point i 2 < 24)
  unfolding inside_at mill_point mills ring_mills cross_mills
  mill_points =
      (ltb-true _ _ (every_at 16 (inside_at 0) refl i h), ltb-true _ _ (every_at 16 (inside_at 1) refl i h), ltb-true _ _ (every_at 16 (inside_at 2) refl i h))

-- a point has four neighbours at the most, all of them points
few_at : ℕ → Bool
few_at p = leb (length (neighbours 3 p)) 4

pub neighbours_few : (p : ℕ) → p < 24 → length (neighbours 3 p) ≤ 4
unfolding few_at neighbours points adjoin follows inward
neighbours_few p h = leb-true _ _ (every_at 24 few_at refl p h)

pub neighbour_low : (p j : ℕ) → j < length (neighbours 3 p) → get_or (neighbours 3 p) j 0 < 24
unfolding neighbours points
neighbour_low p j h =
    let m = keep_member (λ q. adjoin p q) (points 3) (get_d_member (neighbours 3 p) j 0 h) in
    let r : get_or (neighbours 3 p) j 0 < 0 + 24 = (range_member 24 0 m.0).1 in
    subst (λ (n : ℕ). get_or (neighbours 3 p) j 0 < n) (zero-add 24) r

-- and at least two
some_at : ℕ → Bool
some_at p = leb 2 (length (neighbours 3 p))

pub neighbours_some : (p : ℕ) → p < 24 → 2 ≤ length (neighbours 3 p)
unfolding some_at neighbours adjoin follows inward points
neighbours_some p h = leb-true _ _ (every_at 24 some_at refl p h)

-- how many mills a board has
pub all_mills : (rings : ℕ) → rings ≡ 3 → 16 ≡ length (mills rings)
unfolding mills ring_mills cross_mills
all_mills rings e = rw e refl

pub ring_mills_lem : (rings : ℕ) → 1 ≤ rings → rings ≤ 3 → (rings ≡ 3 → ⊥) → 4 * rings ≡ length (mills rings)
unfolding mills ring_mills cross_mills
ring_mills_lem zero l h n = absurd (omega arith)
ring_mills_lem (suc zero) l h n = refl
ring_mills_lem (suc (suc zero)) l h n = refl
ring_mills_lem (suc (suc (suc zero))) l h n = absurd (n refl)
ring_mills_lem (suc (suc (suc (suc r)))) l h n = absurd (omega arith)

-- the points of a mill are points of the board
pub mill_low : (rings : ℕ) → rings ≤ 3 → (l : List ℕ) → Memᴰ l (mills rings) → (q : ℕ) → Memᴰ q l → q < 8 * rings
unfolding mills ring_mills cross_mills
mill_low rings h l m q k =
    ltb-true q (8 * rings) (all_member (λ x. ltb x (8 * rings)) l (all_member (λ x. all (λ y. ltb y (8 * rings)) x) (mills rings) (go rings h) l m) q k)
  where
    go : (rings : ℕ) → rings ≤ 3 → all (λ x. all (λ y. ltb y (8 * rings)) x) (mills rings) ≡ true
    go zero h = refl
    go (suc zero) h = refl
    go (suc (suc zero)) h = refl
    go (suc (suc (suc zero))) h = refl
    go (suc (suc (suc (suc r)))) h = absurd (omega arith)

-- three different points
abbrev pub proper : List ℕ → Bool
proper [] = false
proper (a ∷ []) = false
proper (a ∷ b ∷ []) = false
proper (a ∷ b ∷ c ∷ []) = not (eqb b a) && (not (eqb c a) && not (eqb c b))
proper (a ∷ b ∷ c ∷ d ∷ l) = false

-- every mill has three different points
pub mill_proper : (rings : ℕ) → rings ≤ 3 → (l : List ℕ) → Memᴰ l (mills rings) → proper l ≡ true
unfolding mills ring_mills cross_mills
mill_proper rings h l m = all_member proper (mills rings) (go rings h) l m
  where
    go : (rings : ℕ) → rings ≤ 3 → all proper (mills rings) ≡ true
    go zero h = refl
    go (suc zero) h = refl
    go (suc (suc zero)) h = refl
    go (suc (suc (suc zero))) h = refl
    go (suc (suc (suc (suc r)))) h = absurd (omega arith)
