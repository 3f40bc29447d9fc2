-- The refusal of a position that no game reaches: 15 comes after what a board meets and before K and the tablebase, under edition 1 only; and from a board
-- that does not meet it no ply leads to one that does. Assumes nothing.
use mathlib.Core.Path.{◌≡◌, refl, sym, ap, ◌∙◌}
use mathlib.Core.Bool.{Bool, true, false, cond, ◌&&◌}
use mathlib.Core.List.{List, [], ◌∷◌, ◌++◌, Memᴰ}
use Prim.Native.Nat.{ℕ, ◌*◌, ◌≤◌}
use native.Mathlib.Omega.{arith}
use lib.Dec.{eqb}
use lib.ListN.{length, replicate}
use borrow.Author.Tests.{eqb-true, ne_eqb}
use Rattle.board.specs.Board.{Values, count}
use Rattle.rules.specs.Ply.{removable, successors}
use Rattle.rules.specs.Unreachable.{unreachable}
use Rattle.rules.proofs.Listed.{removable_takes}
use Rattle.rules.proofs.Unreachable.{fewer_rings, removable_must, reachable_kept, unreachable_cases}
use Rattle.refusals.specs.Refusals.{Picked, refusal_table, picked_rows, refusal}
use Rattle.refusals.specs.Conditions.{position_unreachable, count_above, ruled_picks, reachable_picks, largest_picks, tablebase_picks, value_wrong}
use Rattle.refusals.proofs.FirstRefusal.{passed, first_kept, first_after, both_passed, first_cons, one_more}

-- nine stones against a mill of three with K 2: 15, and 11 under edition 2; against a mill of ten: 4
pub fifteen_cases : (refusal (tablebase_picks 3 1 (1 ∷ 1 ∷ 1 ∷ replicate {A = ℕ} 9 2 ++ replicate {A = ℕ} 12 0) 2 0) ≡ 15)
    × (refusal (tablebase_picks 3 2 (1 ∷ 1 ∷ 1 ∷ replicate {A = ℕ} 9 2 ++ replicate {A = ℕ} 12 0) 2 0) ≡ 11)
    × (refusal (tablebase_picks 3 1 (replicate {A = ℕ} 10 1 ++ replicate {A = ℕ} 9 2 ++ replicate {A = ℕ} 5 0) 2 0) ≡ 4)
unfolding value_wrong
fifteen_cases = (rw unreachable_cases.0 refl, refl, refl)

-- under another edition, and on fewer rings, no position meets it
pub other_edition : (rings edition : ℕ) (b : List ℕ) → (edition ≡ 1 → ⊥) → position_unreachable rings edition b ≡ false
other_edition rings edition b n = ap (λ (t : Bool). t && unreachable rings b) (ne_eqb edition 1 n)

pub few_reached : (rings edition : ℕ) (b : List ℕ) → (rings ≡ 3 → ⊥) → position_unreachable rings edition b ≡ false
few_reached rings edition b n = ap (λ (t : Bool). eqb edition 1 && t) (fewer_rings rings b n) ∙ go (eqb edition 1)
  where
    go : (t : Bool) → (t && false) ≡ false
    go true = refl
    go false = refl

module _ (rings edition : ℕ) (b : List ℕ) where
  abbrev board : List Picked
  board = picked_rows refusal_table (ruled_picks rings edition b)

  abbrev reached : List Picked
  reached = record { holds = position_unreachable rings edition b; number = 15 } ∷ []

  -- after what the board meets
  reachable_decides : 0 ≡ refusal (ruled_picks rings edition b)
      → refusal (reachable_picks rings edition b) ≡ cond (position_unreachable rings edition b) 15 0
  reachable_decides e = one_more board (position_unreachable rings edition b) 15 refl e

  pub reachable_passed : refusal (reachable_picks rings edition b) ≡ 0
      → (refusal (ruled_picks rings edition b) ≡ 0) × (position_unreachable rings edition b ≡ false)
  reachable_passed e = let p = both_passed board reached refl e in (p.0, (passed reached refl p.1).0)

  pub reachable_passes : refusal (ruled_picks rings edition b) ≡ 0 → position_unreachable rings edition b ≡ false
      → refusal (reachable_picks rings edition b) ≡ 0
  reachable_passes e p = reachable_decides (sym e) ∙ ap (λ (t : Bool). cond t 15 0) p

  -- "after 4 and before 11"
  module _ (k n : ℕ) where
    abbrev largest : List Picked
    largest = picked_rows refusal_table (largest_picks rings k (count_above k (count 1 b) (count 2 b)) n)

    pub after_four : (r : ℕ) → (r ≡ 0 → ⊥) → r ≡ refusal (ruled_picks rings edition b) → r ≡ refusal (tablebase_picks rings edition b k n)
    after_four r z e = first_kept board (reached ++ largest) r z e

    pub before_eleven : 0 ≡ refusal (ruled_picks rings edition b)
        → refusal (tablebase_picks rings edition b k n)
        ≡ cond (position_unreachable rings edition b) 15 (refusal (largest_picks rings k (count_above k (count 1 b) (count 2 b)) n))
    before_eleven e = first_after board (reached ++ largest) refl e ∙ first_cons (position_unreachable rings edition b) 15 largest

-- a ply from a board that does not meet it leads to one that does not
pub reachable_next : (rings edition : ℕ) → rings ≤ 3 → (b : List ℕ) → Values b → length b ≡ 8 * rings → count 2 b ≤ 9
    → position_unreachable rings edition b ≡ false → (c : List ℕ) → Memᴰ c (successors (removable edition) rings b)
    → position_unreachable rings edition c ≡ false
reachable_next rings edition small b v whole few pass c i = go (eqb edition 1) refl pass
  where
    go : (t : Bool) → eqb edition 1 ≡ t → (t && unreachable rings b) ≡ false → position_unreachable rings edition c ≡ false
    go true e p =
        let must = removable_must edition (λ z. omega (arith, z, eqb-true edition 1 e)) in
        ap (λ (t : Bool). t && unreachable rings c) e ∙ reachable_kept (removable edition) (removable_takes edition) must rings small b v whole few p c i
    go false e p = ap (λ (t : Bool). t && unreachable rings c) e
