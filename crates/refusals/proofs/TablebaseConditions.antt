-- The refusals of the tablebase calls: what an accepted K, tablebase and limit have, with a board or with the counts of a pair, and the last places
-- of each call, which decide where the places before them are passed. Assumes nothing.
use mathlib.Core.Path.{◌≡◌, refl, sym, ap, ◌∙◌}
use mathlib.Core.Bool.{Bool, false, cond, not, ◌||◌}
use mathlib.Core.List.{List, [], ◌∷◌, ◌++◌}
use Prim.Native.Nat.{ℕ, ◌*◌, ◌≤◌}
use native.Mathlib.Omega.{arith}
use lib.Dec.{eqb, ltb}
use lib.ListN.{length}
use borrow.Author.Tests.{ltb-false, le-ltb, eqb-true, eq-eqb, not-false}
use Rattle.lists.proofs.Tests.{or_left, or_right}
use Rattle.board.specs.Board.{count}
use Rattle.layout.specs.Layout.{tablebase_length}
use Rattle.layout.proofs.OneToOne.{IsTable}
use Rattle.rules.specs.Ply.{removable}
use Rattle.outcomes.specs.Places.{entry_at, is_void, successor_void, lower_void}
use Rattle.outcomes.proofs.Boards.{InTables}
use Rattle.refusals.specs.Refusals.{Pick, Picked, refusal_table, picked_rows, refusal}
use Rattle.refusals.specs.Conditions.{edition_wrong, position_unreachable, count_above, largest_wrong, tablebase_wrong, largest_limit, limit_wrong, mover_blocked}
use Rattle.refusals.specs.Conditions.{edition_picks, reachable_picks, stones_picks, largest_picks, tablebase_picks, lookup_picks, best_move_picks}
use Rattle.refusals.specs.Conditions.{check_picks, limit_picks, fill_picks, tables_picks, pair_picks}
use Rattle.refusals.proofs.FirstRefusal.{passes, passed, first_kept, first_after, both_passed, first_cons, one_more}
use Rattle.refusals.proofs.EditionConditions.{RingsFirst, edition_refused, edition_decides}
use Rattle.refusals.proofs.Conditions.{RightCounts, Accepted, rings_right, counts_right, ruled_board, ruled_passes}
use Rattle.refusals.proofs.ReachableConditions.{reachable_passed, reachable_passes}

-- what a right K is, and that no count is above it
pub record Largest (k : ℕ) (above : Bool) : Type 0 where
  pub low : 3 ≤ k
  pub high : k ≤ 9
  pub none_above : above ≡ false

pub largest_right : (k : ℕ) (above : Bool) → largest_wrong k above ≡ false → Largest k above
largest_right k above e =
    let a = ltb k 3 in
    let b = ltb 9 k in
    let d = or_left (a || b) above e in
    record { low = ltb-false k 3 (or_left a b d); high = ltb-false 9 k (or_right a b d); none_above = or_right (a || b) above e }

-- counts that are not above K are those of a table
table_right : (points k m o : ℕ) → RightCounts points m o → count_above k m o ≡ false → IsTable points k m o
table_right points k m o w e = record {
  mover_low = w.mover_low;
  mover_high = ltb-false k m (or_left (ltb k m) (ltb k o) e);
  opponent_low = w.opponent_low;
  opponent_high = ltb-false k o (or_right (ltb k m) (ltb k o) e);
  stones_fit = w.stones_fit;
}

-- an accepted tablebase of n entries
pub record AcceptedTablebase (rings k n : ℕ) : Type 0 where
  pub rings_low : 1 ≤ rings
  pub rings_high : rings ≤ 3
  pub largest_low : 3 ≤ k
  pub largest_high : k ≤ 9
  pub exact : n ≡ tablebase_length (8 * rings) k

tablebase_right : (rings k : ℕ) (above : Bool) (n : ℕ) → (1 ≤ rings) × (rings ≤ 3) → Largest k above → tablebase_wrong rings k n ≡ false
    → AcceptedTablebase rings k n
tablebase_right rings k above n r l e =
    let m = tablebase_length (8 * rings) k in
    record {
      rings_low = r.0;
      rings_high = r.1;
      largest_low = l.low;
      largest_high = l.high;
      exact = eqb-true n m (not-false (eqb n m) e);
    }

-- and an accepted board, which has its place there
pub record AcceptedEntry (rings : ℕ) (b : List ℕ) (k n : ℕ) : Type 0 where
  pub board : Accepted rings b
  pub tablebase : AcceptedTablebase rings k n
  pub in_tables : InTables rings k b

pub both_right : (rings edition : ℕ) (b : List ℕ) (k n : ℕ) → refusal (tablebase_picks rings edition b k n) ≡ 0
    → (refusal (reachable_picks rings edition b) ≡ 0) × (refusal (largest_picks rings k (count_above k (count 1 b) (count 2 b)) n) ≡ 0)
both_right rings edition b k n e =
    both_passed (picked_rows refusal_table (reachable_picks rings edition b)) (picked_rows refusal_table
    (largest_picks rings k (count_above k (count 1 b) (count 2 b)) n)) refl e

pub accepted_entry : (rings edition : ℕ) (b : List ℕ) (k n : ℕ) → refusal (tablebase_picks rings edition b k n) ≡ 0 → AcceptedEntry rings b k n
accepted_entry rings edition b k n e =
    let above = count_above k (count 1 b) (count 2 b) in
    let p = both_right rings edition b k n e in
    let q = passed (picked_rows refusal_table (largest_picks rings k above n)) refl p.1 in
    let w = ruled_board rings edition b (reachable_passed rings edition b p.0).0 in
    let l = largest_right k above q.0 in
    let t = table_right (8 * rings) k (count 1 b) (count 2 b) w.counted l.none_above in
    record {
      board = w;
      tablebase = tablebase_right rings k above n (w.rings_low, w.rings_high) l q.1.0;
      in_tables = record { points = w.points; values = w.values; is_table = t };
    }

-- a game may reach it
pub entry_reachable : (rings edition : ℕ) (b : List ℕ) (k n : ℕ) → refusal (tablebase_picks rings edition b k n) ≡ 0
    → position_unreachable rings edition b ≡ false
entry_reachable rings edition b k n e = (reachable_passed rings edition b (both_right rings edition b k n e).0).1

-- and every board of the tables of an accepted tablebase that a game may reach is one, under a right edition
pub entry_passes : (rings edition : ℕ) (b : List ℕ) (k n : ℕ) → edition_wrong edition ≡ false → position_unreachable rings edition b ≡ false
    → AcceptedTablebase rings k n → InTables rings k b → refusal (tablebase_picks rings edition b k n) ≡ 0
entry_passes rings edition b k n d u a s =
    let m = count 1 b in
    let o = count 2 b in
    let t = s.is_table in
    let board : Accepted rings b = record {
      rings_low = a.rings_low;
      rings_high = a.rings_high;
      points = s.points;
      values = s.values;
      counted = record {
        mover_low = t.mover_low;
        mover_high = omega (arith, t.mover_high, a.largest_high);
        opponent_low = t.opponent_low;
        opponent_high = omega (arith, t.opponent_high, a.largest_high);
        stones_fit = t.stones_fit;
      };
    } in
    let above : count_above k m o ≡ false = rw (le-ltb k m t.mover_high, le-ltb k o t.opponent_high) in
    let right : largest_wrong k (count_above k m o) ≡ false = rw (le-ltb k 3 a.largest_low, le-ltb 9 k a.largest_high, above) in
    let exact : tablebase_wrong rings k n ≡ false = ap not (eq-eqb n (tablebase_length (8 * rings) k) a.exact) in
    first_after (picked_rows refusal_table (reachable_picks rings edition b)) (picked_rows refusal_table (largest_picks rings k (count_above k m o) n)) refl
    (sym (reachable_passes rings edition b (sym (ruled_passes rings edition b d board)) u))
    ∙ sym (passes (picked_rows refusal_table (largest_picks rings k (count_above k m o) n)) (right, (exact, tt)))

-- 1, 20, 11 and 6 of a check, the first of those that are met
pub check_cases : (refusal (check_picks 4 3 2 0) ≡ 1) × (refusal (check_picks 1 3 2 0) ≡ 20) × (refusal (check_picks 1 2 10 0) ≡ 11)
    × ((n : ℕ) → refusal (check_picks 1 1 3 n) ≡ cond (tablebase_wrong 1 3 n) 6 0)
check_cases = (refl, refl, refl, λ n. first_cons (tablebase_wrong 1 3 n) 6 [])

-- an accepted tablebase to check
pub record AcceptedCheck (rings edition k n : ℕ) : Type 0 where
  pub edition_accepted : edition_wrong edition ≡ false
  pub tablebase : AcceptedTablebase rings k n

pub accepted_check : (rings edition k n : ℕ) → refusal (check_picks rings edition k n) ≡ 0 → AcceptedCheck rings edition k n
accepted_check rings edition k n e =
    let p = passed (picked_rows refusal_table (check_picks rings edition k n)) refl e in
    record {
      edition_accepted = p.1.0;
      tablebase = tablebase_right rings k false n (rings_right rings p.0) (largest_right k false p.1.1.0) p.1.1.1.0;
    }

-- a tablebase that is accepted to fill is accepted to check
pub fill_check : (rings edition k limit n : ℕ) → refusal (fill_picks rings edition k limit n) ≡ 0 → refusal (check_picks rings edition k n) ≡ 0
fill_check rings edition k limit n e =
    (both_passed (picked_rows refusal_table (check_picks rings edition k n)) (record { holds = limit_wrong limit; number = 10 } ∷ []) refl e).0

-- an accepted tablebase to fill
pub record AcceptedFill (rings edition k limit n : ℕ) : Type 0 where
  pub edition_accepted : edition_wrong edition ≡ false
  pub tablebase : AcceptedTablebase rings k n
  pub limit_high : limit ≤ largest_limit

pub accepted_fill : (rings edition k limit n : ℕ) → refusal (fill_picks rings edition k limit n) ≡ 0 → AcceptedFill rings edition k limit n
accepted_fill rings edition k limit n e =
    let p = passed (picked_rows refusal_table (fill_picks rings edition k limit n)) refl e in
    record {
      edition_accepted = p.1.0;
      tablebase = tablebase_right rings k false n (rings_right rings p.0) (largest_right k false p.1.1.0) p.1.1.1.0;
      limit_high = ltb-false largest_limit limit p.1.1.1.1.0;
    }

-- an accepted pair to fill
pub record AcceptedPair (rings edition m o k limit n : ℕ) : Type 0 where
  pub edition_accepted : edition_wrong edition ≡ false
  pub tablebase : AcceptedTablebase rings k n
  pub is_table : IsTable (8 * rings) k m o
  pub limit_high : limit ≤ largest_limit

pub accepted_pair : (rings edition m o k limit n : ℕ) → refusal (tables_picks rings edition m o k limit n) ≡ 0
    → AcceptedPair rings edition m o k limit n
accepted_pair rings edition m o k limit n e =
    let p = passed (picked_rows refusal_table (tables_picks rings edition m o k limit n)) refl e in
    let l = largest_right k (count_above k m o) p.1.1.1.0 in
    record {
      edition_accepted = p.1.0;
      tablebase = tablebase_right rings k (count_above k m o) n (rings_right rings p.0) l p.1.1.1.1.0;
      is_table = table_right (8 * rings) k m o (counts_right (8 * rings) m o p.1.1.0) l.none_above;
      limit_high = ltb-false largest_limit limit p.1.1.1.1.1.0;
    }

-- the counts of a pair come after rings and edition; K, the tablebase and the limit after them
module _ (rings edition m o k limit n : ℕ) where
  abbrev counted : List Pick
  counted = limit_picks rings k (count_above k m o) limit n ++ stones_picks rings m o

  rings_first : RingsFirst rings counted
  rings_first = record { no_frame = refl; rings_picked = refl; no_edition = refl }

  abbrev later : List Picked
  later = picked_rows refusal_table (limit_picks rings k (count_above k m o) limit n)

  pub ruled_refused : (r : ℕ) → (r ≡ 0 → ⊥) → r ≡ refusal (edition_picks rings edition) → r ≡ refusal (tables_picks rings edition m o k limit n)
  ruled_refused r z e = edition_refused rings edition counted rings_first r z e

  module _ (ruled : 0 ≡ refusal (edition_picks rings edition)) where
    pub tables_refused : (r : ℕ) → (r ≡ 0 → ⊥) → r ≡ refusal (stones_picks rings m o) → r ≡ refusal (tables_picks rings edition m o k limit n)
    tables_refused r z e = first_kept (picked_rows refusal_table (stones_picks rings m o)) later r z e
        ∙ sym (edition_decides rings edition counted rings_first ruled)

    pub tables_decides : 0 ≡ refusal (stones_picks rings m o)
        → refusal (tables_picks rings edition m o k limit n) ≡ refusal (limit_picks rings k (count_above k m o) limit n)
    tables_decides e = edition_decides rings edition counted rings_first ruled
        ∙ first_after (picked_rows refusal_table (stones_picks rings m o)) later refl e

-- a limit comes after K and the tablebase
module _ (rings k : ℕ) (above : Bool) (limit n : ℕ) where
  pub limit_refused : (r : ℕ) → (r ≡ 0 → ⊥) → r ≡ refusal (largest_picks rings k above n) → r ≡ refusal (limit_picks rings k above limit n)
  limit_refused r z e = first_kept (picked_rows refusal_table (largest_picks rings k above n)) (record { holds = limit_wrong limit; number = 10 } ∷ []) r z e

  pub limit_decides : 0 ≡ refusal (largest_picks rings k above n) → refusal (limit_picks rings k above limit n) ≡ cond (limit_wrong limit) 10 0
  limit_decides e = one_more (picked_rows refusal_table (largest_picks rings k above n)) (limit_wrong limit) 10 refl e

-- the entries read come after board and tablebase: the one looked up
module _ (rings edition : ℕ) (b : List ℕ) (k : ℕ) (tablebase : List ℕ) where
  abbrev rows : List Picked
  rows = picked_rows refusal_table (tablebase_picks rings edition b k (length tablebase))

  pub lookup_refused : (n : ℕ) → (n ≡ 0 → ⊥) → n ≡ refusal (tablebase_picks rings edition b k (length tablebase))
      → n ≡ refusal (lookup_picks rings edition b k tablebase)
  lookup_refused n z e =
      first_kept rows
      (record { holds = is_void (entry_at rings k tablebase b); number = 12 } ∷ []) n z e

  pub lookup_decides : 0 ≡ refusal (tablebase_picks rings edition b k (length tablebase))
      → refusal (lookup_picks rings edition b k tablebase) ≡ cond (is_void (entry_at rings k tablebase b)) 12 0
  lookup_decides e = one_more rows (is_void (entry_at rings k tablebase b)) 12 refl e

  -- no refusal at all: none before the entry is read
  pub lookup_before : refusal (lookup_picks rings edition b k tablebase) ≡ 0 → refusal (tablebase_picks rings edition b k (length tablebase)) ≡ 0
  lookup_before e =
      (both_passed rows
      (record { holds = is_void (entry_at rings k tablebase b); number = 12 } ∷ []) refl e).0

  -- those of the successors, where the mover is not blocked
  pub best_move_refused : (n : ℕ) → (n ≡ 0 → ⊥) → n ≡ refusal (tablebase_picks rings edition b k (length tablebase))
      → n ≡ refusal (best_move_picks rings edition b k tablebase)
  best_move_refused n z e =
      first_kept rows
      (record { holds = mover_blocked rings b; number = 9 }
      ∷ record { holds = successor_void (removable edition) rings k tablebase b; number = 12 } ∷ []) n z e

  pub best_move_decides : 0 ≡ refusal (tablebase_picks rings edition b k (length tablebase))
      → refusal (best_move_picks rings edition b k tablebase) ≡ cond (mover_blocked rings b) 9
      (cond (successor_void (removable edition) rings k tablebase b) 12 0)
  best_move_decides e =
      let last : List Picked = record { holds = successor_void (removable edition) rings k tablebase b; number = 12 } ∷ [] in
      first_after rows (record { holds = mover_blocked rings b; number = 9 } ∷ last) refl e
      ∙ first_cons (mover_blocked rings b) 9 last ∙ ap (cond (mover_blocked rings b) 9)
      (first_cons (successor_void (removable edition) rings k tablebase b) 12 [])

-- those of a pair's lower tables
module _ (rings edition m o k limit : ℕ) (tablebase : List ℕ) where
  pub pair_refused : (n : ℕ) → (n ≡ 0 → ⊥) → n ≡ refusal (tables_picks rings edition m o k limit (length tablebase))
      → n ≡ refusal (pair_picks rings edition m o k limit tablebase)
  pair_refused n z e =
      first_kept (picked_rows refusal_table (tables_picks rings edition m o k limit (length tablebase)))
      (record { holds = lower_void rings k tablebase m o; number = 12 } ∷ []) n z e

  pub pair_decides : 0 ≡ refusal (tables_picks rings edition m o k limit (length tablebase))
      → refusal (pair_picks rings edition m o k limit tablebase) ≡ cond (lower_void rings k tablebase m o) 12 0
  pair_decides e = one_more (picked_rows refusal_table (tables_picks rings edition m o k limit (length tablebase)))
      (lower_void rings k tablebase m o) 12 refl e

  -- no refusal at all: none before the lower tables are read
  pub pair_before : refusal (pair_picks rings edition m o k limit tablebase) ≡ 0
      → refusal (tables_picks rings edition m o k limit (length tablebase)) ≡ 0
  pair_before e =
      (both_passed (picked_rows refusal_table (tables_picks rings edition m o k limit (length tablebase)))
      (record { holds = lower_void rings k tablebase m o; number = 12 } ∷ [])
      refl e).0
