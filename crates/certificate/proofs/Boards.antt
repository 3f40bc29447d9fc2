-- The boards of a tablebase in order: each of its boards is there, and stands at the index of its entry. Assumes nothing.
use mathlib.Core.Path.{◌≡◌, refl, sym, ap, ap₂, subst, ◌∙◌}
use mathlib.Core.Bool.{Bool, true, false}
use mathlib.Core.List.{List, [], ◌∷◌, ◌++◌, map, Memᴰ}
use Prim.Native.Nat.{ℕ, ◌+◌, ◌-◌, ◌*◌, ◌≤◌, ◌<◌}
use native.Mathlib.Omega.{arith}
use lib.Dec.{leb}
use lib.ListN.{length, length-append, length-map}
use borrow.Author.Tests.{leb-false}
use Rattle.lists.specs.Lists.{range, keep, each}
use Rattle.lists.proofs.Joined.{each_append}
use Rattle.lists.proofs.Keep.{keep_yes, keep_no}
use Rattle.lists.proofs.Lengths.{length_range}
use Rattle.lists.proofs.Members.{each_member, member_each, map_member, member_map, range_member, member_range}
use Rattle.sizes.specs.Size.{size}
use Rattle.sizes.proofs.Multinomials.{size_over}
use Rattle.board.specs.Board.{count}
use Rattle.ranking.specs.Rank.{rank}
use Rattle.ranking.specs.Unrank.{unrank}
use Rattle.layout.specs.Layout.{Table, table, stones, row, tables, entries, tablebase_length}
use Rattle.layout.proofs.Places.{tables_kept, length_is_lem}
use Rattle.layout.proofs.OneToOne.{in_range, table_listed, listed_table}
use Rattle.outcomes.specs.Filled.{AllTables}
use Rattle.outcomes.proofs.Boards.{InTables}
use Rattle.outcomes.proofs.Ranked.{own_table, rank_in, unrank_of, unrank_stands}
use Rattle.certificate.specs.Certificate.{boards_of, boards}
use Rattle.certificate.proofs.Passing.{parts_from, each_single, each_map}

-- a board of the tablebase is among them, and they are boards of the tablebase
module _ (rings k : ℕ) where
  board_listed : (x y r : ℕ) → AllTables rings k x y → r < size (8 * rings) x y → Memᴰ (unrank (8 * rings) x y r) (boards (8 * rings) k)
  unfolding boards
  board_listed x y r t h =
      member_each (λ u. boards_of (8 * rings) u) (tables (8 * rings) k) (table x y) t
      (member_map (λ i. unrank (8 * rings) x y i) (range 0 (size (8 * rings) x y)) (member_range (size (8 * rings) x y) 0 r (omega arith) (omega arith)))

  pub tables_listed : (b : List ℕ) → InTables rings k b → Memᴰ b (boards (8 * rings) k)
  tables_listed b s =
      let w = own_table rings k b s in
      let x = count 1 b in
      let y = count 2 b in
      subst (λ (c : List ℕ). Memᴰ c (boards (8 * rings) k)) (unrank_of rings x y b w)
      (board_listed x y (rank b) (table_listed (8 * rings) k x y s.is_table) (rank_in rings x y b w))

  pub listed_board : (b : List ℕ) → Memᴰ b (boards (8 * rings) k) → InTables rings k b
  unfolding boards
  listed_board b m =
      let (t, i, j) = each_member (λ u. boards_of (8 * rings) u) (tables (8 * rings) k) m in
      let (r, l, e) = map_member (λ i. unrank (8 * rings) t.mover t.opponent i) (range 0 (size (8 * rings) t.mover t.opponent)) j in
      rw e (unrank_stands rings k t.mover t.opponent r (in_range (listed_table (8 * rings) k t.mover t.opponent i))
      (omega (arith, range_member (size (8 * rings) t.mover t.opponent) 0 l)))

module _ (points : ℕ) where
  abbrev boards_of_lem : List Table → List (List ℕ)
  boards_of_lem ts = each (λ t. boards_of points t) ts

  -- a board for each entry
  pub boards_length : (ts : List Table) → length (boards_of_lem ts) ≡ entries points ts
  boards_length [] = refl
  boards_length (t ∷ ts) =
      let n = size points t.mover t.opponent in
      length-append (boards_of points t) (boards_of_lem ts)
      ∙ ap₂ ◌+◌ (length-map (range 0 n) (λ r. unrank points t.mover t.opponent r) ∙ length_range n 0) (boards_length ts)

  abbrev fits : Table → Bool
  fits t = leb (t.mover + t.opponent) points

  -- tables with more stones than points have none
  boards_fit : (ts : List Table) → boards_of_lem (keep fits ts) ≡ boards_of_lem ts
  boards_fit [] = refl
  boards_fit (t ∷ ts) = go (fits t) refl (boards_fit ts)
    where
      go : (b : Bool) → fits t ≡ b → boards_of_lem (keep fits ts) ≡ boards_of_lem ts → boards_of_lem (keep fits (t ∷ ts)) ≡ boards_of_lem (t ∷ ts)
      go true e r = ap boards_of_lem (keep_yes fits t ts e) ∙ ap (λ (l : List (List ℕ)). boards_of points t ++ l) r
      go false e r = ap boards_of_lem (keep_no fits t ts e) ∙ r
          ∙ sym (ap (λ (n : ℕ). map (λ i. unrank points t.mover t.opponent i) (range 0 n) ++ boards_of_lem ts)
          (size_over points t.mover t.opponent (leb-false (t.mover + t.opponent) points e)))

  boards_kept : (k : ℕ) → boards points k ≡ boards_of_lem (each (λ m. row k m) (stones k))
  unfolding boards
  boards_kept k = ap boards_of_lem (tables_kept points k) ∙ boards_fit (each (λ m. row k m) (stones k))

  -- row after row
  rows_boards : (k : ℕ) (ms : List ℕ) → boards_of_lem (each (λ m. row k m) ms) ≡ each (λ m. boards_of_lem (row k m)) ms
  rows_boards k [] = refl
  rows_boards k (m ∷ ms) =
      each_append (λ t. boards_of points t) (row k m) (each (λ x. row k x) ms) ∙ ap (λ (l : List (List ℕ)). boards_of_lem (row k m) ++ l) (rows_boards k ms)

  boards_rows : (k : ℕ) → boards points k ≡ each (λ m. each (λ t. boards_of points t) (row k m)) (stones k)
  boards_rows k = boards_kept k ∙ rows_boards k (stones k)

  -- a table rank by rank, a row table by table, and a tablebase row by row
  pub all_ranks : (m o : ℕ) → parts_from (λ r. unrank points m o r ∷ []) 0 (size points m o) ≡ boards_of points (table m o)
  all_ranks m o =
      let e : size points m o - 0 ≡ size points m o = omega arith in
      each_single (λ r. unrank points m o r) (range 0 (size points m o - 0)) ∙ ap (λ (n : ℕ). map (λ r. unrank points m o r) (range 0 n)) e

  pub all_tables : (k m : ℕ) → 3 ≤ k → parts_from (λ o. boards_of points (table m o)) 3 (k + 1) ≡ each (λ t. boards_of points t) (row k m)
  all_tables k m h =
      let e : k + 1 - 3 ≡ k - 2 = omega arith in
      ap (λ (n : ℕ). each (λ o. boards_of points (table m o)) (range 3 n)) e ∙ sym (each_map (λ t. boards_of points t) (λ o. table m o) (stones k))

  pub all_rows : (k : ℕ) → 3 ≤ k → parts_from (λ m. each (λ t. boards_of points t) (row k m)) 3 (k + 1) ≡ boards points k
  all_rows k h =
      let e : k + 1 - 3 ≡ k - 2 = omega arith in
      ap (λ (n : ℕ). each (λ m. each (λ t. boards_of points t) (row k m)) (range 3 n)) e ∙ sym (boards_rows k)

  pub boards_all : (k : ℕ) → length (boards points k) ≡ tablebase_length points k
  boards_all k = ap length (boards_kept k) ∙ boards_length (each (λ m. row k m) (stones k)) ∙ sym (length_is_lem points k)
