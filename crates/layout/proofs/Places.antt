-- Where the tables of a tablebase lie: one after the other, in the rows of rising m. Each place is a place of one table, and of one only.
-- Assumes nothing.
use mathlib.Core.Path.{◌≡◌, refl, sym, ap, ap₂, ◌∙◌}
use mathlib.Core.Bool.{Bool, true, false}
use mathlib.Core.List.{List, [], ◌∷◌, ◌++◌, map, map-append, append-nil}
use Prim.Native.Nat.{ℕ, zero, suc, ◌+◌, ◌-◌, ◌≤◌, ◌<◌}
use native.Mathlib.Nat.{suc-add}
use native.Mathlib.Omega.{arith}
use lib.Dec.{leb, ltb}
use borrow.Author.Tests.{leb-false, lt-ltb, le-ltb, eq-eqb, ne_eqb}
use Rattle.lists.specs.Lists.{range, keep, each}
use Rattle.lists.proofs.Joined.{range_split, each_append}
use Rattle.lists.proofs.Keep.{keep_yes, keep_no, keep_append}
use Rattle.sizes.specs.Size.{size}
use Rattle.layout.specs.Layout.{Table, table, stones, row, tables, entries, earlier, start, tablebase_length}
use Rattle.sizes.proofs.Multinomials.{size_over}

module _ (points : ℕ) where
  entries_append : (xs ys : List Table) → entries points (xs ++ ys) ≡ entries points xs + entries points ys
  entries_append [] ys = omega arith
  entries_append (t ∷ xs) ys = omega (arith, entries_append xs ys)

  fits : Table → Bool
  fits t = leb (t.mover + t.opponent) points

  -- tables with more stones than points hold nothing
  entries_fit : (f : Table → Bool) (ts : List Table) → entries points (keep f (keep (λ t. fits t) ts)) ≡ entries points (keep f ts)
  unfolding fits
  entries_fit f [] = refl
  entries_fit f (t ∷ ts) = go (fits t) refl (f t) refl (entries_fit f ts)
    where
      go : (a : Bool) → fits t ≡ a → (b : Bool) → f t ≡ b → entries points (keep f (keep (λ t. fits t) ts)) ≡ entries points (keep f ts)
          → entries points (keep f (keep (λ t. fits t) (t ∷ ts))) ≡ entries points (keep f (t ∷ ts))
      go true p true q r = rw (keep_yes (λ t. fits t) t ts p, keep_yes f t (keep (λ t. fits t) ts) q, keep_yes f t ts q) (omega (arith, r))
      go true p false q r = rw (keep_yes (λ t. fits t) t ts p, keep_no f t (keep (λ t. fits t) ts) q, keep_no f t ts q) r
      go false p true q r =
          rw (keep_no (λ t. fits t) t ts p, keep_yes f t ts q)
          (omega (arith, r, size_over points t.mover t.opponent (leb-false (t.mover + t.opponent) points p)))
      go false p false q r = rw (keep_no (λ t. fits t) t ts p, keep_no f t ts q) r

-- the entries of the first n tables of a row, and of the first n rows
abbrev pub row_part : ℕ → ℕ → ℕ → ℕ
row_part points m n = entries points (map (λ o. table m o) (range 3 n))

abbrev pub rows_part : ℕ → ℕ → ℕ → ℕ
rows_part points k n = entries points (each (λ m. row k m) (range 3 n))

pub row_more : (points m n : ℕ) → row_part points m (suc n) ≡ row_part points m n + size points m (3 + n)
row_more points m n =
    let e : n + 1 ≡ suc n = omega arith in
    ap (row_part points m) (sym e) ∙ ap (λ (l : List ℕ). entries points (map (λ o. table m o) l)) (range_split 3 n 1)
    ∙ ap (entries points) (map-append (λ o. table m o) (range 3 n) ((3 + n) ∷ []))
    ∙ entries_append points (map (λ o. table m o) (range 3 n)) (table m (3 + n) ∷ []) ∙ omega arith

pub rows_more : (points k n : ℕ) → rows_part points k (suc n) ≡ rows_part points k n + entries points (row k (3 + n))
rows_more points k n =
    let e : n + 1 ≡ suc n = omega arith in
    ap (rows_part points k) (sym e) ∙ ap (λ (l : List ℕ). entries points (each (λ m. row k m) l)) (range_split 3 n 1)
    ∙ ap (entries points) (each_append (λ m. row k m) (range 3 n) ((3 + n) ∷ []))
    ∙ entries_append points (each (λ m. row k m) (range 3 n)) (row k (3 + n) ++ [])
    ∙ omega (arith, entries_append points (row k (3 + n)) [])

-- the tables before (m, o): the rows of fewer of the mover's stones, and in its own row those of fewer of the opponent's
module _ (m o : ℕ) where
  is_earlier : Table → Bool
  is_earlier t = earlier m o t

  row_before : (a : ℕ) (l : List ℕ) → a < m → keep (λ t. is_earlier t) (map (λ x. table a x) l) ≡ map (λ x. table a x) l
  unfolding is_earlier
  row_before a [] h = refl
  row_before a (x ∷ l) h =
      keep_yes (λ t. is_earlier t) (table a x) (map (λ x. table a x) l) (rw (lt-ltb a m h))
      ∙ ap (λ (r : List Table). table a x ∷ r) (row_before a l h)

  row_after : (a : ℕ) (l : List ℕ) → m < a → keep (λ t. is_earlier t) (map (λ x. table a x) l) ≡ []
  unfolding is_earlier
  row_after a [] h = refl
  row_after a (x ∷ l) h =
      keep_no (λ t. is_earlier t) (table a x) (map (λ x. table a x) l) (rw (le-ltb a m (omega arith), ne_eqb a m (λ e. absurd (omega arith))))
      ∙ row_after a l h

  in_row : (x : ℕ) → is_earlier (table m x) ≡ ltb x o
  unfolding is_earlier
  in_row x = rw (le-ltb m m (omega arith), eq-eqb m m refl)

  row_end : (n a : ℕ) → o ≤ a → keep (λ t. is_earlier t) (map (λ x. table m x) (range a n)) ≡ []
  row_end zero a h = refl
  row_end (suc n) a h =
      keep_no (λ t. is_earlier t) (table m a) (map (λ x. table m x) (range (suc a) n)) (in_row a ∙ le-ltb a o h) ∙ row_end n (suc a) (omega arith)

  row_at : (d n a : ℕ) → a + d ≡ o → keep (λ t. is_earlier t) (map (λ x. table m x) (range a (d + n))) ≡ map (λ x. table m x) (range a d)
  row_at zero n a e = row_end (0 + n) a (omega arith)
  row_at (suc d) n a e =
      ap (λ (k : ℕ). keep (λ t. is_earlier t) (map (λ x. table m x) (range a k))) (suc-add d n)
      ∙ keep_yes (λ t. is_earlier t) (table m a) (map (λ x. table m x) (range (suc a) (d + n))) (in_row a ∙ lt-ltb a o (omega arith))
      ∙ ap (λ (r : List Table). table m a ∷ r) (row_at d n (suc a) (omega arith))

  rows_before : (k n a : ℕ) → a + n ≤ m → keep (λ t. is_earlier t) (each (λ x. row k x) (range a n)) ≡ each (λ x. row k x) (range a n)
  rows_before k zero a h = refl
  rows_before k (suc n) a h =
      keep_append (λ t. is_earlier t) (row k a) (each (λ x. row k x) (range (suc a) n))
      ∙ ap₂ (λ (x y : List Table). x ++ y) (row_before a (stones k) (omega arith)) (rows_before k n (suc a) (omega arith))

  rows_after : (k n a : ℕ) → m < a → keep (λ t. is_earlier t) (each (λ x. row k x) (range a n)) ≡ []
  rows_after k zero a h = refl
  rows_after k (suc n) a h =
      keep_append (λ t. is_earlier t) (row k a) (each (λ x. row k x) (range (suc a) n))
      ∙ ap₂ (λ (x y : List Table). x ++ y) (row_after a (stones k) h) (rows_after k n (suc a) (omega arith))

  -- those of the rows 3, .., k
  tables_before : (k : ℕ) → 3 ≤ m → m ≤ k → 3 ≤ o → o ≤ k
      → keep (λ t. is_earlier t) (each (λ x. row k x) (stones k)) ≡ each (λ x. row k x) (range 3 (m - 3)) ++ map (λ x. table m x) (range 3 (o - 3))
  tables_before k a b c d =
      let w : k - 2 ≡ (m - 3) + suc (k - m) = omega arith in
      let v : k - 2 ≡ (o - 3) + suc (k - o) = omega arith in
      let e : 3 + (m - 3) ≡ m = omega arith in
      let s : stones k ≡ range 3 (m - 3) ++ (m ∷ range (suc m) (k - m)) =
      ap (range 3) w ∙ range_split 3 (m - 3) (suc (k - m)) ∙ ap (λ (x : ℕ). range 3 (m - 3) ++ range x (suc (k - m))) e in
      let r : keep (λ t. is_earlier t) (row k m) ≡ map (λ x. table m x) (range 3 (o - 3)) =
      ap (λ (x : ℕ). keep (λ t. is_earlier t) (map (λ y. table m y) (range 3 x))) v ∙ row_at (o - 3) (suc (k - o)) 3 (omega arith) in
      ap (λ (l : List ℕ). keep (λ t. is_earlier t) (each (λ x. row k x) l)) s
      ∙ ap (keep (λ t. is_earlier t)) (each_append (λ x. row k x) (range 3 (m - 3)) (m ∷ range (suc m) (k - m)))
      ∙ keep_append (λ t. is_earlier t) (each (λ x. row k x) (range 3 (m - 3))) (row k m ++ each (λ x. row k x) (range (suc m) (k - m)))
      ∙ ap₂ (λ (x y : List Table). x ++ y) (rows_before k (m - 3) 3 (omega arith))
      (keep_append (λ t. is_earlier t) (row k m) (each (λ x. row k x) (range (suc m) (k - m)))
      ∙ ap₂ (λ (x y : List Table). x ++ y) r (rows_after k (k - m) (suc m) (omega arith)) ∙ append-nil (map (λ x. table m x) (range 3 (o - 3))))

-- the tables of a tablebase are those of its rows whose stones fit the points
pub tables_kept : (points k : ℕ) → tables points k ≡ keep (λ t. leb (t.mover + t.opponent) points) (each (λ m. row k m) (stones k))
unfolding tables
tables_kept points k = refl

-- the start of a table, and the length of a tablebase, as sums over rows
pub start_is : (points k m o : ℕ) → 3 ≤ m → m ≤ k → 3 ≤ o → o ≤ k
    → start points k m o ≡ rows_part points k (m - 3) + row_part points m (o - 3)
unfolding start tables is_earlier fits
start_is points k m o a b c d =
    entries_fit points (λ t. is_earlier m o t) (each (λ x. row k x) (stones k)) ∙ ap (entries points) (tables_before m o k a b c d)
    ∙ entries_append points (each (λ x. row k x) (range 3 (m - 3))) (map (λ x. table m x) (range 3 (o - 3)))

keep_all : (ts : List Table) → keep (λ t. true) ts ≡ ts
keep_all [] = refl
keep_all (t ∷ ts) = ap (λ (l : List Table). t ∷ l) (keep_all ts)

pub length_is_lem : (points k : ℕ) → tablebase_length points k ≡ rows_part points k (k - 2)
unfolding tablebase_length tables fits
length_is_lem points k =
    let ts = each (λ x. row k x) (stones k) in
    ap (entries points) (sym (keep_all (keep (λ t. fits points t) ts))) ∙ entries_fit points (λ t. true) ts ∙ ap (entries points) (keep_all ts)
