-- Places of a tablebase and positions are one-to-one: each place below the length is a place of one table at one rank, and of no other;
-- tables do not overlap. Assumes nothing.
use mathlib.Core.Path.{◌≡◌, refl, sym, ap, subst}
use mathlib.Core.Bool.{Bool, true, false, ◌||◌, ◌&&◌, or-true, false≢true}
use mathlib.Core.List.{Memᴰ}
use Prim.Native.Nat.{ℕ, ◌+◌, ◌-◌, ◌≤◌, ◌<◌}
use native.Mathlib.Omega.{arith}
use lib.Dec.{eqb, leb, ltb}
use borrow.Author.Tests.{ltb-true, ltb-false, leb-true, le-leb, eqb-true, eq-eqb}
use Rattle.lists.specs.Lists.{each}
use Rattle.lists.proofs.Members.{keep_member, member_keep, each_member, member_each, map_member, member_map, range_member, member_range}
use Rattle.sizes.specs.Size.{size}
use Rattle.layout.specs.Layout.{Table, table, stones, row, tables, entries, earlier, start, end, tablebase_length}
use Rattle.sizes.proofs.Multinomials.{stones_few}
use Rattle.layout.proofs.Consecutive.{part_before, part_of}
use Rattle.layout.proofs.Places.{row_part, rows_part, row_more, rows_more, start_is, length_is_lem}

-- (m, o) is a table of largest count k
pub record IsTable (points k m o : ℕ) : Type 0 where
  pub mover_low : 3 ≤ m
  pub mover_high : m ≤ k
  pub opponent_low : 3 ≤ o
  pub opponent_high : o ≤ k
  pub stones_fit : m + o ≤ points

-- counts of a table, whether or not its stones fit the points
pub record InRange (k m o : ℕ) : Type 0 where
  pub mover_low : 3 ≤ m
  pub mover_high : m ≤ k
  pub opponent_low : 3 ≤ o
  pub opponent_high : o ≤ k

pub in_range : {points k m o : ℕ} → IsTable points k m o → InRange k m o
in_range w = record { mover_low = w.mover_low; mover_high = w.mover_high; opponent_low = w.opponent_low; opponent_high = w.opponent_high }

-- those are the tables that are listed
pub table_listed : (points k m o : ℕ) → IsTable points k m o → Memᴰ (table m o) (tables points k)
unfolding tables
table_listed points k m o w =
    member_keep (λ t. leb (t.mover + t.opponent) points) (each (λ x. row k x) (stones k))
    (member_each (λ x. row k x) (stones k) m (member_range (k - 2) 3 m w.mover_low (omega (arith, w.mover_low, w.mover_high)))
    (member_map (λ x. table m x) (stones k) (member_range (k - 2) 3 o w.opponent_low (omega (arith, w.opponent_low, w.opponent_high)))))
    (le-leb (m + o) points w.stones_fit)

pub listed_table : (points k m o : ℕ) → Memᴰ (table m o) (tables points k) → IsTable points k m o
unfolding tables
listed_table points k m o d =
    let a = keep_member (λ t. leb (t.mover + t.opponent) points) (each (λ x. row k x) (stones k)) d in
    let b = each_member (λ x. row k x) (stones k) a.0 in
    let c = map_member (λ x. table b.0 x) (stones k) b.2 in
    let p = range_member (k - 2) 3 b.1 in
    let q = range_member (k - 2) 3 c.1 in
    let e : m ≡ b.0 = ap (λ (t : Table). t.mover) c.2 in
    let f : o ≡ c.0 = ap (λ (t : Table). t.opponent) c.2 in
    record {
      mover_low = omega (arith, p);
      mover_high = omega (arith, p);
      opponent_low = omega (arith, q);
      opponent_high = omega (arith, q);
      stones_fit = leb-true (m + o) points a.1;
    }

-- place x is that of rank r in table (m, o)
pub record PlaceOf (points k m o r x : ℕ) : Type 0 where
  pub is_table : IsTable points k m o
  pub rank_low : r < size points m o
  pub at : start points k m o + r ≡ x

-- a table's end, by its start and its size
pub end_is : (points k m o : ℕ) → end points k m o ≡ start points k m o + size points m o
unfolding end
end_is points k m o = refl

module _ (points k : ℕ) where
  starts : {m o : ℕ} → InRange k m o → start points k m o ≡ rows_part points k (m - 3) + row_part points m (o - 3)
  starts {m} {o} w = start_is points k m o w.mover_low w.mover_high w.opponent_low w.opponent_high

  -- a table ends before a later one of its row starts, and within its row
  in_row : (m i j : ℕ) → i < j → row_part points m i + size points m (3 + i) ≤ row_part points m j
  in_row m i j h = part_before (row_part points m) (λ n. size points m (3 + n)) refl (row_more points m) h

  -- and the row before a later row starts, and within the tablebase
  in_rows : (i j : ℕ) → i < j → rows_part points k i + row_part points (3 + i) (k - 2) ≤ rows_part points k j
  in_rows i j h = part_before (rows_part points k) (λ n. entries points (row k (3 + n))) refl (rows_more points k) h

  -- the end of a table within its row
  row_room : {m o : ℕ} → InRange k m o → row_part points m (o - 3) + size points m o ≤ row_part points m (k - 2)
  row_room {m} {o} w =
      let e : 3 + (o - 3) ≡ o = omega (arith, w.opponent_low) in
      subst (λ (x : ℕ). row_part points m (o - 3) + size points m x ≤ row_part points m (k - 2)) e
      (in_row m (o - 3) (k - 2) (omega (arith, w.opponent_high, w.opponent_low)))

  rows_room : (m j : ℕ) → 3 ≤ m → m - 3 < j → rows_part points k (m - 3) + row_part points m (k - 2) ≤ rows_part points k j
  rows_room m j l h =
      let e : 3 + (m - 3) ≡ m = omega arith in
      subst (λ (x : ℕ). rows_part points k (m - 3) + row_part points x (k - 2) ≤ rows_part points k j) e (in_rows (m - 3) j h)

  -- each row has its entries within the tablebase
  pub row_within : (m : ℕ) → 3 ≤ m → m ≤ k → entries points (row k m) ≤ tablebase_length points k
  row_within m l h = omega (arith, length_is_lem points k, rows_room m (k - 2) l (omega arith))

  -- each table lies within the tablebase, an empty one too
  pub end_within : {m o : ℕ} → InRange k m o → end points k m o ≤ tablebase_length points k
  unfolding end
  end_within {m} {o} w =
      omega (arith, starts w, row_room w, length_is_lem points k, rows_room m (k - 2) w.mover_low (omega (arith, w.mover_low, w.mover_high)))

  pub end_low : {m o : ℕ} → IsTable points k m o → end points k m o ≤ tablebase_length points k
  end_low w = end_within (in_range w)

  -- tables do not overlap: an earlier one ends before a later one starts
  pub tables_apart : {m o m' o' : ℕ} → IsTable points k m o → IsTable points k m' o' → earlier m' o' (table m o) ≡ true
      → end points k m o ≤ start points k m' o'
  unfolding end
  tables_apart {m} {o} {m'} {o'} v v' e = go (ltb m m') refl (eqb m m') refl e
    where
      w : InRange k m o
      w = in_range v

      w' : InRange k m' o'
      w' = in_range v'

      go : (a : Bool) → ltb m m' ≡ a → (b : Bool) → eqb m m' ≡ b → (a || (b && ltb o o')) ≡ true
          → start points k m o + size points m o ≤ start points k m' o'
      go true p b q r =
          omega (arith, starts w, starts w', row_room w, rows_room m (m' - 3) w.mover_low (omega (arith, ltb-true m m' p, w.mover_low)))
      go false p true q r =
          let l = ltb-true o o' r in
          let f = eqb-true m m' q in
          let g : 3 + (o - 3) ≡ o = omega (arith, w.opponent_low) in
          let h = subst (λ (x : ℕ). row_part points m (o - 3) + size points m x ≤ row_part points m (o' - 3)) g
          (in_row m (o - 3) (o' - 3) (omega (arith, w.opponent_low))) in
          let s = subst (λ (x : ℕ). start points k x o' ≡ rows_part points k (x - 3) + row_part points x (o' - 3)) (sym f) (starts w') in
          subst (λ (x : ℕ). start points k m o + size points m o ≤ start points k x o') f (omega (arith, starts w, s, h))
      go false p false q r = absurd (false≢true r)

  -- the place of a rank in a table is a place of the tablebase
  pub place_low : {m o r x : ℕ} → PlaceOf points k m o r x → x < tablebase_length points k
  unfolding end
  place_low w = omega (arith, w.at, w.rank_low, end_low w.is_table)

  -- each place of the tablebase is the place of some rank in some table
  pub record SomePlace (x : ℕ) : Type 0 where
    pub mover : ℕ
    pub opponent : ℕ
    pub rank : ℕ
    pub place : PlaceOf points k mover opponent rank x

  pub place_found : (x : ℕ) → x < tablebase_length points k → SomePlace x
  place_found x h =
      let a = part_of (rows_part points k) (λ n. entries points (row k (3 + n))) refl (rows_more points k) (k - 2) x (omega (arith, length_is_lem points k)) in
      let m = 3 + a.part in
      let b = part_of (row_part points m) (λ n. size points m (3 + n)) refl (row_more points m) (k - 2) a.offset a.offset_low in
      let o = 3 + b.part in
      let e : m - 3 ≡ a.part = omega arith in
      let f : o - 3 ≡ b.part = omega arith in
      let w : IsTable points k m o = record {
        mover_low = omega arith;
        mover_high = omega (arith, a.part_low);
        opponent_low = omega arith;
        opponent_high = omega (arith, b.part_low);
        stones_fit = stones_few points m o b.offset b.offset_low;
      } in
      record {
        mover = m;
        opponent = o;
        rank = b.offset;
        place = record { is_table = w; rank_low = b.offset_low; at = omega (arith, rw (e, f) at (starts (in_range w)), a.at, b.at) };
      }

  -- and of one only
  not_earlier : {m o r m' o' r' x : ℕ} → PlaceOf points k m o r x → PlaceOf points k m' o' r' x → earlier m' o' (table m o) ≡ true → ⊥
  unfolding end
  not_earlier w w' e = omega (arith, tables_apart w.is_table w'.is_table e, w.rank_low, w.at, w'.at)

  pub place_one : {m o r m' o' r' x : ℕ} → PlaceOf points k m o r x → PlaceOf points k m' o' r' x → (m ≡ m') × (o ≡ o') × (r ≡ r')
  place_one {m} {o} {r} {m'} {o'} {r'} {x} w w' = go (ltb m m') refl (ltb m' m) refl
    where
      same : (m ≡ m') → (o ≡ o') → (m ≡ m') × (o ≡ o') × (r ≡ r')
      same e f = (e, f, omega (arith, w.at, rw (← e, ← f) at w'.at))

      row_same : m ≡ m' → (c : Bool) → ltb o o' ≡ c → (d : Bool) → ltb o' o ≡ d → (m ≡ m') × (o ≡ o') × (r ≡ r')
      row_same e true p d q = absurd (not_earlier w w' (rw (eq-eqb m m' e, p) (or-true (ltb m m'))))
      row_same e false p true q = absurd (not_earlier w' w (rw (eq-eqb m' m (sym e), q) (or-true (ltb m' m))))
      row_same e false p false q = same e (omega (arith, ltb-false o o' p, ltb-false o' o q))

      go : (a : Bool) → ltb m m' ≡ a → (b : Bool) → ltb m' m ≡ b → (m ≡ m') × (o ≡ o') × (r ≡ r')
      go true p b q = absurd (not_earlier w w' (rw p))
      go false p true q = absurd (not_earlier w' w (rw q))
      go false p false q = row_same (omega (arith, ltb-false m m' p, ltb-false m' m q)) (ltb o o') refl (ltb o' o) refl
