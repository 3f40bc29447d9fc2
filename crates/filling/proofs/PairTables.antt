-- The parts of a pair's tables: where its boards stand, that they lie within the tablebase, and both filled with one value. Assumes nothing.
use mathlib.Core.Path.{◌≡◌, refl, sym, ap₂, ◌∙◌}
use mathlib.Core.List.{List}
use mathlib.Core.Logic.{◌⊎◌, inl, inr}
use Prim.Native.Nat.{ℕ, ◌+◌, ◌-◌, ◌*◌, ◌≤◌, ◌<◌}
use native.Mathlib.Omega.{arith}
use lib.ListN.{length, get_or}
use Rattle.board.specs.Board.{count}
use Rattle.sizes.specs.Size.{size}
use Rattle.layout.specs.Layout.{start, tablebase_length}
use Rattle.layout.proofs.OneToOne.{InRange, end_is, end_within}
use Rattle.parts.specs.Parts.{filled_part}
use Rattle.parts.proofs.Filling.{filled_length, filled_in, filled_cases}
use Rattle.outcomes.specs.Places.{place_of, entry_at}
use Rattle.outcomes.specs.Pair.{Pair}
use Rattle.outcomes.specs.Filled.{BothTables, Kept}
use Rattle.outcomes.proofs.Ranked.{InTable, place_at, rank_in}
use Rattle.outcomes.proofs.PairGame.{InPair}
use Rattle.outcomes.proofs.Entries.{entry_place, kept_then}
use Rattle.tables.specs.declared.Table.{Table}
use Rattle.tables.specs.Inner.Tables.{Located}
use Rattle.probing.proofs.Probed.{reads_within}
use Rattle.deciding.specs.Inner.Fits.{Lies, Fits}
use Rattle.sweeping.specs.Inner.Levels.{CountsFit}
use Rattle.levels.proofs.Sides.{Side}
use Rattle.pairs.specs.Inner.Pairs.{pair_filled}
use Rattle.filling.specs.Inner.Solve.{Setting}

-- a table of a pair, whichever of the two
pub in_range : {rings k m o x y : ℕ} → Pair rings k m o → BothTables m o x y → InRange k x y
in_range p (inl q) = record {
  mover_low = omega (arith, q.0, p.mover_low);
  mover_high = omega (arith, q.0, p.mover_high);
  opponent_low = omega (arith, q.1, p.opponent_low);
  opponent_high = omega (arith, q.1, p.opponent_high);
}
in_range p (inr q) = record {
  mover_low = omega (arith, q.0, p.opponent_low);
  mover_high = omega (arith, q.0, p.opponent_high);
  opponent_low = omega (arith, q.1, p.mover_low);
  opponent_high = omega (arith, q.1, p.mover_high);
}

pub turned_pair : {rings k m o : ℕ} → Pair rings k m o → Pair rings k o m
turned_pair p = record {
  small = p.small;
  mover_low = p.opponent_low;
  mover_high = p.opponent_high;
  opponent_low = p.mover_low;
  opponent_high = p.mover_high;
}

-- a located table: its part
module _ (rings k x y : ℕ) (t : Table) (l : Located (8 * rings) k x y t) where
  pub part_end : t.own.end ≡ t.own.start + size (8 * rings) x y
  part_end = omega (arith, l.end_is, l.start_is, end_is (8 * rings) k x y)

  pub part_room : InRange k x y → (n : ℕ) → n ≡ tablebase_length (8 * rings) k → t.own.end ≤ n
  part_room r n e = omega (arith, l.end_is, end_within (8 * rings) k r)

  -- a board of the table stands in its part
  pub part_place : (b : List ℕ) → InTable rings x y b → (t.own.start ≤ place_of rings k b) × (place_of rings k b < t.own.end)
  part_place b w =
      let p = place_at rings k x y b w in
      (omega (arith, p, l.start_is), omega (arith, p, l.start_is, part_end, rank_in rings x y b w))

  part_fits : Pair rings k x y → (same n : ℕ) → same ≡ start (8 * rings) k y x → n ≡ tablebase_length (8 * rings) k → Fits n rings t same
  part_fits p same n f e = record {
    small = p.small;
    end_is = part_end ∙ ap₂ (λ (u v : ℕ). t.own.start + size (8 * rings) u v) (sym l.mover_is) (sym l.opponent_is);
    room = part_room (in_range p (inl (refl, refl))) n e;
    reads = rw (l.mover_is, l.opponent_is, f, l.lower_start_is) (reads_within (8 * rings) k x y (in_range p (inl (refl, refl))) n e);
  }

  -- filled with one value
  part_kept : (T : ℕ → ℕ → Type 0) → T x y → (v : ℕ) (now : List ℕ) → InRange k x y → length now ≡ tablebase_length (8 * rings) k
      → Kept rings k T now (filled_part t.own.start t.own.end v now)
  part_kept T h v now r e = record {
    same_length = filled_length t.own.start t.own.end v now (omega (arith, part_end)) (part_room r (length now) e);
    rest = λ j none. go j none (filled_cases t.own.start t.own.end v now (omega (arith, part_end)) (part_room r (length now) e) j);
  }
    where
      go : (j : ℕ) → ((u w s : ℕ) → T u w → s < size (8 * rings) u w → start (8 * rings) k u w + s ≡ j → ⊥)
          → ((t.own.start ≤ j) × (j < t.own.end)) ⊎ (get_or (filled_part t.own.start t.own.end v now) j 0 ≡ get_or now j 0)
          → get_or (filled_part t.own.start t.own.end v now) j 0 ≡ get_or now j 0
      go j none (inl q) = absurd (none x y (j - t.own.start) h (omega (arith, q.0, q.1, part_end)) (omega (arith, q.0, l.start_is)))
      go j none (inr q) = q

  part_filled : (v : ℕ) (now b : List ℕ) → InRange k x y → length now ≡ tablebase_length (8 * rings) k → InTable rings x y b
      → entry_at rings k (filled_part t.own.start t.own.end v now) b ≡ v
  part_filled v now b r e w =
      let q = part_place b w in
      entry_place rings k (filled_part t.own.start t.own.end v now) b
      ∙ filled_in t.own.start t.own.end v now (omega (arith, part_end)) (part_room r (length now) e) (place_of rings k b) q.0 q.1

module _ {n rings k m o : ℕ} {a b : Table} (s : Setting n rings k m o a b) where
  pub first_side : Side rings k m o m o a b.own.start
  first_side = record { both = inl (refl, refl); low = s.pair.opponent_low; located = s.first; same_is = s.second.start_is }

  pub second_side : Side rings k m o o m b a.own.start
  second_side = record { both = inr (refl, refl); low = s.pair.mover_low; located = s.second; same_is = s.first.start_is }

  pub first_fits : Fits n rings a b.own.start
  first_fits = part_fits rings k m o a s.first s.pair b.own.start n s.second.start_is s.room

  pub second_fits : Fits n rings b a.own.start
  second_fits = part_fits rings k o m b s.second (turned_pair s.pair) a.own.start n s.first.start_is s.room

  pub first_lies : Lies (8 * rings) a n
  first_lies = record { whole = first_fits.end_is; within = first_fits.room }

  pub second_lies : Lies (8 * rings) b n
  second_lies = record { whole = second_fits.end_is; within = second_fits.room }

  pub first_counted : CountsFit a
  first_counted =
      let p = s.pair in
      let t = s.first in
      record {
        mover_most = omega (arith, p.mover_high, s.few, t.mover_is);
        opponent_least = omega (arith, p.opponent_low, t.opponent_is);
        opponent_most = omega (arith, p.opponent_high, s.few, t.opponent_is);
      }

  pub second_counted : CountsFit b
  second_counted =
      let p = s.pair in
      let t = s.second in
      record {
        mover_most = omega (arith, p.opponent_high, s.few, t.mover_is);
        opponent_least = omega (arith, p.mover_low, t.opponent_is);
        opponent_most = omega (arith, p.mover_high, s.few, t.opponent_is);
      }

-- both tables filled with one value
module _ (rings k m o : ℕ) (a b : Table) (now : List ℕ) (s : Setting (length now) rings k m o a b) (v : ℕ) where
  abbrev once : List ℕ
  once = filled_part a.own.start a.own.end v now

  first_range : InRange k m o
  first_range = in_range {rings = rings} s.pair (inl (refl, refl))

  second_range : InRange k o m
  second_range = in_range {rings = rings} s.pair (inr (refl, refl))

  once_kept : Kept rings k (BothTables m o) now once
  once_kept = part_kept rings k m o a s.first (BothTables m o) (inl (refl, refl)) v now first_range s.room

  once_length : length once ≡ tablebase_length (8 * rings) k
  once_length = once_kept.same_length ∙ s.room

  pub pair_kept : Kept rings k (BothTables m o) now (pair_filled a b v now)
  pair_kept = kept_then rings k (BothTables m o) now once (pair_filled a b v now) once_kept
      (part_kept rings k o m b s.second (BothTables m o) (inr (refl, refl)) v once second_range once_length)

  pub pair_filled_lem : (c : List ℕ) → InPair rings m o c → entry_at rings k (pair_filled a b v now) c ≡ v
  pair_filled_lem c i = go i.counts
    where
      whose : (x y : ℕ) → count 1 c ≡ x → count 2 c ≡ y → InTable rings x y c
      whose x y e f = record { values = i.values; points = i.points; mover = e; opponent = f }

      -- a board of the first table, which the second may or may not cover
      covered : InTable rings m o c
          → ((b.own.start ≤ place_of rings k c) × (place_of rings k c < b.own.end)) ⊎
          (get_or (pair_filled a b v now) (place_of rings k c) 0 ≡ get_or once (place_of rings k c) 0)
          → entry_at rings k (pair_filled a b v now) c ≡ v
      covered w (inl q) = entry_place rings k (pair_filled a b v now) c
          ∙ filled_in b.own.start b.own.end v once (omega (arith, part_end rings k o m b s.second))
          (part_room rings k o m b s.second second_range (length once) once_length) (place_of rings k c) q.0 q.1
      covered w (inr q) = entry_place rings k (pair_filled a b v now) c ∙ q ∙ sym (entry_place rings k once c)
          ∙ part_filled rings k m o a s.first v now c first_range s.room w

      go : BothTables m o (count 1 c) (count 2 c) → entry_at rings k (pair_filled a b v now) c ≡ v
      go (inl q) = covered (whose m o q.0 q.1) (filled_cases b.own.start b.own.end v once (omega (arith, part_end rings k o m b s.second))
          (part_room rings k o m b s.second second_range (length once) once_length) (place_of rings k c))
      go (inr q) = part_filled rings k o m b s.second v once c second_range once_length (whose o m q.0 q.1)
