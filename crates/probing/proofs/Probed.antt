-- What is read of a successor, by any rule of removal that names opposing stones, is its entry in the tablebase: the tables are where the layout puts
-- them, and lie within it. Assumes nothing.
use mathlib.Core.Path.{◌≡◌, refl, sym, ap, subst, ◌∙◌}
use mathlib.Core.Bool.{Bool, true, false}
use mathlib.Core.List.{List, Memᴰ}
use mathlib.Core.Logic.{inl, inr}
use Prim.Native.Nat.{ℕ, suc, ◌+◌, ◌-◌, ◌*◌, ◌≤◌}
use native.Mathlib.Omega.{arith}
use lib.Dec.{ltb}
use lib.ListN.{get_or}
use borrow.Author.Tests.{ltb-true, ltb-false}
use Rattle.board.specs.Board.{count}
use Rattle.sizes.specs.Size.{size}
use Rattle.ranking.specs.Rank.{rank}
use Rattle.layout.specs.Layout.{start, tablebase_length}
use Rattle.layout.proofs.OneToOne.{InRange, end_is, end_within}
use Rattle.rules.specs.Ply.{Rule, after_ply, removed_of, successors}
use Rattle.rules.proofs.Listed.{TakesOpponent, successor_of}
use Rattle.rules.proofs.Leads.{Leads, MoverLeft, ply_leads}
use Rattle.outcomes.specs.Places.{successor_entry}
use Rattle.outcomes.proofs.Ranked.{InTable, place_at}
use Rattle.outcomes.proofs.Entries.{entry_place, entry_two, entry_three}
use Rattle.tables.specs.Inner.Tables.{lower_start}
use Rattle.tables.proofs.Lower.{lower_starts}
use Rattle.probing.specs.Inner.Probes.{probe, Reads}
use Rattle.probing.proofs.Reading.{probe_same, probe_two, probe_fewer}

module _ (points k m o : ℕ) where
  -- the tables of the successors of (m, o)
  pub reads_within : InRange k m o → (n : ℕ) → n ≡ tablebase_length points k → Reads n points m o (start points k o m) (lower_start points k m o)
  reads_within r n e = record {
    same_room = room o m r.opponent_low r.opponent_high r.mover_low r.mover_high;
    fewer_room = λ h. subst (λ (s : ℕ). s + size points (o - 1) m ≤ n) (sym (lower_starts points k m o h))
        (room (o - 1) m (omega arith) (omega (arith, r.opponent_high)) r.mover_low r.mover_high);
  }
    where
      room : (x y : ℕ) → 3 ≤ x → x ≤ k → 3 ≤ y → y ≤ k → start points k x y + size points x y ≤ n
      room x y a b c d =
          omega (arith, end_is points k x y, end_within points k record { mover_low = a; mover_high = b; opponent_low = c; opponent_high = d })

-- the successors of a board of table (x, y)
module _ (rule : Rule) (takes : TakesOpponent rule) (rings k x y : ℕ) (small : rings ≤ 3) (low : 3 ≤ y)
    (p : List ℕ) (w : InTable rings x y p) (now : List ℕ) where
  abbrev same : ℕ
  same = start (8 * rings) k y x

  abbrev fewer : ℕ
  fewer = lower_start (8 * rings) k x y

  -- a board of the table that starts at a place
  at : (u v : ℕ) (q : List ℕ) → InTable rings u v q → 3 ≤ count 1 q → get_or now (start (8 * rings) k u v + rank q) 0 ≡ successor_entry rings k now q
  at u v q i three =
      ap (λ (j : ℕ). get_or now j 0) (sym (place_at rings k u v q i)) ∙ sym (entry_place rings k now q) ∙ sym (entry_three rings k now q three)

  lands : (q : List ℕ) (r : ℕ) → Leads p q r → probe now same fewer y q ≡ successor_entry rings k now q
  lands q r l = go l.mover
    where
      whose : (u : ℕ) → count 1 q ≡ u → InTable rings u x q
      whose u e = record { values = l.values; points = l.points ∙ w.points; mover = e; opponent = l.opponent ∙ w.mover }

      removed : suc (count 1 q) ≡ y → (c : Bool) → ltb (count 1 q) 3 ≡ c → probe now same fewer y q ≡ successor_entry rings k now q
      removed e true f = let h = ltb-true (count 1 q) 3 f in
          probe_two now same fewer y q (λ z. omega arith) h ∙ sym (entry_two rings k now q h)
      removed e false f =
          let h = ltb-false (count 1 q) 3 f in
          let u : count 1 q ≡ y - 1 = omega arith in
          probe_fewer now same fewer y q (λ z. omega arith) h
          ∙ ap (λ (s : ℕ). get_or now (s + rank q) 0) (lower_starts (8 * rings) k x y (omega arith)) ∙ at (y - 1) x q (whose (y - 1) u) h

      go : MoverLeft p q r → probe now same fewer y q ≡ successor_entry rings k now q
      go (inl z) = let e = z.1 ∙ w.opponent in probe_same now same fewer y q e ∙ at y x q (whose y e) (omega arith)
      go (inr z) = removed (z.1 ∙ w.opponent) (ltb (count 1 q) 3) refl

  pub probed : (q : List ℕ) → Memᴰ q (successors rule rings p) → probe now same fewer y q ≡ successor_entry rings k now q
  probed q h =
      let a = successor_of rule rings p q h in
      subst (λ (c : List ℕ). probe now same fewer y c ≡ successor_entry rings k now c) (sym a.2)
      (lands (after_ply p a.0) (removed_of a.0) (ply_leads rule takes rings small p w.values w.points a.0 a.1))
