-- The step to the next level: no entry of the pair or of its lower tables lies between the level and the least depth that was found. Assumes nothing.
use mathlib.Core.Path.{◌≡◌, refl, sym, subst, ◌∙◌}
use mathlib.Core.Bool.{Bool, true, false}
use mathlib.Core.List.{List}
use mathlib.Core.Logic.{◌⊎◌, inl, inr}
use Prim.Native.Nat.{ℕ, suc, ◌-◌, ◌*◌, ◌≤◌, ◌<◌, min}
use native.Mathlib.Omega.{arith}
use lib.Dec.{eqb, ltb}
use lib.ListN.{length, get_or}
use borrow.Author.Tests.{eqb-true, eqb-false, ltb-true, ltb-false}
use Rattle.board.specs.Board.{count}
use Rattle.layout.specs.Layout.{tablebase_length}
use Rattle.layout.proofs.OneToOne.{InRange, end_is, end_within}
use Rattle.rules.specs.Ply.{Rule, successors}
use Rattle.rules.proofs.Listed.{TakesOpponent}
use Rattle.game.specs.Game.{draw_entry, void_entry}
use Rattle.game.proofs.Levels.{skip, stop}
use Rattle.parts.specs.Parts.{part_of}
use Rattle.finding.specs.Inner.Finding.{least_from}
use Rattle.finding.proofs.LeastDepth.{least_cases, part_below}
use Rattle.outcomes.specs.Places.{place_of, entry_at, successor_entry}
use Rattle.outcomes.specs.Pair.{Pair, pair_seed, LowerValid}
use Rattle.outcomes.specs.Filled.{BothTables, Kept}
use Rattle.outcomes.proofs.Ranked.{InTable, place_at, rank_in}
use Rattle.outcomes.proofs.PairGame.{Counts, own, lower, lower_turned, OnPair, InPair}
use Rattle.outcomes.proofs.Entries.{entry_place, entry_two, entry_three}
use Rattle.outcomes.proofs.PairLevels.{pair_ground}
use Rattle.tables.specs.declared.Table.{Table}
use Rattle.tables.specs.Inner.Tables.{Located}
use Rattle.tables.proofs.Lower.{lower_starts, lower_ends, lower_none}
use Rattle.pairs.specs.Inner.Pairs.{InRoom}
use Rattle.depths.specs.Inner.Depths.{pair_least}
use Rattle.filling.specs.Inner.Solve.{Setting}
use Rattle.filling.proofs.PairTables.{in_range, turned_pair, part_end, part_room, part_place}
use Rattle.filling.proofs.States.{ExactBelow, State}

-- the lower part of a table lies within the tablebase
pub lower_room : (rings k x y : ℕ) (t : Table) → Located (8 * rings) k x y t → Pair rings k x y → (n : ℕ) → n ≡ tablebase_length (8 * rings) k
    → (t.lower.start ≤ t.lower.end) × (t.lower.end ≤ n)
lower_room rings k x y t l p n e = go (eqb y 3) refl
  where
    go : (c : Bool) → eqb y 3 ≡ c → (t.lower.start ≤ t.lower.end) × (t.lower.end ≤ n)
    go true f =
        let w = lower_none (8 * rings) k x y (eqb-true y 3 f) in
        let u = l.lower_start_is ∙ w.0 in
        let v = l.lower_end_is ∙ w.1 in
        (omega arith, omega arith)
    go false f =
        let d : y ≡ 3 → ⊥ = eqb-false y 3 f in
        let h : 4 ≤ y = omega (arith, p.opponent_low) in
        let r : InRange k (y - 1) x = record {
          mover_low = omega arith;
          mover_high = omega (arith, p.opponent_high);
          opponent_low = p.mover_low;
          opponent_high = p.mover_high;
        } in
        let u = l.lower_start_is ∙ lower_starts (8 * rings) k x y h in
        let v = l.lower_end_is ∙ lower_ends (8 * rings) k x y h in
        (omega (arith, u, v, end_is (8 * rings) k (y - 1) x), omega (arith, v, end_within (8 * rings) k r))

-- a board of the lower table stands in that part
lower_place : (rings k x y : ℕ) (t : Table) → Located (8 * rings) k x y t → (b : List ℕ) → 3 ≤ count 1 b → suc (count 1 b) ≡ y → InTable rings (count 1 b) x b
    → (t.lower.start ≤ place_of rings k b) × (place_of rings k b < t.lower.end)
lower_place rings k x y t l b three e w =
    let h : 4 ≤ y = omega arith in
    let c : count 1 b ≡ y - 1 = omega arith in
    let i : InTable rings (y - 1) x b = record { values = w.values; points = w.points; mover = c; opponent = w.opponent } in
    let q = place_at rings k (y - 1) x b i in
    let u = l.lower_start_is ∙ lower_starts (8 * rings) k x y h in
    let v = l.lower_end_is ∙ lower_ends (8 * rings) k x y h in
    (omega (arith, q, u), omega (arith, q, v, end_is (8 * rings) k (y - 1) x, rank_in rings (y - 1) x b i))

module _ (rings k m o : ℕ) (a b : Table) (now : List ℕ) (s : Setting (length now) rings k m o a b) (level : ℕ) where
  abbrev ones : ℕ
  ones = least_from level (part_of a.own.start a.own.end now)

  abbrev twos : ℕ
  twos = least_from level (part_of b.own.start b.own.end now)

  abbrev threes : ℕ
  threes = least_from level (part_of a.lower.start a.lower.end now)

  abbrev fours : ℕ
  fours = least_from level (part_of b.lower.start b.lower.end now)

  least_is : pair_least a b level now ≡ min (min ones twos) (min threes fours)
  unfolding pair_least
  least_is = refl

  -- the least depth is from the level on, and at most void
  least_range : level < void_entry → (level ≤ pair_least a b level now) × (pair_least a b level now ≤ void_entry)
  least_range h =
      let p = at ones (least_cases level _) in
      let q = at twos (least_cases level _) in
      let r = at threes (least_cases level _) in
      let u = at fours (least_cases level _) in
      (omega (arith, least_is, p.0, q.0, r.0, u.0), omega (arith, least_is, p.1))
    where
      at : (e : ℕ) → (e ≡ void_entry) ⊎ ((level ≤ e) × (e < void_entry)) → (level ≤ e) × (e ≤ void_entry)
      at e (inl q) = (omega arith, omega arith)
      at e (inr q) = (q.0, omega (arith, q.1))

  -- and no entry from the level on lies below it
  least_entry : (c : List ℕ) → OnPair rings m o c → 3 ≤ count 1 c → level ≤ entry_at rings k now c
      → (pair_least a b level now ≤ entry_at rings k now c) ⊎ (void_entry ≤ entry_at rings k now c)
  least_entry c i three h = go i.counts
    where
      g : level ≤ get_or now (place_of rings k c) 0
      g = omega (arith, entry_place rings k now c)

      found : (e : ℕ) → pair_least a b level now ≤ e → (e ≤ get_or now (place_of rings k c) 0) ⊎ (void_entry ≤ get_or now (place_of rings k c) 0)
          → (pair_least a b level now ≤ entry_at rings k now c) ⊎ (void_entry ≤ entry_at rings k now c)
      found e l (inl q) = inl (omega (arith, entry_place rings k now c))
      found e l (inr q) = inr (omega (arith, entry_place rings k now c))

      whose : (x y : ℕ) → count 1 c ≡ x → count 2 c ≡ y → InTable rings x y c
      whose x y e f = record { values = i.values; points = i.points; mover = e; opponent = f }

      go : Counts m o (count 1 c) (count 2 c) → (pair_least a b level now ≤ entry_at rings k now c) ⊎ (void_entry ≤ entry_at rings k now c)
      go (own (inl q)) =
          let p = part_place rings k m o a s.first c (whose m o q.0 q.1) in
          found ones (omega (arith, least_is)) (part_below level a.own.start a.own.end now
          (part_room rings k m o a s.first (in_range {rings = rings} s.pair (inl (refl, refl))) (length now) s.room) (place_of rings k c)
          p.0 p.1 g)
      go (own (inr q)) =
          let p = part_place rings k o m b s.second c (whose o m q.0 q.1) in
          found twos (omega (arith, least_is)) (part_below level b.own.start b.own.end now
          (part_room rings k o m b s.second (in_range {rings = rings} s.pair (inr (refl, refl))) (length now) s.room) (place_of rings k c)
          p.0 p.1 g)
      go (lower e f) =
          let p = lower_place rings k m o a s.first c three e (whose (count 1 c) m refl f) in
          found threes (omega (arith, least_is)) (part_below level a.lower.start a.lower.end now
          (lower_room rings k m o a s.first s.pair (length now) s.room).1 (place_of rings k c) p.0 p.1 g)
      go (lower_turned e f) =
          let p = lower_place rings k o m b s.second c three e (whose (count 1 c) o refl f) in
          found fours (omega (arith, least_is)) (part_below level b.lower.start b.lower.end now
          (lower_room rings k o m b s.second (turned_pair s.pair) (length now) s.room).1 (place_of rings k c) p.0 p.1 g)

-- all four parts lie within the tablebase
pub in_room : {n rings k m o : ℕ} {a b : Table} → Setting n rings k m o a b → InRoom n a b
in_room {n} {rings} {k} {m} {o} {a} {b} s = record {
  first = (
    omega (arith, part_end rings k m o a s.first),
    part_room rings k m o a s.first (in_range {rings = rings} s.pair (inl (refl, refl))) n
        s.room,
  );
  second = (
    omega (arith, part_end rings k o m b s.second),
    part_room rings k o m b s.second (in_range {rings = rings} s.pair (inr (refl, refl))) n
        s.room,
  );
  first_lower = lower_room rings k m o a s.first s.pair n s.room;
  second_lower = lower_room rings k o m b s.second (turned_pair s.pair) n s.room;
}

-- the setting of a tablebase of the same length
pub setting_now : {n rings k m o : ℕ} {a b : Table} → (l : ℕ) → l ≡ n → Setting n rings k m o a b → Setting l rings k m o a b
setting_now l e s = record { pair = s.pair; few = s.few; room = e ∙ s.room; first = s.first; second = s.second }

module _ (rule : Rule) (takes : TakesOpponent rule) (rings k m o : ℕ) (a b : Table) (before : List ℕ) (s : Setting (length before) rings k m o a b)
    (valid : LowerValid rings k m o before)
    (limit level : ℕ) (pos : 0 < level) (low : level < void_entry) (after : List ℕ) (kept : Kept rings k (BothTables m o) before after)
    (exact : ExactBelow rule takes rings k m o a b before s valid (suc level) after)
    (most : (c : List ℕ) → InPair rings m o c → (entry_at rings k after c ≤ limit) ⊎ (entry_at rings k after c ≡ draw_entry)) where
  here : Setting (length after) rings k m o a b
  here = setting_now (length after) kept.same_length s

  -- nothing between the level and the least depth
  nothing : (c : List ℕ) → OnPair rings m o c → level ≤ successor_entry rings k after c → successor_entry rings k after c < pair_least a b level after
      → successor_entry rings k after c < void_entry → ⊥
  nothing c i l u v = go (ltb (count 1 c) 3) refl
    where
      go : (t : Bool) → ltb (count 1 c) 3 ≡ t → ⊥
      go true f = omega (arith, entry_two rings k after c (ltb-true (count 1 c) 3 f))
      go false f = let e = entry_three rings k after c (ltb-false (count 1 c) 3 f) in
          bad e (least_entry rings k m o a b after here level c i (ltb-false (count 1 c) 3 f) (omega arith))
        where
          bad : successor_entry rings k after c ≡ entry_at rings k after c
              → (pair_least a b level after ≤ entry_at rings k after c) ⊎ (void_entry ≤ entry_at rings k after c) → ⊥
          bad e (inl q) = omega arith
          bad e (inr q) = omega arith

  pub state_next : (then : ℕ) → then ≡ suc (pair_least a b level after)
      → (level < then) × State rule takes rings k m o a b before s valid limit then after
  state_next then e =
      let r = least_range rings k m o a b after here level low in (
        omega (arith, r.0),
        subst (λ (v : ℕ). State rule takes rings k m o a b before s valid limit v after) (sym e) record {
          kept = kept;
          exact = skip (successors rule rings) (λ c. pair_seed rings k m o before c) (OnPair rings m o)
              (pair_ground rule takes rings k m o s.pair before valid) level low
              (λ c. successor_entry rings k after c) exact (pair_least a b level after) r.0 (λ c i l u. nothing c i l u (omega (arith, r.1)));
          most = most;
          over = λ v. stop (successors rule rings) (λ c. pair_seed rings k m o before c) (OnPair rings m o)
              (pair_ground rule takes rings k m o s.pair before valid) level low
              (λ c. successor_entry rings k after c) exact (λ c i l u. nothing c i l (omega arith) u);
        },
      )
