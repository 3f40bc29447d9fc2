-- The game of a pair: which boards its plies reach, and what is given of them. Assumes nothing.
use mathlib.Core.Path.{◌≡◌, refl, sym, subst, ◌∙◌}
use mathlib.Core.Bool.{Bool, true, false, ◌&&◌, ◌||◌}
use mathlib.Core.List.{List, Memᴰ}
use mathlib.Core.Logic.{◌⊎◌, inl, inr}
use Prim.Native.Nat.{ℕ, suc, ◌*◌, ◌≤◌, ◌<◌}
use native.Mathlib.Omega.{arith}
use lib.Dec.{eqb, ltb}
use lib.ListN.{length}
use borrow.Author.Tests.{ltb-true, ltb-false, lt-ltb, le-ltb, eqb-true, eqb-false, eq-eqb, ne_eqb}
use Rattle.lists.proofs.Tests.{and_left, and_right, clash}
use Rattle.board.specs.Board.{Values, count}
use Rattle.layout.proofs.OneToOne.{InRange}
use Rattle.rules.specs.Ply.{Rule, after_ply, removed_of, successors}
use Rattle.rules.proofs.Listed.{successor_of, TakesOpponent}
use Rattle.rules.proofs.Leads.{Leads, MoverLeft, ply_leads}
use Rattle.game.specs.Game.{live, ends, drawn, draw_entry}
use Rattle.outcomes.specs.Places.{entry_at}
use Rattle.outcomes.specs.Pair.{Pair, in_pair, given, pair_seed, LowerTables}
use Rattle.outcomes.specs.Filled.{BothTables}
use Rattle.outcomes.proofs.Boards.{InTables}
use Rattle.outcomes.proofs.Ranked.{InTable, in_tables}

-- the counts of the boards that a ply of the pair leads to: the pair's own, and those of the lower tables
pub data Counts (m o x y : ℕ) : Type 0 where
  own : BothTables m o x y → Counts m o x y
  lower : suc x ≡ o → y ≡ m → Counts m o x y
  lower_turned : suc x ≡ m → y ≡ o → Counts m o x y

pub record OnPair (rings m o : ℕ) (b : List ℕ) : Type 0 where
  pub values : Values b
  pub points : length b ≡ 8 * rings
  pub counts : Counts m o (count 1 b) (count 2 b)

-- a board of the pair itself
pub record InPair (rings m o : ℕ) (b : List ℕ) : Type 0 where
  pub values : Values b
  pub points : length b ≡ 8 * rings
  pub counts : BothTables m o (count 1 b) (count 2 b)

pub on_pair : {rings m o : ℕ} {b : List ℕ} → InPair rings m o b → OnPair rings m o b
on_pair i = record { values = i.values; points = i.points; counts = own i.counts }

pub pair_table : {rings m o x y : ℕ} {b : List ℕ} → BothTables m o x y → InTable rings x y b → InPair rings m o b
pair_table {rings} {m} {o} {x} {y} {b} t w = record {
  values = w.values;
  points = w.points;
  counts = subst (λ (c : ℕ). BothTables m o c (count 2 b)) (sym w.mover) (subst (λ (c : ℕ). BothTables m o x c) (sym w.opponent) t);
}

both_test : (m o x y : ℕ) → BothTables m o x y → ((eqb x m && eqb y o) || (eqb x o && eqb y m)) ≡ true
both_test m o x y (inl q) = rw (eq-eqb x m q.0, eq-eqb y o q.1)
both_test m o x y (inr q) = rw (eq-eqb x o q.0, eq-eqb y m q.1) (or_last (eqb x m && eqb y o))
  where
    or_last : (a : Bool) → (a || true) ≡ true
    or_last true = refl
    or_last false = refl

test_both : (m o x y : ℕ) → ((eqb x m && eqb y o) || (eqb x o && eqb y m)) ≡ true → BothTables m o x y
test_both m o x y e = go (eqb x m && eqb y o) refl e
  where
    go : (a : Bool) → (eqb x m && eqb y o) ≡ a → (a || (eqb x o && eqb y m)) ≡ true → BothTables m o x y
    go true f h = inl (eqb-true x m (and_left _ _ f), eqb-true y o (and_right (eqb x m) _ f))
    go false f h = inr (eqb-true x o (and_left _ _ h), eqb-true y m (and_right (eqb x o) _ h))

pub both_or_not : (m o x y : ℕ) → BothTables m o x y ⊎ (BothTables m o x y → ⊥)
both_or_not m o x y = go ((eqb x m && eqb y o) || (eqb x o && eqb y m)) refl
  where
    go : (a : Bool) → ((eqb x m && eqb y o) || (eqb x o && eqb y m)) ≡ a → BothTables m o x y ⊎ (BothTables m o x y → ⊥)
    go true e = inl (test_both m o x y e)
    go false e = inr (λ t. clash (both_test m o x y t) e)

pub in_pair_lem : {rings m o : ℕ} {b : List ℕ} → InPair rings m o b → in_pair m o b ≡ true
unfolding in_pair
in_pair_lem {rings} {m} {o} {b} i = both_test m o (count 1 b) (count 2 b) i.counts

pub pair_in : {rings m o : ℕ} {b : List ℕ} → OnPair rings m o b → in_pair m o b ≡ true → InPair rings m o b
unfolding in_pair
pair_in {rings} {m} {o} {b} p e = record { values = p.values; points = p.points; counts = test_both m o (count 1 b) (count 2 b) e }

-- a board that the pair's plies reach: of the pair, of a mover left with two stones, or of a lower table
pub data PairReached (rings m o : ℕ) (b : List ℕ) : Type 0 where
  of_pair : InPair rings m o b → PairReached rings m o b
  two_left : in_pair m o b ≡ false → count 1 b < 3 → PairReached rings m o b
  below : in_pair m o b ≡ false → LowerTables m o (count 1 b) (count 2 b) → PairReached rings m o b

pub reached : {rings m o : ℕ} (b : List ℕ) → OnPair rings m o b → PairReached rings m o b
reached {rings} {m} {o} b s = go (in_pair m o b) refl (ltb (count 1 b) 3) refl
  where
    lies : in_pair m o b ≡ false → 3 ≤ count 1 b → Counts m o (count 1 b) (count 2 b) → LowerTables m o (count 1 b) (count 2 b)
    lies f l (own t) = clash (in_pair_lem {rings = rings} record { values = s.values; points = s.points; counts = t }) f
    lies f l (lower e g) = (l, inl (e, g))
    lies f l (lower_turned e g) = (l, inr (e, g))

    go : (a : Bool) → in_pair m o b ≡ a → (c : Bool) → ltb (count 1 b) 3 ≡ c → PairReached rings m o b
    go true f c g = of_pair (pair_in s f)
    go false f true g = two_left f (ltb-true (count 1 b) 3 g)
    go false f false g = below f (lies f (ltb-false (count 1 b) 3 g) s.counts)

-- an entry as a given ending
pub given_draw : (e : ℕ) → e ≡ draw_entry → given e ≡ drawn
unfolding given
given_draw e h = rw (eq-eqb e draw_entry h, given)

pub given_ends : (e : ℕ) → (e ≡ draw_entry → ⊥) → given e ≡ ends e
unfolding given
given_ends e h = rw (ne_eqb e draw_entry h, given)

module _ (rings k m o : ℕ) (tablebase b : List ℕ) where
  pub seed_in : in_pair m o b ≡ true → pair_seed rings k m o tablebase b ≡ live
  unfolding pair_seed
  seed_in e = rw (e, pair_seed)

  pub seed_two : in_pair m o b ≡ false → count 1 b < 3 → pair_seed rings k m o tablebase b ≡ ends 0
  unfolding pair_seed
  seed_two e h = rw (e, lt-ltb (count 1 b) 3 h, pair_seed)

  pub seed_given : in_pair m o b ≡ false → 3 ≤ count 1 b → pair_seed rings k m o tablebase b ≡ given (entry_at rings k tablebase b)
  unfolding pair_seed
  seed_given e h = rw (e, le-ltb (count 1 b) 3 h, pair_seed)

module _ (rings k m o : ℕ) (pair : Pair rings k m o) where
  -- a board of the pair stands in the tablebase, and so does one of a lower table whose mover has three stones
  pub stands : (b : List ℕ) → OnPair rings m o b → 3 ≤ count 1 b → InTables rings k b
  stands b p three = in_tables rings k b p.values p.points (go p.counts)
    where
      all : count 1 b ≤ k → 3 ≤ count 2 b → count 2 b ≤ k → InRange k (count 1 b) (count 2 b)
      all c d e = record { mover_low = three; mover_high = c; opponent_low = d; opponent_high = e }

      go : Counts m o (count 1 b) (count 2 b) → InRange k (count 1 b) (count 2 b)
      go (own (inl q)) = all (omega (arith, q.0, pair.mover_high)) (omega (arith, q.1, pair.opponent_low)) (omega (arith, q.1, pair.opponent_high))
      go (own (inr q)) = all (omega (arith, q.0, pair.opponent_high)) (omega (arith, q.1, pair.mover_low)) (omega (arith, q.1, pair.mover_high))
      go (lower e f) = all (omega (arith, pair.opponent_high)) (omega (arith, pair.mover_low)) (omega (arith, pair.mover_high))
      go (lower_turned e f) = all (omega (arith, pair.mover_high)) (omega (arith, pair.opponent_low)) (omega (arith, pair.opponent_high))

  pub three_own : (b : List ℕ) → InPair rings m o b → 3 ≤ count 1 b
  three_own b i = go i.counts
    where
      go : BothTables m o (count 1 b) (count 2 b) → 3 ≤ count 1 b
      go (inl q) = omega (arith, q.0, pair.mover_low)
      go (inr q) = omega (arith, q.0, pair.opponent_low)

  pub stands_own : (b : List ℕ) → InPair rings m o b → InTables rings k b
  stands_own b i = stands b (on_pair i) (three_own b i)

  -- a live board is of the pair
  pub live_in : (tablebase b : List ℕ) → pair_seed rings k m o tablebase b ≡ live → in_pair m o b ≡ true
  live_in tablebase b e = go (in_pair m o b) refl (ltb (count 1 b) 3) refl
    where
      not_ends : {d : ℕ} → live ≡ ends d → ⊥
      not_ends q = let z : ◌≡◌ {A = ℕ} 0 1 = cc in omega arith

      not_drawn : live ≡ drawn → ⊥
      not_drawn q = let z : ◌≡◌ {A = ℕ} 0 1 = cc in omega arith

      not_given : (x : ℕ) (t : Bool) → eqb x draw_entry ≡ t → live ≡ given x → ⊥
      not_given x true f q = not_drawn (q ∙ given_draw x (eqb-true x draw_entry f))
      not_given x false f q = not_ends (q ∙ given_ends x (eqb-false x draw_entry f))

      go : (t : Bool) → in_pair m o b ≡ t → (u : Bool) → ltb (count 1 b) 3 ≡ u → in_pair m o b ≡ true
      go true f u g = f
      go false f true g = absurd (not_ends (sym e ∙ seed_two rings k m o tablebase b f (ltb-true (count 1 b) 3 g)))
      go false f false g =
          absurd (not_given (entry_at rings k tablebase b) (eqb (entry_at rings k tablebase b) draw_entry) refl
          (sym e ∙ seed_given rings k m o tablebase b f (ltb-false (count 1 b) 3 g)))

module _ (rule : Rule) (takes : TakesOpponent rule) (rings k m o : ℕ) (pair : Pair rings k m o) where
  -- plies of the pair lead to boards of the pair or of its lower tables
  pub pair_closed : (b : List ℕ) → InPair rings m o b → (c : List ℕ) → Memᴰ c (successors rule rings b) → OnPair rings m o c
  pair_closed b i c h =
      let a = successor_of rule rings b c h in
      subst (λ (x : List ℕ). OnPair rings m o x) (sym a.2)
      (lands (after_ply b a.0) (removed_of a.0)
      (ply_leads rule takes rings pair.small b i.values i.points a.0 a.1))
    where
      side : (x y : ℕ) → y ≡ count 1 b → (x ≡ count 2 b) ⊎ (suc x ≡ count 2 b) → BothTables m o (count 1 b) (count 2 b) → Counts m o x y
      side x y e (inl f) (inl q) = own (inr (f ∙ q.1, e ∙ q.0))
      side x y e (inl f) (inr q) = own (inl (f ∙ q.1, e ∙ q.0))
      side x y e (inr f) (inl q) = lower (f ∙ q.1) (e ∙ q.0)
      side x y e (inr f) (inr q) = lower_turned (f ∙ q.1) (e ∙ q.0)

      left : (x : List ℕ) (r : ℕ) → MoverLeft b x r → (count 1 x ≡ count 2 b) ⊎ (suc (count 1 x) ≡ count 2 b)
      left x r (inl q) = inl q.1
      left x r (inr q) = inr q.1

      lands : (x : List ℕ) (r : ℕ) → Leads b x r → OnPair rings m o x
      lands x r l = record {
        values = l.values;
        points = l.points ∙ i.points;
        counts = side (count 1 x) (count 2 x) l.opponent (left x r l.mover) i.counts;
      }
