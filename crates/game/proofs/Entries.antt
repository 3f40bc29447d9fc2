-- What an entry says: "Even is lost for the mover, odd is won." So says an entry that is true, and the test whether the successors' entries decide a
-- position. Assumes nothing.
use mathlib.Core.Path.{◌≡◌, refl, sym}
use mathlib.Core.Bool.{true, false, ◌&&◌, ◌||◌}
use mathlib.Core.List.{List, Memᴰ}
use mathlib.Core.Logic.{◌⊎◌, inl, inr}
use Prim.Native.Nat.{ℕ, ◌<◌, ◌%◌}
use native.Mathlib.Omega.{arith}
use lib.Dec.{eqb, ltb}
use borrow.Author.Tests.{ltb-true, eqb-true, lt-ltb, eq-eqb}
use Rattle.lists.specs.Lists.{any, all}
use Rattle.lists.proofs.Tests.{clash, untrue, and_left, and_right, and_both, or_cases, or_left, or_right, any_member, all_member, any_none, all_fails}
use Rattle.game.specs.Game.{Seed, won, lost, Draw, ForcedIn, draw_entry, ended, WonIn, LostIn, Depth, Entry, void_entry}
use Rattle.game.specs.Judgement.{is_lost, is_won, decided}
use Rattle.game.proofs.Least.{mono_le}
use Rattle.game.proofs.Within.{ended_mono, never_both, neither_won, neither_lost}
use Rattle.game.proofs.Depths.{won_depth, lost_depth, depth_unique, depth_cases, depth_odd, depth_even, won_odd, lost_even}

pub lost_is : {e : ℕ} → is_lost e ≡ true → (e % 2 ≡ 0) × (e < void_entry)
unfolding is_lost
lost_is {e} h = (eqb-true (e % 2) 0 (and_left _ _ h), ltb-true e void_entry (and_right (eqb (e % 2) 0) _ h))

pub lost_of : {e : ℕ} → e % 2 ≡ 0 → e < void_entry → is_lost e ≡ true
unfolding is_lost
lost_of {e} o l = and_both _ _ (eq-eqb (e % 2) 0 o) (lt-ltb e void_entry l)

pub won_test : (e : ℕ) → is_won e ≡ (eqb (e % 2) 1 && ltb e void_entry)
unfolding is_won
won_test e = refl

pub won_is : {e : ℕ} → is_won e ≡ true → (e % 2 ≡ 1) × (e < void_entry)
unfolding is_won
won_is {e} h = (eqb-true (e % 2) 1 (and_left _ _ h), ltb-true e void_entry (and_right (eqb (e % 2) 1) _ h))

pub won_of : {e : ℕ} → e % 2 ≡ 1 → e < void_entry → is_won e ≡ true
unfolding is_won
won_of {e} o l = and_both _ _ (eq-eqb (e % 2) 1 o) (lt-ltb e void_entry l)

-- a true entry
module _ {Pos : Type 0} (next : Pos → List Pos) (seed : Pos → Seed) (p : Pos) {e : ℕ} where
  pub entry_depth : Entry next seed p e → e < void_entry → Depth next seed e p
  entry_depth (inl a) l = a.1
  entry_depth (inr a) l = absurd (omega (arith, a.0))

  -- the entry of a position that has a depth
  pub depth_entry : {k : ℕ} → Entry next seed p e → Depth next seed k p → (e ≡ k) × (e < void_entry)
  depth_entry (inl a) d = (depth_unique next seed p a.1 d, a.0)
  depth_entry {k} (inr a) d = clash d.holds (a.1 k)

  -- a forced end comes within fewer plies than the number that says void
  pub entry_ended : Entry next seed p e → (n : ℕ) → ended next seed n p ≡ true → ended next seed void_entry p ≡ true
  entry_ended (inl a) n h = mono_le _ (ended_mono next seed p) (omega (arith, a.0)) a.1.holds
  entry_ended (inr a) n h = clash h (a.1 n)

  pub entry_lost : Entry next seed p e → is_lost e ≡ true → LostIn next seed e p
  entry_lost a h = let s = lost_is h in depth_even next seed p (entry_depth a s.1) s.0

  pub entry_won : Entry next seed p e → is_won e ≡ true → WonIn next seed e p
  entry_won a h = let s = won_is h in depth_odd next seed p (entry_depth a s.1) s.0

  -- an entry that is not lost: lost within no n
  pub entry_not_lost : Entry next seed p e → is_lost e ≡ false → (n : ℕ) → lost next seed n p ≡ false
  entry_not_lost (inr a) h n = neither_lost next seed n p (a.1 n)
  entry_not_lost (inl a) h n = go (depth_cases next seed p a.1)
    where
      go : WonIn next seed e p ⊎ LostIn next seed e p → lost next seed n p ≡ false
      go (inl w) = sym (untrue (lost next seed n p) (λ x. never_both next seed e n p w.holds x))
      go (inr l) = clash (lost_of (lost_even next seed p l) a.0) h

  pub entry_not_won : Entry next seed p e → is_won e ≡ false → (n : ℕ) → won next seed n p ≡ false
  entry_not_won (inr a) h n = neither_won next seed n p (a.1 n)
  entry_not_won (inl a) h n = go (depth_cases next seed p a.1)
    where
      go : WonIn next seed e p ⊎ LostIn next seed e p → won next seed n p ≡ false
      go (inl w) = clash (won_of (won_odd next seed p w) a.0) h
      go (inr l) = sym (untrue (won next seed n p) (λ x. never_both next seed n e p x l.holds))

-- a true entry in words: n where one side can force a win within n plies and within no fewer, draw where neither can within any
module _ {Pos : Type 0} (next : Pos → List Pos) (seed : Pos → Seed) (p : Pos) {e : ℕ} (a : Entry next seed p e) where
  pub entry_forced : e < void_entry → ForcedIn next seed e p
  entry_forced l = go (depth_cases next seed p (entry_depth next seed p a l))
    where
      go : WonIn next seed e p ⊎ LostIn next seed e p → ForcedIn next seed e p
      go (inl w) = inl (won_odd next seed p w, w)
      go (inr w) = inr (lost_even next seed p w, w)

  pub forced_entry : (n : ℕ) → ForcedIn next seed n p → e ≡ n
  forced_entry n (inl w) = (depth_entry next seed p a (won_depth next seed p w.1)).0
  forced_entry n (inr w) = (depth_entry next seed p a (lost_depth next seed p w.1)).0

  pub entry_draw : e ≡ draw_entry → Draw next seed p
  entry_draw v = go a
    where
      go : Entry next seed p e → Draw next seed p
      go (inl d) = absurd (omega (arith, d.0))
      go (inr d) = d.1

  pub draw_entry_lem : Draw next seed p → e ≡ draw_entry
  draw_entry_lem v = go a
    where
      go : Entry next seed p e → e ≡ draw_entry
      go (inl d) = clash d.1.holds (v e)
      go (inr d) = d.0

-- decided: one successor is lost, or all are won; undecided: none is lost, and one is not won
module _ {Pos : Type 0} (next : Pos → List Pos) (t : Pos → ℕ) (p : Pos) where
  pub decided_is : decided next t p ≡ (any (λ q. is_lost (t q)) (next p) || all (λ q. is_won (t q)) (next p))
  unfolding decided
  decided_is = refl

  pub decided_cases : decided next t p ≡ true
      → ((q : Pos) × Memᴰ q (next p) × (is_lost (t q) ≡ true)) ⊎ ((q : Pos) → Memᴰ q (next p) → is_won (t q) ≡ true)
  unfolding decided
  decided_cases h = go (or_cases (any (λ q. is_lost (t q)) (next p)) (all (λ q. is_won (t q)) (next p)) h)
    where
      go : (any (λ q. is_lost (t q)) (next p) ≡ true) ⊎ (all (λ q. is_won (t q)) (next p) ≡ true)
          → ((q : Pos) × Memᴰ q (next p) × (is_lost (t q) ≡ true)) ⊎ ((q : Pos) → Memᴰ q (next p) → is_won (t q) ≡ true)
      go (inl x) = inl (any_member _ (next p) x)
      go (inr x) = inr (all_member _ (next p) x)

  pub undecided_no_lost : decided next t p ≡ false → (q : Pos) → Memᴰ q (next p) → is_lost (t q) ≡ false
  unfolding decided
  undecided_no_lost h = any_none _ (next p) (or_left (any (λ q. is_lost (t q)) (next p)) (all (λ q. is_won (t q)) (next p)) h)

  pub undecided_not_won : decided next t p ≡ false → (q : Pos) × Memᴰ q (next p) × (is_won (t q) ≡ false)
  unfolding decided
  undecided_not_won h = all_fails _ (next p) (or_right (any (λ q. is_lost (t q)) (next p)) (all (λ q. is_won (t q)) (next p)) h)
