-- The depth of a position: a win takes an odd number of plies and a loss an even one; a position has one depth and one entry; the depth tells what is
-- won and lost within every n. Assumes nothing.
use mathlib.Core.Path.{◌≡◌, refl, sym, ◌∙◌}
use mathlib.Core.Bool.{Bool, true, false}
use mathlib.Core.List.{List, Memᴰ}
use mathlib.Core.Logic.{◌⊎◌, inl, inr}
use Prim.Native.Nat.{ℕ, zero, suc, ◌<◌, ◌%◌}
use native.Mathlib.Omega.{arith}
use lib.Dec.{leb, eqb}
use borrow.Author.Tests.{leb-true, leb-false, eqb-true, eqb-false}
use Rattle.lists.proofs.Tests.{clash, untrue, same_test}
use Rattle.game.specs.Game.{Seed, live, ends, drawn, won_by, lost_by, won, lost, ended, WonIn, LostIn, Depth, Draw, Entry}
use Rattle.game.proofs.Least.{mono_le, mono_below, least_unique, least_find, same_least}
use Rattle.game.proofs.Within.{won_by_is, won_by_of, lost_by_is, lost_by_of, won_zero, won_ends, won_drawn, lost_ends, lost_drawn}
use Rattle.game.proofs.Within.{by_plies, won_mono, lost_mono, ended_mono, never_both}
use Rattle.game.proofs.Within.{won_ended, lost_ended, ended_cases, neither_ended, neither_won, neither_lost}
use Rattle.game.proofs.Steps.{win_step, loss_step}

module _ {Pos : Type 0} (next : Pos → List Pos) (seed : Pos → Seed) where
  -- a given depth is the least n
  ends_won : (p : Pos) {d : ℕ} → seed p ≡ ends d → d % 2 ≡ 1 → WonIn next seed d p
  ends_won p {d} e o = record {
    holds = won_ends next seed d p e ∙ won_by_of o (omega arith);
    below = λ k l. won_ends next seed k p e ∙ sym (untrue (won_by d k) (λ t. omega (arith, (won_by_is t).1)));
  }

  ends_lost : (p : Pos) {d : ℕ} → seed p ≡ ends d → d % 2 ≡ 0 → LostIn next seed d p
  ends_lost p {d} e o = record {
    holds = lost_ends next seed d p e ∙ lost_by_of o (omega arith);
    below = λ k l. lost_ends next seed k p e ∙ sym (untrue (lost_by d k) (λ t. omega (arith, (lost_by_is t).1)));
  }

  abbrev Parity : ℕ → Pos → Type 0
  Parity n p = (WonIn next seed n p → n % 2 ≡ 1) × (LostIn next seed n p → n % 2 ≡ 0)

  ends_parity : (n : ℕ) (p : Pos) (d : ℕ) → seed p ≡ ends d → Parity n p
  ends_parity n p d e = (
    λ a. let o = (won_by_is (sym (won_ends next seed n p e) ∙ a.holds)).0 in omega (arith, o, least_unique _ a (ends_won p e o)),
    λ a. let o = (lost_by_is (sym (lost_ends next seed n p e) ∙ a.holds)).0 in omega (arith, o, least_unique _ a (ends_lost p e o)),
  )

  parity : (n : ℕ) (p : Pos) → Parity n p
  parity = by_plies next seed (λ n p. Parity n p)
      ends_parity
      (λ n p e. (λ a. clash a.holds (won_drawn next seed n p e), λ a. clash a.holds (lost_drawn next seed n p e)))
      (λ p e. (λ a. clash a.holds (won_zero next seed p e), λ a. refl))
      (λ n r p e. (
        λ a. let s = win_step next seed n p e a in omega (arith, (r s.to).1 s.lost_in),
        λ a. let s = loss_step next seed n p e a in omega (arith, (r s.to).0 s.won_in),
      ))

  -- "won if that depth is odd and lost if it is even"
  pub won_odd : {n : ℕ} (p : Pos) → WonIn next seed n p → n % 2 ≡ 1
  won_odd {n} p = (parity n p).0

  pub lost_even : {n : ℕ} (p : Pos) → LostIn next seed n p → n % 2 ≡ 0
  lost_even {n} p = (parity n p).1

  -- the depth of a won position, and of a lost one
  pub won_depth : {n : ℕ} (p : Pos) → WonIn next seed n p → Depth next seed n p
  won_depth {n} p a = record {
    holds = won_ended next seed n p a.holds;
    below = λ k l. neither_ended next seed k p (a.below k l) (sym (untrue (lost next seed k p) (λ t. never_both next seed n k p a.holds t)));
  }

  pub lost_depth : {n : ℕ} (p : Pos) → LostIn next seed n p → Depth next seed n p
  lost_depth {n} p a = record {
    holds = lost_ended next seed n p a.holds;
    below = λ k l. neither_ended next seed k p (sym (untrue (won next seed k p) (λ t. never_both next seed k n p t a.holds))) (a.below k l);
  }

  pub depth_cases : {n : ℕ} (p : Pos) → Depth next seed n p → WonIn next seed n p ⊎ LostIn next seed n p
  depth_cases {n} p a = go (ended_cases next seed n p a.holds)
    where
      go : (won next seed n p ≡ true) ⊎ (lost next seed n p ≡ true) → WonIn next seed n p ⊎ LostIn next seed n p
      go (inl w) = inl (record { holds = w; below = λ k l. neither_won next seed k p (a.below k l) })
      go (inr t) = inr (record { holds = t; below = λ k l. neither_lost next seed k p (a.below k l) })

  pub depth_odd : {n : ℕ} (p : Pos) → Depth next seed n p → n % 2 ≡ 1 → WonIn next seed n p
  depth_odd {n} p a o = go (depth_cases p a)
    where
      go : WonIn next seed n p ⊎ LostIn next seed n p → WonIn next seed n p
      go (inl w) = w
      go (inr t) = absurd (omega (arith, lost_even p t))

  pub depth_even : {n : ℕ} (p : Pos) → Depth next seed n p → n % 2 ≡ 0 → LostIn next seed n p
  depth_even {n} p a o = go (depth_cases p a)
    where
      go : WonIn next seed n p ⊎ LostIn next seed n p → LostIn next seed n p
      go (inl w) = absurd (omega (arith, won_odd p w))
      go (inr t) = t

  -- a position of depth n + 1 whose plies decide has a successor of depth n
  pub depth_step : (n : ℕ) (p : Pos) → seed p ≡ live → Depth next seed (suc n) p → (q : Pos) × Memᴰ q (next p) × Depth next seed n q
  depth_step n p e d = go (depth_cases p d)
    where
      go : WonIn next seed (suc n) p ⊎ LostIn next seed (suc n) p → (q : Pos) × Memᴰ q (next p) × Depth next seed n q
      go (inl a) = let s = win_step next seed n p e a in (s.to, s.ply, lost_depth s.to s.lost_in)
      go (inr a) = let s = loss_step next seed n p e a in (s.to, s.ply, won_depth s.to s.won_in)

  -- a given depth, or draw, is the outcome
  pub ends_depth : (p : Pos) {d : ℕ} → seed p ≡ ends d → Depth next seed d p
  ends_depth p {d} e = go (eqb (d % 2) 1) refl
    where
      go : (b : Bool) → eqb (d % 2) 1 ≡ b → Depth next seed d p
      go true h = won_depth p (ends_won p e (eqb-true (d % 2) 1 h))
      go false h = let k : d % 2 ≡ 1 → ⊥ = eqb-false (d % 2) 1 h in lost_depth p (ends_lost p e (omega arith))

  pub drawn_draw : (p : Pos) → seed p ≡ drawn → Draw next seed p
  drawn_draw p e n = neither_ended next seed n p (won_drawn next seed n p e) (lost_drawn next seed n p e)

  -- a position has one depth and one entry
  pub depth_unique : {n m : ℕ} (p : Pos) → Depth next seed n p → Depth next seed m p → n ≡ m
  depth_unique p a b = least_unique _ a b

  pub entry_unique : {e f : ℕ} (p : Pos) → Entry next seed p e → Entry next seed p f → e ≡ f
  entry_unique p (inl a) (inl b) = depth_unique p a.1 b.1
  entry_unique {e} {f} p (inl a) (inr b) = clash a.1.holds (b.1 e)
  entry_unique {e} {f} p (inr a) (inl b) = clash b.1.holds (a.1 f)
  entry_unique p (inr a) (inr b) = a.0 ∙ sym b.0

  -- not ended within fewer than n plies
  abbrev pub NotBefore : ℕ → Pos → Type 0
  NotBefore n p = (k : ℕ) → k < n → ended next seed k p ≡ false

  pub before_or_not : (n : ℕ) (p : Pos) → ((k : ℕ) × (k < n) × Depth next seed k p) ⊎ NotBefore n p
  before_or_not zero p = inr (λ k l. absurd (omega arith))
  before_or_not (suc n) p = go (ended next seed n p) refl
    where
      go : (b : Bool) → ended next seed n p ≡ b → ((k : ℕ) × (k < suc n) × Depth next seed k p) ⊎ NotBefore (suc n) p
      go true e = let s = least_find _ (ended_mono next seed p) n e in inl (s.0, omega (arith, s.1), s.2)
      go false e = inr (λ k l. mono_below _ (ended_mono next seed p) (omega arith) e)

  -- the depth tells what is won and lost within every n
  pub depth_won : {d : ℕ} (p : Pos) → Depth next seed d p → (n : ℕ) → won next seed n p ≡ won_by d n
  depth_won {d} p a n = same_test (won next seed n p) (won_by d n) (λ w. go w (depth_cases p a) (leb d n) refl)
      (λ h. let s = won_by_is h in mono_le _ (won_mono next seed p) s.1 (depth_odd p a s.0).holds)
    where
      go : won next seed n p ≡ true → WonIn next seed d p ⊎ LostIn next seed d p → (b : Bool) → leb d n ≡ b → won_by d n ≡ true
      go w (inl x) true e = won_by_of (won_odd p x) (leb-true d n e)
      go w (inl x) false e = clash w (x.below n (leb-false d n e))
      go w (inr x) b e = absurd (never_both next seed n d p w x.holds)

  pub depth_lost : {d : ℕ} (p : Pos) → Depth next seed d p → (n : ℕ) → lost next seed n p ≡ lost_by d n
  depth_lost {d} p a n = same_test (lost next seed n p) (lost_by d n) (λ l. go l (depth_cases p a) (leb d n) refl)
      (λ h. let s = lost_by_is h in mono_le _ (lost_mono next seed p) s.1 (depth_even p a s.0).holds)
    where
      go : lost next seed n p ≡ true → WonIn next seed d p ⊎ LostIn next seed d p → (b : Bool) → leb d n ≡ b → lost_by d n ≡ true
      go l (inl x) b e = absurd (never_both next seed d n p x.holds l)
      go l (inr x) true e = lost_by_of (lost_even p x) (leb-true d n e)
      go l (inr x) false e = clash l (x.below n (leb-false d n e))

-- positions, of one game or of two, that end within the same n have the same entry
pub same_entry : {Pos₁ Pos₂ : Type 0} (next₁ : Pos₁ → List Pos₁) (seed₁ : Pos₁ → Seed) (p : Pos₁) (next₂ : Pos₂ → List Pos₂) (seed₂ : Pos₂ → Seed) (q : Pos₂)
    → ((n : ℕ) → ended next₁ seed₁ n p ≡ ended next₂ seed₂ n q) → {e : ℕ} → Entry next₁ seed₁ p e → Entry next₂ seed₂ q e
same_entry next₁ seed₁ p next₂ seed₂ q h (inl a) = inl (a.0, same_least _ _ h a.1)
same_entry next₁ seed₁ p next₂ seed₂ q h (inr a) = inr (a.0, λ n. sym (h n) ∙ a.1 n)
