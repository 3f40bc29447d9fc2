-- Outcomes and entries: an entry states the outcome, a position has one outcome, and two positions, of one game or of two, have equal entries exactly
-- when they have equal outcomes. Assumes nothing.
use mathlib.Core.Path.{◌≡◌, refl, sym, ◌∙◌, ap, subst}
use mathlib.Core.Bool.{Bool, true, false}
use mathlib.Core.List.{List}
use mathlib.Core.Logic.{◌⊎◌, inl, inr}
use Prim.Native.Nat.{ℕ, ◌<◌, ◌%◌}
use native.Mathlib.Omega.{arith}
use lib.Dec.{eqb}
use borrow.Author.Tests.{eqb-true, eq-eqb, ne_eqb}
use Rattle.lists.proofs.Tests.{clash}
use Rattle.game.specs.Game.{Seed, WonIn, LostIn, Entry, draw_entry, void_entry, Outcome, mover_wins, opponent_wins, neither, HasOutcome, outcome_of}
use Rattle.game.proofs.Least.{least_unique}
use Rattle.game.proofs.Within.{never_both, neither_won, neither_lost}
use Rattle.game.proofs.Depths.{won_odd, lost_even, depth_cases}

outcome_draw : outcome_of draw_entry ≡ neither
unfolding outcome_of
outcome_draw = refl

outcome_odd : (e : ℕ) → e < void_entry → e % 2 ≡ 1 → outcome_of e ≡ mover_wins e
unfolding outcome_of
outcome_odd e l o = let f : eqb e draw_entry ≡ false = ne_eqb e draw_entry (λ h. omega arith) in rw (f, eq-eqb (e % 2) 1 o, outcome_of)

outcome_even : (e : ℕ) → e < void_entry → e % 2 ≡ 0 → outcome_of e ≡ opponent_wins e
unfolding outcome_of
outcome_even e l o =
    let f : eqb e draw_entry ≡ false = ne_eqb e draw_entry (λ h. omega arith) in
    let i : eqb (e % 2) 1 ≡ false = ne_eqb (e % 2) 1 (λ h. omega arith) in
    rw (f, i, outcome_of)

-- an entry can be read off the outcome that it states
entry_of : Outcome → ℕ
entry_of (mover_wins n) = n
entry_of (opponent_wins n) = n
entry_of neither = draw_entry

entry_read : (e : ℕ) → entry_of (outcome_of e) ≡ e
unfolding entry_of outcome_of
entry_read e = go (eqb e draw_entry) refl (eqb (e % 2) 1) refl
  where
    go : (b : Bool) → eqb e draw_entry ≡ b → (c : Bool) → eqb (e % 2) 1 ≡ c → entry_of (outcome_of e) ≡ e
    go true f c i = rw (f, outcome_of) (sym (eqb-true e draw_entry f))
    go false f true i = rw (f, i, outcome_of)
    go false f false i = rw (f, i, outcome_of)

module _ {Pos : Type 0} (next : Pos → List Pos) (seed : Pos → Seed) (p : Pos) where
  pub entry_outcome : {e : ℕ} → Entry next seed p e → HasOutcome next seed p (outcome_of e)
  entry_outcome {e} (inl (l, d)) = go (depth_cases next seed p d)
    where
      go : WonIn next seed e p ⊎ LostIn next seed e p → HasOutcome next seed p (outcome_of e)
      go (inl a) = subst (λ (o : Outcome). HasOutcome next seed p o) (sym (outcome_odd e l (won_odd next seed p a))) a
      go (inr a) = subst (λ (o : Outcome). HasOutcome next seed p o) (sym (outcome_even e l (lost_even next seed p a))) a
  entry_outcome {e} (inr (v, w)) = subst (λ (o : Outcome). HasOutcome next seed p o) (sym (ap outcome_of v ∙ outcome_draw)) w

  pub outcome_one : (o o' : Outcome) → HasOutcome next seed p o → HasOutcome next seed p o' → o ≡ o'
  outcome_one (mover_wins n) (mover_wins m) a b = ap mover_wins (least_unique _ a b)
  outcome_one (mover_wins n) (opponent_wins m) a b = absurd (never_both next seed n m p a.holds b.holds)
  outcome_one (mover_wins n) neither a b = clash a.holds (neither_won next seed n p (b n))
  outcome_one (opponent_wins n) (mover_wins m) a b = absurd (never_both next seed m n p b.holds a.holds)
  outcome_one (opponent_wins n) (opponent_wins m) a b = ap opponent_wins (least_unique _ a b)
  outcome_one (opponent_wins n) neither a b = clash a.holds (neither_lost next seed n p (b n))
  outcome_one neither (mover_wins m) a b = clash b.holds (neither_won next seed m p (a m))
  outcome_one neither (opponent_wins m) a b = clash b.holds (neither_lost next seed m p (a m))
  outcome_one neither neither a b = refl

  entry_states : {e : ℕ} (o : Outcome) → Entry next seed p e → HasOutcome next seed p o → o ≡ outcome_of e
  entry_states {e} o a h = outcome_one o (outcome_of e) h (entry_outcome a)

pub same_outcome : {Pos₁ Pos₂ : Type 0} (next₁ : Pos₁ → List Pos₁) (seed₁ : Pos₁ → Seed) (p : Pos₁) (next₂ : Pos₂ → List Pos₂) (seed₂ : Pos₂ → Seed) (q : Pos₂)
    {e f : ℕ} (o o' : Outcome) → Entry next₁ seed₁ p e → Entry next₂ seed₂ q f → HasOutcome next₁ seed₁ p o → HasOutcome next₂ seed₂ q o'
    → (e ≡ f → o ≡ o') × (o ≡ o' → e ≡ f)
same_outcome next₁ seed₁ p next₂ seed₂ q {e} {f} o o' a b h k =
    let i = entry_states next₁ seed₁ p o a h in
    let j = entry_states next₂ seed₂ q o' b k in
    (λ v. i ∙ ap outcome_of v ∙ sym j, λ v. sym (entry_read e) ∙ ap entry_of (sym i ∙ v ∙ j) ∙ entry_read f)
