-- Won and lost within n plies: the definition as equations, one for each kind of position; what is won or lost within n stays so within more plies;
-- no position is both. Assumes nothing.
use mathlib.Core.Path.{◌≡◌, refl, sym, ◌∙◌}
use mathlib.Core.Bool.{true, false}
use mathlib.Core.List.{List}
use mathlib.Core.Logic.{◌⊎◌, inl, inr}
use Prim.Native.Nat.{ℕ, zero, suc, ◌≤◌, ◌%◌, max}
use native.Mathlib.Omega.{arith}
use lib.Dec.{eqb}
use borrow.Author.Tests.{leb-true, eqb-true, le-leb, eq-eqb}
use Rattle.lists.specs.Lists.{any, all, is_empty}
use Rattle.lists.proofs.Tests.{clash, and_left, and_right, and_both, or_cases, or_left, or_right, left_or, right_or, any_member, member_any, all_member}
use Rattle.lists.proofs.Tests.{member_all, empty_none}
use Rattle.game.specs.Game.{Seed, live, ends, drawn, won_by, lost_by, won, lost, ended}
use Rattle.game.proofs.Least.{Mono, mono_le}

-- a given depth, taken apart and put together
pub won_by_is : {d n : ℕ} → won_by d n ≡ true → (d % 2 ≡ 1) × (d ≤ n)
unfolding won_by
won_by_is {d} {n} h = (eqb-true (d % 2) 1 (and_left _ _ h), leb-true d n (and_right (eqb (d % 2) 1) _ h))

pub won_by_of : {d n : ℕ} → d % 2 ≡ 1 → d ≤ n → won_by d n ≡ true
unfolding won_by
won_by_of {d} {n} p l = and_both _ _ (eq-eqb (d % 2) 1 p) (le-leb d n l)

pub lost_by_is : {d n : ℕ} → lost_by d n ≡ true → (d % 2 ≡ 0) × (d ≤ n)
unfolding lost_by
lost_by_is {d} {n} h = (eqb-true (d % 2) 0 (and_left _ _ h), leb-true d n (and_right (eqb (d % 2) 0) _ h))

pub lost_by_of : {d n : ℕ} → d % 2 ≡ 0 → d ≤ n → lost_by d n ≡ true
unfolding lost_by
lost_by_of {d} {n} p l = and_both _ _ (eq-eqb (d % 2) 0 p) (le-leb d n l)

module _ {Pos : Type 0} (next : Pos → List Pos) (seed : Pos → Seed) where
  -- a position whose plies decide: within none, and within one more
  pub won_zero : (p : Pos) → seed p ≡ live → won next seed zero p ≡ false
  unfolding won lost
  won_zero p e = rw (e, won)

  pub lost_zero : (p : Pos) → seed p ≡ live → lost next seed zero p ≡ is_empty (next p)
  unfolding won lost
  lost_zero p e = rw (e, lost)

  pub won_suc : (n : ℕ) (p : Pos) → seed p ≡ live → won next seed (suc n) p ≡ any (λ q. lost next seed n q) (next p)
  unfolding won lost
  won_suc n p e = rw (e, won)

  pub lost_suc : (n : ℕ) (p : Pos) → seed p ≡ live → lost next seed (suc n) p ≡ all (λ q. won next seed n q) (next p)
  unfolding won lost
  lost_suc n p e = rw (e, lost)

  -- one that is given a depth
  pub won_ends : (n : ℕ) (p : Pos) {d : ℕ} → seed p ≡ ends d → won next seed n p ≡ won_by d n
  unfolding won lost
  won_ends zero p e = rw (e, won)
  won_ends (suc n) p e = rw (e, won)

  pub lost_ends : (n : ℕ) (p : Pos) {d : ℕ} → seed p ≡ ends d → lost next seed n p ≡ lost_by d n
  unfolding won lost
  lost_ends zero p e = rw (e, lost)
  lost_ends (suc n) p e = rw (e, lost)

  -- one that is given a draw
  pub won_drawn : (n : ℕ) (p : Pos) → seed p ≡ drawn → won next seed n p ≡ false
  unfolding won lost
  won_drawn zero p e = rw (e, won)
  won_drawn (suc n) p e = rw (e, won)

  pub lost_drawn : (n : ℕ) (p : Pos) → seed p ≡ drawn → lost next seed n p ≡ false
  unfolding won lost
  lost_drawn zero p e = rw (e, lost)
  lost_drawn (suc n) p e = rw (e, lost)

  -- a proof of what holds within every n: at given endings, at drawn ends, and step by step where the plies decide
  pub by_plies : (P : ℕ → Pos → Type 0)
      → ((n : ℕ) (p : Pos) (d : ℕ) → seed p ≡ ends d → P n p)
      → ((n : ℕ) (p : Pos) → seed p ≡ drawn → P n p)
      → ((p : Pos) → seed p ≡ live → P zero p)
      → ((n : ℕ) → ((q : Pos) → P n q) → (p : Pos) → seed p ≡ live → P (suc n) p)
      → (n : ℕ) (p : Pos) → P n p
  by_plies P given draw start step zero p = go (seed p) refl
    where
      go : (s : Seed) → seed p ≡ s → P zero p
      go live e = start p e
      go (ends d) e = given zero p d e
      go drawn e = draw zero p e
  by_plies P given draw start step (suc n) p = go (seed p) refl (by_plies P given draw start step n)
    where
      go : (s : Seed) → seed p ≡ s → ((q : Pos) → P n q) → P (suc n) p
      go live e r = step n r p e
      go (ends d) e r = given (suc n) p d e
      go drawn e r = draw (suc n) p e

  -- "within every n from the depth on"
  abbrev Stays : ℕ → Pos → Type 0
  Stays n p = (won next seed n p ≡ true → won next seed (suc n) p ≡ true) × (lost next seed n p ≡ true → lost next seed (suc n) p ≡ true)

  stays : (n : ℕ) (p : Pos) → Stays n p
  stays = by_plies (λ n p. Stays n p)
      (λ n p d e. (
        λ h. let s = won_by_is (sym (won_ends n p e) ∙ h) in won_ends (suc n) p e ∙ won_by_of s.0 (omega (arith, s.1)),
        λ h. let s = lost_by_is (sym (lost_ends n p e) ∙ h) in lost_ends (suc n) p e ∙ lost_by_of s.0 (omega (arith, s.1)),
      ))
      (λ n p e. (λ h. clash h (won_drawn n p e), λ h. clash h (lost_drawn n p e)))
      (λ p e. (
        λ h. clash h (won_zero p e),
        λ h. lost_suc zero p e ∙ member_all _ (next p) (λ q m. absurd (empty_none (next p) (sym (lost_zero p e) ∙ h) m)),
      ))
      (λ n r p e. (
        λ h. let s = any_member _ (next p) (sym (won_suc n p e) ∙ h) in won_suc (suc n) p e ∙ member_any _ (next p) s.1 ((r s.0).1 s.2),
        λ h. lost_suc (suc n) p e ∙ member_all _ (next p) (λ q m. (r q).0 (all_member _ (next p) (sym (lost_suc n p e) ∙ h) q m)),
      ))

  pub won_mono : (p : Pos) → Mono (λ n. won next seed n p)
  won_mono p n = (stays n p).0

  pub lost_mono : (p : Pos) → Mono (λ n. lost next seed n p)
  lost_mono p n = (stays n p).1

  not_both : (n : ℕ) (p : Pos) → won next seed n p ≡ true → lost next seed n p ≡ true → ⊥
  not_both = by_plies (λ n p. won next seed n p ≡ true → lost next seed n p ≡ true → ⊥)
      (λ n p d e w l. omega (arith, (won_by_is (sym (won_ends n p e) ∙ w)).0, (lost_by_is (sym (lost_ends n p e) ∙ l)).0))
      (λ n p e w l. clash w (won_drawn n p e))
      (λ p e w l. clash w (won_zero p e))
      (λ n r p e w l. let s = any_member _ (next p) (sym (won_suc n p e) ∙ w) in
      r s.0 (all_member _ (next p) (sym (lost_suc n p e) ∙ l) s.0 s.1) s.2)

  -- no position is won within some n and lost within some m
  pub never_both : (n m : ℕ) (p : Pos) → won next seed n p ≡ true → lost next seed m p ≡ true → ⊥
  never_both n m p w l = not_both (max n m) p (mono_le _ (won_mono p) (omega arith) w) (mono_le _ (lost_mono p) (omega arith) l)

  -- ended within n: won or lost; not ended: neither
  pub won_ended : (n : ℕ) (p : Pos) → won next seed n p ≡ true → ended next seed n p ≡ true
  unfolding ended
  won_ended n p = left_or (won next seed n p) (lost next seed n p)

  pub lost_ended : (n : ℕ) (p : Pos) → lost next seed n p ≡ true → ended next seed n p ≡ true
  unfolding ended
  lost_ended n p = right_or (won next seed n p) (lost next seed n p)

  pub ended_cases : (n : ℕ) (p : Pos) → ended next seed n p ≡ true → (won next seed n p ≡ true) ⊎ (lost next seed n p ≡ true)
  unfolding ended
  ended_cases n p = or_cases (won next seed n p) (lost next seed n p)

  pub neither_ended : (n : ℕ) (p : Pos) → won next seed n p ≡ false → lost next seed n p ≡ false → ended next seed n p ≡ false
  unfolding ended
  neither_ended n p w l = rw (w, l)

  pub neither_won : (n : ℕ) (p : Pos) → ended next seed n p ≡ false → won next seed n p ≡ false
  unfolding ended
  neither_won n p = or_left (won next seed n p) (lost next seed n p)

  pub neither_lost : (n : ℕ) (p : Pos) → ended next seed n p ≡ false → lost next seed n p ≡ false
  unfolding ended
  neither_lost n p = or_right (won next seed n p) (lost next seed n p)

  pub ended_mono : (p : Pos) → Mono (λ n. ended next seed n p)
  ended_mono p n h = go (ended_cases n p h)
    where
      go : (won next seed n p ≡ true) ⊎ (lost next seed n p ≡ true) → ended next seed (suc n) p ≡ true
      go (inl w) = won_ended (suc n) p (won_mono p n w)
      go (inr l) = lost_ended (suc n) p (lost_mono p n l)
