-- Tables that agree on the successors of a position judge it alike; a level does so too where draw and void are exchanged. Assumes nothing.
use mathlib.Core.Path.{◌≡◌, refl, sym, ap, ap₂, ◌∙◌}
use mathlib.Core.Bool.{Bool, true, false, ◌&&◌, ◌||◌}
use mathlib.Core.List.{List, Memᴰ}
use mathlib.Core.Logic.{◌⊎◌, inl, inr}
use Prim.Native.Nat.{ℕ, suc, ◌≤◌, ◌%◌}
use native.Mathlib.Omega.{arith}
use lib.Dec.{eqb, ltb}
use borrow.Author.Tests.{ne_eqb, le-ltb}
use Rattle.lists.specs.Lists.{any, all}
use Rattle.lists.proofs.Tests.{any_same, all_same}
use Rattle.game.specs.Game.{draw_entry, void_entry}
use Rattle.game.specs.Judgement.{is_lost, is_won, hit, decided}

module _ {Pos : Type 0} (next : Pos → List Pos) (t u : Pos → ℕ) (p : Pos) (same : (q : Pos) → Memᴰ q (next p) → t q ≡ u q) where
  any_agree : (f : ℕ → Bool) → any (λ q. f (t q)) (next p) ≡ any (λ q. f (u q)) (next p)
  any_agree f = any_same (λ q. f (t q)) (λ q. f (u q)) (next p) (λ q m. ap f (same q m))

  all_agree : (f : ℕ → Bool) → all (λ q. f (t q)) (next p) ≡ all (λ q. f (u q)) (next p)
  all_agree f = all_same (λ q. f (t q)) (λ q. f (u q)) (next p) (λ q m. ap f (same q m))

  pub hit_agree : (n : ℕ) → hit next t n p ≡ hit next u n p
  unfolding hit
  hit_agree n = go (eqb (n % 2) 1) refl
    where
      go : (b : Bool) → eqb (n % 2) 1 ≡ b → hit next t n p ≡ hit next u n p
      go true f = rw (f, hit) (any_agree (λ e. eqb (suc e) n))
      go false f = rw (f, hit) (all_agree (λ e. eqb (e % 2) 1 && ltb e n))

  pub decided_agree : decided next t p ≡ decided next u p
  unfolding decided
  decided_agree = ap₂ (λ (a b : Bool). a || b) (any_agree (λ e. is_lost e)) (all_agree (λ e. is_won e))

-- neither draw nor void is asked for at a level
module _ (n : ℕ) (low : n ≤ void_entry) where
  is_before : ℕ → Bool
  is_before e = eqb (suc e) n

  is_won_lem : ℕ → Bool
  is_won_lem e = eqb (e % 2) 1 && ltb e n

  before_alike : (a b : ℕ) → (a ≡ b) ⊎ ((a ≡ draw_entry) × (b ≡ void_entry)) → is_before a ≡ is_before b
  unfolding is_before
  before_alike a b (inl e) = ap is_before e
  before_alike a b (inr e) = ne_eqb (suc a) n (λ h. omega (arith, e.0)) ∙ sym (ne_eqb (suc b) n (λ h. omega (arith, e.1)))

  won_alike : (a b : ℕ) → (a ≡ b) ⊎ ((a ≡ draw_entry) × (b ≡ void_entry)) → is_won_lem a ≡ is_won_lem b
  unfolding is_won_lem
  won_alike a b (inl e) = ap is_won_lem e
  won_alike a b (inr e) = rw (e.0, e.1, le-ltb draw_entry n (omega arith))

  pub hit_alike : {Pos : Type 0} (next : Pos → List Pos) (t u : Pos → ℕ) (p : Pos)
      → ((q : Pos) → Memᴰ q (next p) → (t q ≡ u q) ⊎ ((t q ≡ draw_entry) × (u q ≡ void_entry))) → hit next t n p ≡ hit next u n p
  unfolding hit is_before is_won_lem
  hit_alike next t u p alike = go (eqb (n % 2) 1) refl
    where
      go : (b : Bool) → eqb (n % 2) 1 ≡ b → hit next t n p ≡ hit next u n p
      go true f = rw (f, hit) (any_same (λ q. is_before (t q)) (λ q. is_before (u q)) (next p) (λ q m. before_alike (t q) (u q) (alike q m)))
      go false f = rw (f, hit) (all_same (λ q. is_won_lem (t q)) (λ q. is_won_lem (u q)) (next p) (λ q m. won_alike (t q) (u q) (alike q m)))
