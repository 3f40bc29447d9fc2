-- A mover who wins by best moves has a ply, and one who always takes a quickest win wins in time, whatever the opponent does: of each later position
-- with the mover to move as many plies are left as were not played. Assumes nothing.
use mathlib.Core.Path.{◌≡◌, sym, subst, ◌∙◌}
use mathlib.Core.Bool.{true}
use mathlib.Core.List.{List, Memᴰ}
use mathlib.Core.Logic.{◌⊎◌, inl, inr}
use Prim.Native.Nat.{ℕ, zero, suc, ◌+◌, ◌*◌, ◌≤◌}
use native.Mathlib.Omega.{arith}
use Rattle.lists.proofs.Tests.{all_member}
use Rattle.game.specs.Game.{Seed, live, ends, won, lost, WonIn, LostIn}
use Rattle.game.specs.Play.{Over, Wins, Later}
use Rattle.game.proofs.Least.{mono_le, least_find}
use Rattle.game.proofs.Within.{won_by_is, lost_by_of, won_ends, lost_ends, lost_suc, won_mono, lost_mono, never_both}
use Rattle.game.proofs.Depths.{won_odd}

pub wins_ply : {Pos : Type 0} (next : Pos → List Pos) (seed : Pos → Seed) (best : Pos → Pos) (n : ℕ) (p : Pos) → Wins next seed best n p
    → Memᴰ (best p) (next p)
wins_ply next seed best zero p w = absurd w
wins_ply next seed best (suc zero) p w = w.1
wins_ply next seed best (suc (suc n)) p w = w.1

-- where the only given endings are losses in 0, a won position is none of them
pub won_live : {Pos : Type 0} (next : Pos → List Pos) (seed : Pos → Seed) (n : ℕ) (p : Pos) → (seed p ≡ live) ⊎ (seed p ≡ ends 0)
    → won next seed n p ≡ true → seed p ≡ live
won_live next seed n p (inl e) w = e
won_live next seed n p (inr e) w = absurd (omega (arith, (won_by_is (sym (won_ends next seed n p e) ∙ w)).0))

module _ {Pos : Type 0} (next : Pos → List Pos) (seed : Pos → Seed) (best : Pos → Pos) (S : Pos → Type 0)
    (closed : (p : Pos) → S p → seed p ≡ live → (q : Pos) → Memᴰ q (next p) → S q)
    (whole : (p : Pos) → S p → (seed p ≡ live) ⊎ (seed p ≡ ends 0))
    (best_listed_lem : (n : ℕ) (p : Pos) → S p → seed p ≡ live → won next seed n p ≡ true → Memᴰ (best p) (next p))
    (quick : (n : ℕ) (p : Pos) → S p → seed p ≡ live → WonIn next seed (suc n) p → LostIn next seed n (best p)) where
  is_live : (n : ℕ) (p : Pos) → S p → won next seed n p ≡ true → seed p ≡ live
  is_live n p s w = won_live next seed n p (whole p s) w

  -- after the best move the opponent is lost within one ply fewer
  reply : (n : ℕ) (p : Pos) → S p → won next seed (suc n) p ≡ true → lost next seed n (best p) ≡ true
  reply n p s w = let f = least_find _ (won_mono next seed p) (suc n) w in go f.0 f.1 f.2
    where
      go : (k : ℕ) → k ≤ suc n → WonIn next seed k p → lost next seed n (best p) ≡ true
      go zero l a = absurd (omega (arith, won_odd next seed p a))
      go (suc k) l a = mono_le _ (lost_mono next seed (best p)) (omega arith) (quick k p s (is_live (suc k) p s a.holds) a).holds

  not_over : (n : ℕ) (p : Pos) → won next seed n p ≡ true → Over next seed p → ⊥
  not_over n p w o = never_both next seed n zero p w o

  -- after the best move the game is over, or goes on and every ply of the opponent leads to a position that is won within two plies fewer
  answered : (n : ℕ) (p : Pos) → S p → won next seed (suc (suc n)) p ≡ true
      → Over next seed (best p) ⊎ ((q : Pos) → Memᴰ q (next (best p)) → S q × (won next seed n q ≡ true))
  answered n p s w = go (whole (best p) r)
    where
      e : seed p ≡ live
      e = is_live (suc (suc n)) p s w

      r : S (best p)
      r = closed p s e (best p) (best_listed_lem (suc (suc n)) p s e w)

      go : (seed (best p) ≡ live) ⊎ (seed (best p) ≡ ends 0)
          → Over next seed (best p) ⊎ ((q : Pos) → Memᴰ q (next (best p)) → S q × (won next seed n q ≡ true))
      go (inl l) = inr (λ q m. (
        closed (best p) r l q m,
        all_member _ (next (best p)) (sym (lost_suc next seed n (best p) l) ∙ reply (suc n) p s w) q m,
      ))
      go (inr l) = inl (lost_ends next seed zero (best p) l ∙ lost_by_of (omega arith) (omega arith))

  pub best_wins : (n : ℕ) (p : Pos) → S p → won next seed n p ≡ true → Wins next seed best n p
  best_wins zero p s w = let f = least_find _ (won_mono next seed p) zero w in omega (arith, f.1, won_odd next seed p f.2)
  best_wins (suc zero) p s w = (not_over 1 p w, best_listed_lem 1 p s (is_live 1 p s w) w, reply zero p s w)
  best_wins (suc (suc n)) p s w =
      let m = best_listed_lem (suc (suc n)) p s (is_live (suc (suc n)) p s w) w in
      (not_over (suc (suc n)) p w, m, go (answered n p s w) (λ q i x. best_wins n q i x))
    where
      go : Over next seed (best p) ⊎ ((q : Pos) → Memᴰ q (next (best p)) → S q × (won next seed n q ≡ true))
          → ((q : Pos) → S q → won next seed n q ≡ true → Wins next seed best n q)
          → Over next seed (best p) ⊎ ((q : Pos) → Memᴰ q (next (best p)) → Wins next seed best n q)
      go (inl o) below = inl o
      go (inr a) below = inr (λ q m. below q (a q m).0 (a q m).1)

  -- a later position with the mover to move is won within the plies that are left
  pub later_won : (n t : ℕ) (p q : Pos) → S p → won next seed n p ≡ true → Later next seed best t p q
      → (m : ℕ) × (m + 2 * t ≡ n) × S q × (won next seed m q ≡ true)
  later_won n zero p q s w l = (n, omega arith, subst S (sym l) s, subst (λ (x : Pos). won next seed n x ≡ true) (sym l) w)
  later_won n (suc t) p q s w l =
      let b = later_won n t p l.0 s w l.1 in go b.0 b.1 b.2 b.3
    where
      r : Pos
      r = l.0

      on : (m : ℕ) → suc (suc m) + 2 * t ≡ n → Over next seed (best r) ⊎ ((x : Pos) → Memᴰ x (next (best r)) → S x × (won next seed m x ≡ true))
          → (k : ℕ) × (k + 2 * suc t ≡ n) × S q × (won next seed k q ≡ true)
      on m e (inl o) = absurd (l.2 o)
      on m e (inr a) = (m, omega (arith, e), (a q l.3).0, (a q l.3).1)

      go : (m : ℕ) → m + 2 * t ≡ n → S r → won next seed m r ≡ true → (k : ℕ) × (k + 2 * suc t ≡ n) × S q × (won next seed k q ≡ true)
      go zero e i x = let f = least_find _ (won_mono next seed r) zero x in absurd (omega (arith, f.1, won_odd next seed r f.2))
      go (suc zero) e i x = absurd (l.2 (reply zero r i x))
      go (suc (suc m)) e i x = on m e (answered m r i x)
