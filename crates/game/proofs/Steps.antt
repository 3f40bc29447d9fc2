-- One ply, for a position whose plies decide: a win of n + 1 plies has a successor lost in n, and none lost sooner; a loss of n + 1 plies has all
-- successors won within n, one of them no sooner. And conversely. Assumes nothing.
use mathlib.Core.Path.{◌≡◌, sym, ◌∙◌}
use mathlib.Core.Bool.{true, false}
use mathlib.Core.List.{List, Memᴰ}
use Prim.Native.Nat.{ℕ, zero, suc, ◌<◌}
use native.Mathlib.Omega.{arith}
use Rattle.lists.specs.Lists.{is_empty}
use Rattle.lists.proofs.Tests.{untrue, any_member, member_any, all_member, member_all, any_none, none_any, all_fails, fails_all, empty_none, none_empty}
use Rattle.lists.proofs.Tests.{first_member}
use Rattle.game.specs.Game.{Seed, live, won, lost, WonIn, LostIn}
use Rattle.game.proofs.Least.{mono_le, least_zero, least_at, least_find}
use Rattle.game.proofs.Within.{won_zero, won_suc, lost_zero, lost_suc, won_mono}

module _ {Pos : Type 0} (next : Pos → List Pos) (seed : Pos → Seed) where
  -- "A win takes 1 + the least lost successor"
  pub record WinStep (p : Pos) (n : ℕ) : Type 0 where
    pub to : Pos
    pub ply : Memᴰ to (next p)
    pub lost_in : LostIn next seed n to
    pub no_quicker : (q : Pos) → Memᴰ q (next p) → (k : ℕ) → k < n → lost next seed k q ≡ false

  -- "a loss takes 1 + the greatest when all successors are won"
  pub record LossStep (p : Pos) (n : ℕ) : Type 0 where
    pub to : Pos
    pub ply : Memᴰ to (next p)
    pub won_in : WonIn next seed n to
    pub all_won : (q : Pos) → Memᴰ q (next p) → won next seed n q ≡ true

  pub win_step : (n : ℕ) (p : Pos) → seed p ≡ live → WonIn next seed (suc n) p → WinStep p n
  win_step n p e a =
      let s = any_member _ (next p) (sym (won_suc next seed n p e) ∙ a.holds) in
      record { to = s.0; ply = s.1; lost_in = record { holds = s.2; below = later s.0 s.1 }; no_quicker = later }
    where
      later : (q : Pos) → Memᴰ q (next p) → (k : ℕ) → k < n → lost next seed k q ≡ false
      later q m k l = any_none _ (next p) (sym (won_suc next seed k p e) ∙ a.below (suc k) (omega arith)) q m

  pub win_make : (n : ℕ) (p : Pos) → seed p ≡ live → WinStep p n → WonIn next seed (suc n) p
  win_make n p e s = record { holds = won_suc next seed n p e ∙ member_any _ (next p) s.ply s.lost_in.holds; below = later }
    where
      later : (k : ℕ) → k < suc n → won next seed k p ≡ false
      later zero l = won_zero next seed p e
      later (suc k) l = won_suc next seed k p e ∙ none_any _ (next p) (λ q m. s.no_quicker q m k (omega arith))

  -- a position without a ply is lost in 0
  pub loss_zero : (p : Pos) → seed p ≡ live → is_empty (next p) ≡ true → LostIn next seed zero p
  loss_zero p e h = least_zero _ (lost_zero next seed p e ∙ h)

  -- the successor that holds out longest
  longest : (n : ℕ) (p : Pos) → seed p ≡ live → lost next seed n p ≡ false → ((q : Pos) → Memᴰ q (next p) → won next seed n q ≡ true)
      → (q : Pos) × Memᴰ q (next p) × WonIn next seed n q
  longest zero p e f h = let s = first_member (next p) (sym (lost_zero next seed p e) ∙ f) in (s.0, s.1, least_zero _ (h s.0 s.1))
  longest (suc n) p e f h = let s = all_fails _ (next p) (sym (lost_suc next seed n p e) ∙ f) in
      (s.0, s.1, least_at _ (won_mono next seed s.0) n s.2 (h s.0 s.1))

  pub loss_step : (n : ℕ) (p : Pos) → seed p ≡ live → LostIn next seed (suc n) p → LossStep p n
  loss_step n p e a =
      let every = all_member _ (next p) (sym (lost_suc next seed n p e) ∙ a.holds) in
      let s = longest n p e (a.below n (omega arith)) every in
      record { to = s.0; ply = s.1; won_in = s.2; all_won = every }

  pub loss_make : (n : ℕ) (p : Pos) → seed p ≡ live → LossStep p n → LostIn next seed (suc n) p
  loss_make n p e s = record { holds = lost_suc next seed n p e ∙ member_all _ (next p) s.all_won; below = later }
    where
      later : (k : ℕ) → k < suc n → lost next seed k p ≡ false
      later zero l = lost_zero next seed p e ∙ sym (untrue (is_empty (next p)) (λ t. empty_none (next p) t s.ply))
      later (suc k) l = lost_suc next seed k p e ∙ fails_all _ (next p) s.ply (s.won_in.below k (omega arith))

  -- lost within n: every successor is won within fewer plies
  pub lost_all_won : (n : ℕ) (p : Pos) → seed p ≡ live → lost next seed n p ≡ true → (q : Pos) → Memᴰ q (next p)
      → (k : ℕ) × (k < n) × WonIn next seed k q
  lost_all_won zero p e h q m = absurd (empty_none (next p) (sym (lost_zero next seed p e) ∙ h) m)
  lost_all_won (suc n) p e h q m =
      let s = least_find _ (won_mono next seed q) n (all_member _ (next p) (sym (lost_suc next seed n p e) ∙ h) q m) in
      (s.0, omega (arith, s.1), s.2)

  pub all_won_lost : (n : ℕ) (p : Pos) → seed p ≡ live → ((q : Pos) → Memᴰ q (next p) → (k : ℕ) × (k < n) × (won next seed k q ≡ true))
      → lost next seed n p ≡ true
  all_won_lost zero p e h = lost_zero next seed p e ∙ none_empty (next p) (λ q m. omega (arith, (h q m).1))
  all_won_lost (suc n) p e h =
      lost_suc next seed n p e ∙ member_all _ (next p) (λ q m. let s = h q m in mono_le _ (won_mono next seed q) (omega (arith, s.1)) s.2)
