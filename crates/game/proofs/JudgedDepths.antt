-- Where a table holds every depth below n, a judgement up to n is the depth, and every depth up to n is judged. Assumes nothing.
use mathlib.Core.Path.{◌≡◌, sym, subst}
use mathlib.Core.Bool.{true}
use mathlib.Core.List.{List, map, Memᴰ}
use mathlib.Core.Logic.{◌⊎◌, inl, inr}
use Prim.Native.Nat.{ℕ, zero, suc, ◌≤◌, ◌<◌}
use native.Mathlib.Omega.{arith}
use Rattle.lists.proofs.Tests.{clash, untrue}
use Rattle.game.specs.Game.{Seed, live, lost, WonIn, LostIn, Depth, void_entry}
use Rattle.game.specs.Judgement.{is_lost, is_won, judge}
use Rattle.game.proofs.Least.{mono_le, least_find}
use Rattle.game.proofs.Within.{won_mono, lost_mono}
use Rattle.game.proofs.Steps.{win_step, win_make, loss_zero, loss_make, lost_all_won}
use Rattle.game.proofs.Depths.{won_odd, lost_even, won_depth, lost_depth, depth_cases, depth_odd, depth_even, depth_unique}
use Rattle.game.proofs.Tables.{Ground, Upto}
use Rattle.game.proofs.Entries.{lost_is, lost_of, won_is, won_of}
use Rattle.game.proofs.Judging.{Judged, blocked, win, loss, draw, judged}

module _ {Pos : Type 0} (next : Pos → List Pos) (seed : Pos → Seed) (S : Pos → Type 0) (g : Ground next seed S) (t : Pos → ℕ)
    (n : ℕ) (b : n ≤ void_entry) (u : Upto next seed S t n) (p : Pos) (s : S p) (e : seed p ≡ live) where
  -- a successor's entry below n that says lost, or won, is the depth
  is_lost_lem : (q : Pos) → Memᴰ q (next p) → t q < n → is_lost (t q) ≡ true → LostIn next seed (t q) q
  is_lost_lem q m l h = depth_even next seed q (u.sound q (g.closed p s e q m) l) (lost_is h).0

  is_won_lem : (q : Pos) → Memᴰ q (next p) → t q < n → is_won (t q) ≡ true → WonIn next seed (t q) q
  is_won_lem q m l h = depth_odd next seed q (u.sound q (g.closed p s e q m) l) (won_is h).0

  -- a successor lost, or won, in fewer than n plies has that as its entry
  seen_lost : (q : Pos) → Memᴰ q (next p) → (k : ℕ) → k < n → LostIn next seed k q → (t q ≡ k) × (is_lost (t q) ≡ true)
  seen_lost q m k l a = let f = u.complete q (g.closed p s e q m) k l (lost_depth next seed q a) in
      (f, lost_of (omega (arith, lost_even next seed q a)) (omega arith))

  seen_won : (q : Pos) → Memᴰ q (next p) → (k : ℕ) → k < n → WonIn next seed k q → (t q ≡ k) × (is_won (t q) ≡ true)
  seen_won q m k l a = let f = u.complete q (g.closed p s e q m) k l (won_depth next seed q a) in
      (f, won_of (omega (arith, won_odd next seed q a)) (omega arith))

  pub judge_sound : judge (map t (next p)) ≤ n → Depth next seed (judge (map t (next p))) p
  judge_sound j = go (judged next t p)
    where
      -- a successor lost sooner would stand in the table
      quicker : (k : ℕ) → k < n → ((r : Pos) → Memᴰ r (next p) → is_lost (t r) ≡ true → k ≤ t r)
          → (r : Pos) → Memᴰ r (next p) → (i : ℕ) → i < k → lost next seed i r ≡ true → ⊥
      quicker k l h r m i c x =
          let f = least_find _ (lost_mono next seed r) i x in
          let w = seen_lost r m f.0 (omega (arith, f.1)) f.2 in
          omega (arith, h r m w.1, w.0, f.1)

      go : Judged next t p (judge (map t (next p))) → Depth next seed (judge (map t (next p))) p
      go (blocked v h) = subst (λ (x : ℕ). Depth next seed x p) (sym v) (lost_depth next seed p (loss_zero next seed p e h))
      go (win q m v l h) = let c : t q < n = omega arith in
          subst (λ (x : ℕ). Depth next seed x p) (sym v) (won_depth next seed p (win_make next seed (t q) p e (record {
            to = q;
            ply = m;
            lost_in = is_lost_lem q m c l;
            no_quicker = λ r k i d. sym (untrue (lost next seed i r) (quicker (t q) c h r k i d));
          })))
      go (loss q m v h) = let c : t q < n = omega arith in
          subst (λ (x : ℕ). Depth next seed x p) (sym v) (lost_depth next seed p (loss_make next seed (t q) p e (record {
            to = q;
            ply = m;
            won_in = is_won_lem q m c (h q m).0;
            all_won = λ r k. let w = h r k in mono_le _ (won_mono next seed r) w.1 (is_won_lem r k (omega (arith, w.1)) w.0).holds;
          })))
      go (draw q m v w h) = absurd (omega arith)

  -- a depth k up to n shows in the entries: some successor is lost below k, or all are won below k
  abbrev Shows : ℕ → Type 0
  Shows k = ((q : Pos) × Memᴰ q (next p) × (is_lost (t q) ≡ true) × (t q < k)) ⊎ ((q : Pos) → Memᴰ q (next p) → (is_won (t q) ≡ true) × (t q < k))

  shows : (k : ℕ) → k ≤ n → WonIn next seed k p ⊎ LostIn next seed k p → Shows k
  shows zero l (inl a) = absurd (omega (arith, won_odd next seed p a))
  shows (suc k) l (inl a) =
      let x = win_step next seed k p e a in
      let w = seen_lost x.to x.ply k (omega arith) x.lost_in in
      inl (x.to, x.ply, w.1, omega (arith, w.0))
  shows k l (inr a) = inr (λ q m.
      let x = lost_all_won next seed k p e a.holds q m in
      let w = seen_won q m x.0 (omega (arith, x.1)) x.2 in
      (w.1, omega (arith, w.0, x.1)))

  pub judge_complete : (k : ℕ) → k ≤ n → Depth next seed k p → judge (map t (next p)) ≡ k
  judge_complete k l d = go (judged next t p) (shows k l (depth_cases next seed p d))
    where
      low : judge (map t (next p)) ≤ n → judge (map t (next p)) ≡ k
      low j = depth_unique next seed p (judge_sound j) d

      go : Judged next t p (judge (map t (next p))) → Shows k → judge (map t (next p)) ≡ k
      go (blocked v h) x = low (omega arith)
      go (win q m v o h) (inl (r, i, a, c)) = low (omega (arith, h r i a))
      go (win q m v o h) (inr a) = absurd (omega (arith, (lost_is o).0, (won_is (a q m).0).0))
      go (loss q m v h) (inl (r, i, a, c)) = absurd (omega (arith, (lost_is a).0, (won_is (h r i).0).0))
      go (loss q m v h) (inr a) = low (omega (arith, (a q m).1))
      go (draw q m v w h) (inl (r, i, a, c)) = clash a (h r i)
      go (draw q m v w h) (inr a) = clash (a q m).0 w
