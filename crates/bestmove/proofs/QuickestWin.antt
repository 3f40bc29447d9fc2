-- Judged by true entries, the best move of a won position is a ply to a position that is lost as soon as any; so a mover who always takes it wins in
-- time, whatever the opponent does. Assumes nothing.
use mathlib.Core.Path.{◌≡◌, sym, ap, subst, ◌∙◌}
use mathlib.Core.Bool.{true}
use mathlib.Core.List.{List, map, Memᴰ}
use mathlib.Core.Logic.{◌⊎◌}
use Prim.Native.Nat.{ℕ, zero, suc, ◌+◌, ◌*◌}
use native.Mathlib.Omega.{arith}
use Rattle.lists.specs.Lists.{is_empty}
use Rattle.lists.proofs.Members.{member_map}
use Rattle.lists.proofs.Tests.{untrue, clash, any_member, empty_none}
use Rattle.game.specs.Game.{Seed, live, ends, won, WonIn, LostIn, Entry}
use Rattle.game.specs.Judgement.{is_lost}
use Rattle.game.specs.Play.{Wins, Later}
use Rattle.game.proofs.Least.{mono_le}
use Rattle.game.proofs.Within.{won_zero, won_suc, lost_mono}
use Rattle.game.proofs.Depths.{lost_depth, lost_even}
use Rattle.game.proofs.Steps.{win_step}
use Rattle.game.proofs.Entries.{lost_of, depth_entry, entry_lost}
use Rattle.game.proofs.Play.{best_wins, later_won}
use Rattle.bestmove.specs.Best.{best_entry, best_move}
use Rattle.bestmove.proofs.Choice.{best_listed_lem, best_least}

-- a game whose plies are given by moves, in whatever order, and a set of positions, closed under plies, with their true entries
module _ {Pos : Type 0} (next : Pos → List Pos) (seed : Pos → Seed) (S : Pos → Type 0)
    (closed : (p : Pos) → S p → seed p ≡ live → (q : Pos) → Memᴰ q (next p) → S q)
    (whole : (p : Pos) → S p → (seed p ≡ live) ⊎ (seed p ≡ ends 0))
    (moves : Pos → List ℕ) (after : Pos → ℕ → Pos) (ply_of : (p q : Pos) → Memᴰ q (next p) → (m : ℕ) × Memᴰ m (moves p) × (q ≡ after p m))
    (of_ply : (p : Pos) (m : ℕ) → Memᴰ m (moves p) → Memᴰ (after p m) (next p))
    (t : Pos → ℕ) (entries : (p : Pos) → S p → Entry next seed p (t p)) where
  abbrev best : Pos → Pos
  best p = after p (best_move (λ m. t (after p m)) (moves p))

  abbrev judged : Pos → List ℕ
  judged p = map (λ m. t (after p m)) (moves p)

  -- where there is a ply, the best move is one, and leads to the best entry
  taken : (p q : Pos) → Memᴰ q (next p) → Memᴰ (best p) (next p) × (t (best p) ≡ best_entry (judged p)) × Memᴰ (t q) (judged p)
  taken p q i =
      let (m, k, e) = ply_of p q i in
      let s = best_listed_lem (λ m. t (after p m)) (moves p) (sym (untrue (is_empty (moves p)) (λ z. empty_none (moves p) z k))) in (
        of_ply p _ s.0,
        s.1,
        subst (λ (c : Pos). Memᴰ (t c) (judged p)) (sym e) (member_map (λ m. t (after p m)) (moves p) k),
      )

  listed : (n : ℕ) (p : Pos) → S p → seed p ≡ live → won next seed n p ≡ true → Memᴰ (best p) (next p)
  listed zero p s e w = clash w (won_zero next seed p e)
  listed (suc n) p s e w = let a = any_member _ (next p) (sym (won_suc next seed n p e) ∙ w) in (taken p a.0 a.1).0

  quick : (n : ℕ) (p : Pos) → S p → seed p ≡ live → WonIn next seed (suc n) p → LostIn next seed n (best p)
  quick n p s e w =
      let a = win_step next seed n p e w in
      let q = a.to in
      let k = taken p q a.ply in
      let d = depth_entry next seed q (entries q (closed p s e q a.ply)) (lost_depth next seed q a.lost_in) in
      let l = best_least (judged p) (t q) k.2 (lost_of (omega (arith, d.0, lost_even next seed q a.lost_in)) d.1) in
      let b = entry_lost next seed (best p) (entries (best p) (closed p s e (best p) k.0)) (ap is_lost k.1 ∙ l.0) in
      record {
        holds = mono_le _ (lost_mono next seed (best p)) (omega (arith, k.1, l.1, d.0)) b.holds;
        below = a.no_quicker (best p) k.0;
      }

  -- so it wins, and a later position with the mover to move is won within the plies that are left
  pub best_plays : (n : ℕ) (p : Pos) → S p → won next seed n p ≡ true
      → Wins next seed best n p
      × ((t : ℕ) (q : Pos) → Later next seed best t p q → (m : ℕ) × (m + 2 * t ≡ n) × S q × (won next seed m q ≡ true))
  best_plays n p s w = (
    best_wins next seed best S closed whole listed quick n p s w,
    λ t q. later_won next seed best S closed whole listed quick n t p q s w,
  )
