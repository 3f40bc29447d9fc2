-- Where a table holds every depth below n, what level n hits has ended within n, and what has depth n is hit; and what a visit writes.
-- Assumes nothing.
use mathlib.Core.Path.{◌≡◌, refl, sym, ap, ◌∙◌, subst}
use mathlib.Core.Bool.{Bool, true, false, ◌&&◌, and-false}
use mathlib.Core.List.{List, [], ◌∷◌, Memᴰ}
use mathlib.Core.Logic.{◌⊎◌, inl, inr}
use Prim.Native.Nat.{ℕ, zero, suc, ◌<◌, ◌%◌}
use native.Mathlib.Omega.{arith}
use lib.Dec.{ltb, eqb}
use borrow.Author.Tests.{ltb-true, eqb-true, eqb-false, lt-ltb, le-ltb, eq-eqb, ne_eqb}
use Rattle.lists.specs.Lists.{any, all, is_empty}
use Rattle.lists.proofs.Tests.{and_left, and_right, and_both, any_member, member_any, all_member, member_all}
use Rattle.game.specs.Game.{Seed, live, won, ended, WonIn, LostIn, Depth, draw_entry}
use Rattle.game.specs.Judgement.{hit, visit}
use Rattle.game.proofs.Within.{won_suc, won_ended, lost_ended}
use Rattle.game.proofs.Steps.{win_step, lost_all_won, all_won_lost}
use Rattle.game.proofs.Depths.{won_odd, lost_even, won_depth, lost_depth, depth_cases, depth_odd, depth_even}
use Rattle.game.proofs.Tables.{Ground, Upto}

module _ {Pos : Type 0} (next : Pos → List Pos) (t : Pos → ℕ) (n : ℕ) (p : Pos) where
  pub hit_odd : n % 2 ≡ 1 → hit next t n p ≡ any (λ q. eqb (suc (t q)) n) (next p)
  unfolding hit
  hit_odd o = rw (eq-eqb (n % 2) 1 o, hit)

  pub hit_even : n % 2 ≡ 0 → hit next t n p ≡ all (λ q. eqb (t q % 2) 1 && ltb (t q) n) (next p)
  unfolding hit
  hit_even o = let f : eqb (n % 2) 1 ≡ false = ne_eqb (n % 2) 1 (λ h. omega arith) in rw (f, hit)

  -- a visit writes the level where it hits an open position
  pub visit_hit : t p ≡ draw_entry → hit next t n p ≡ true → visit next t n p ≡ n
  unfolding visit
  visit_hit v h = rw (eq-eqb (t p) draw_entry v, h, visit)

  pub visit_miss : hit next t n p ≡ false → visit next t n p ≡ t p
  unfolding visit
  visit_miss h = go (eqb (t p) draw_entry) refl
    where
      go : (b : Bool) → eqb (t p) draw_entry ≡ b → visit next t n p ≡ t p
      go true f = rw (f, h, visit)
      go false f = rw (f, visit)

  pub visit_closed : (t p ≡ draw_entry → ⊥) → visit next t n p ≡ t p
  unfolding visit
  visit_closed h = rw (ne_eqb (t p) draw_entry h, visit)

  pub visit_known : t p < draw_entry → visit next t n p ≡ t p
  visit_known l = visit_closed (λ h. omega arith)

-- level 0 hits what has no ply
pub hit_zero : {Pos : Type 0} (next : Pos → List Pos) (t : Pos → ℕ) (p : Pos) → hit next t 0 p ≡ is_empty (next p)
hit_zero {Pos} next t p = hit_even next t 0 p refl ∙ go (next p)
  where
    go : (l : List Pos) → all (λ q. eqb (t q % 2) 1 && ltb (t q) 0) l ≡ is_empty l
    go [] = refl
    go (q ∷ l) = ap (λ (b : Bool). elim b as (λ c. Bool) [ true ↦ all (λ x. eqb (t x % 2) 1 && ltb (t x) 0) l | false ↦ false ])
        (ap (λ (b : Bool). eqb (t q % 2) 1 && b) (le-ltb (t q) 0 (omega arith)) ∙ and-false (eqb (t q % 2) 1))

module _ {Pos : Type 0} (next : Pos → List Pos) (seed : Pos → Seed) (S : Pos → Type 0) (g : Ground next seed S) (t : Pos → ℕ) where
  -- what level n hits has ended within n
  pub hit_ended : (n : ℕ) → Upto next seed S t n → (p : Pos) → S p → seed p ≡ live → hit next t n p ≡ true → ended next seed n p ≡ true
  hit_ended n u p s e h = go (eqb (n % 2) 1) refl
    where
      every : n % 2 ≡ 0 → (q : Pos) → Memᴰ q (next p) → (k : ℕ) × (k < n) × (won next seed k q ≡ true)
      every o q m =
          let a = all_member _ (next p) (sym (hit_even next t n p o) ∙ h) q m in
          let l = ltb-true (t q) n (and_right (eqb (t q % 2) 1) _ a) in
          (t q, l, (depth_odd next seed q (u.sound q (g.closed p s e q m) l) (eqb-true (t q % 2) 1 (and_left _ _ a))).holds)

      go : (b : Bool) → eqb (n % 2) 1 ≡ b → ended next seed n p ≡ true
      go true f =
          let o = eqb-true (n % 2) 1 f in
          let a = any_member _ (next p) (sym (hit_odd next t n p o) ∙ h) in
          let v = eqb-true (suc (t a.0)) n a.2 in
          let x = depth_even next seed a.0 (u.sound a.0 (g.closed p s e a.0 a.1) (omega arith)) (omega arith) in
          subst (λ (k : ℕ). ended next seed k p ≡ true) v
          (won_ended next seed (suc (t a.0)) p (won_suc next seed (t a.0) p e ∙ member_any _ (next p) a.1 x.holds))
      go false f = let o : n % 2 ≡ 1 → ⊥ = eqb-false (n % 2) 1 f in
          lost_ended next seed n p (all_won_lost next seed n p e (every (omega arith)))

  -- level n hits what has depth n
  pub depth_hit : (n : ℕ) → Upto next seed S t n → (p : Pos) → S p → seed p ≡ live → Depth next seed n p → hit next t n p ≡ true
  depth_hit n u p s e d = go n refl (depth_cases next seed p d)
    where
      lower : n % 2 ≡ 0 → LostIn next seed n p → (q : Pos) → Memᴰ q (next p) → (eqb (t q % 2) 1 && ltb (t q) n) ≡ true
      lower o a q m =
          let x = lost_all_won next seed n p e a.holds q m in
          let f = u.complete q (g.closed p s e q m) x.0 x.1 (won_depth next seed q x.2) in
          and_both _ _ (eq-eqb (t q % 2) 1 (omega (arith, f, won_odd next seed q x.2))) (lt-ltb (t q) n (omega (arith, f, x.1)))

      go : (k : ℕ) → n ≡ k → WonIn next seed n p ⊎ LostIn next seed n p → hit next t n p ≡ true
      go zero f (inl a) = absurd (omega (arith, won_odd next seed p a))
      go (suc k) f (inl a) =
          let x = win_step next seed k p e (subst (λ (i : ℕ). WonIn next seed i p) f a) in
          let v = u.complete x.to (g.closed p s e x.to x.ply) k (omega arith) (lost_depth next seed x.to x.lost_in) in
          hit_odd next t n p (won_odd next seed p a) ∙ member_any _ (next p) x.ply (eq-eqb (suc (t x.to)) n (omega arith))
      go k f (inr a) = let o = lost_even next seed p a in hit_even next t n p o ∙ member_all _ (next p) (lower o a)
