-- What a move to an entry is worth: two entries worth the same are the same, unless they are void, and the one worth most is the best. Assumes nothing.
use mathlib.Core.Path.{◌≡◌, refl, sym, subst, ◌∙◌}
use mathlib.Core.Bool.{Bool, true, false}
use mathlib.Core.List.{List, Memᴰ}
use Prim.Native.Nat.{ℕ, ◌+◌, ◌-◌, ◌≤◌, ◌<◌, ◌%◌}
use native.Mathlib.Omega.{arith}
use lib.Dec.{eqb, ltb}
use borrow.Author.Tests.{eqb-true, eqb-false, eq-eqb, ltb-true, ltb-false}
use Rattle.lists.specs.Lists.{any, is_empty}
use Rattle.lists.proofs.Tests.{clash, untrue, any_member, any_none, empty_none}
use Rattle.game.specs.Game.{draw_entry, void_entry}
use Rattle.game.specs.Judgement.{is_lost, is_won, least_lost, greatest}
use Rattle.game.proofs.Entries.{lost_is, lost_of, won_is, won_of}
use Rattle.game.proofs.Judging.{least_lost_low, least_lost_in, greatest_high, greatest_in}
use Rattle.bestmove.specs.Best.{best_entry}
use Rattle.bestmove.specs.Inner.Worth.{worth}

-- an entry is not both
lost_not_won : (e : ℕ) → is_lost e ≡ true → is_won e ≡ false
lost_not_won e l = sym (untrue (is_won e) (λ w. omega (arith, (lost_is l).0, (won_is w).0)))

pub worth_won : (e : ℕ) → is_won e ≡ true → worth e ≡ draw_entry - (void_entry - e)
unfolding worth
worth_won e w = rw (w, worth)

pub worth_lost : (e : ℕ) → is_lost e ≡ true → worth e ≡ draw_entry + (void_entry - e)
unfolding worth
worth_lost e l = rw (lost_not_won e l, l, worth)

pub worth_other : (e : ℕ) → void_entry ≤ e → worth e ≡ draw_entry
unfolding worth
worth_other e h =
    let w : is_won e ≡ false = sym (untrue (is_won e) (λ t. omega (arith, (won_is t).1))) in
    let l : is_lost e ≡ false = sym (untrue (is_lost e) (λ t. omega (arith, (lost_is t).1))) in
    rw (w, l, worth)

-- an entry of 16 bits that is not void
pub record Told (e : ℕ) : Type 0 where
  pub small : e < 65536
  pub some : e ≡ void_entry → ⊥

-- its worth, by what it says
data Kind (e : ℕ) : ℕ → Type 0 where
  won : is_won e ≡ true → e < void_entry → Kind e (draw_entry - (void_entry - e))
  draw : e ≡ draw_entry → Kind e draw_entry
  lost : is_lost e ≡ true → e < void_entry → Kind e (draw_entry + (void_entry - e))

kind : (e : ℕ) → Told e → Kind e (worth e)
kind e t = go (ltb e void_entry) refl (eqb (e % 2) 1) refl
  where
    go : (a : Bool) → ltb e void_entry ≡ a → (b : Bool) → eqb (e % 2) 1 ≡ b → Kind e (worth e)
    go true p true q =
        let h = ltb-true e void_entry p in
        let w = won_of (eqb-true (e % 2) 1 q) h in
        rw (worth_won e w) (won w h)
    go true p false q =
        let h = ltb-true e void_entry p in
        let l = lost_of (omega (arith, eqb-false (e % 2) 1 q)) h in
        rw (worth_lost e l) (lost l h)
    go false p b q = let h = ltb-false e void_entry p in rw (worth_other e h) (draw (omega (arith, t)))

pub worth_one : (a b : ℕ) → Told a → Told b → worth a ≡ worth b → a ≡ b
worth_one a b s t e = go (worth a) (worth b) (kind a s) (kind b t) e
  where
    go : (x y : ℕ) → Kind a x → Kind b y → x ≡ y → a ≡ b
    go x y (won p h) (won q l) r = omega arith
    go x y (won p h) (draw q) r = omega arith
    go x y (won p h) (lost q l) r = omega arith
    go x y (draw p) (won q l) r = omega arith
    go x y (draw p) (draw q) r = omega arith
    go x y (draw p) (lost q l) r = omega arith
    go x y (lost p h) (won q l) r = omega arith
    go x y (lost p h) (draw q) r = omega arith
    go x y (lost p h) (lost q l) r = omega arith

-- the cases of the best entry
module _ (es : List ℕ) where
  pub best_lost : any (λ e. is_lost e) es ≡ true → best_entry es ≡ least_lost es
  unfolding best_entry
  best_lost a = rw (a, best_entry)

  pub best_draw : any (λ e. is_lost e) es ≡ false → any (λ e. eqb e draw_entry) es ≡ true → best_entry es ≡ draw_entry
  unfolding best_entry
  best_draw a b = rw (a, b, best_entry)

  pub best_won : any (λ e. is_lost e) es ≡ false → any (λ e. eqb e draw_entry) es ≡ false → best_entry es ≡ greatest es
  unfolding best_entry
  best_won a b = rw (a, b, best_entry)

-- a member worth most, where no member is void
module _ (es : List ℕ) (told : (x : ℕ) → Memᴰ x es → Told x) (e : ℕ) (m : Memᴰ e es)
    (top : (x : ℕ) → Memᴰ x es → worth x ≤ worth e) where
  -- the least lost one, where some member is lost
  top_lost : (x : ℕ) → Memᴰ x es → is_lost x ≡ true → is_lost e ≡ true
  top_lost x i l = go (worth e) (kind e (told e m)) (subst (λ (w : ℕ). w ≤ worth e) (worth_lost x l) (top x i))
    where
      go : (w : ℕ) → Kind e w → draw_entry + (void_entry - x) ≤ w → is_lost e ≡ true
      go w (won p h) a = absurd (omega (arith, (lost_is l).1))
      go w (draw p) a = absurd (omega (arith, (lost_is l).1))
      go w (lost p h) a = p

  least : is_lost e ≡ true → least_lost es ≡ e
  least l =
      let low = least_lost_low es e m l in
      let s = least_lost_in es (omega (arith, (lost_is l).1)) in
      omega (arith, (lost_is l).1, top (least_lost es) s.0, worth_lost (least_lost es) s.1, worth_lost e l)

  -- a draw, where none is lost and one is drawn
  top_draw : (x : ℕ) → Memᴰ x es → x ≡ draw_entry → is_lost e ≡ false → draw_entry ≡ e
  top_draw x i d n = go (worth e) (kind e (told e m)) (subst (λ (w : ℕ). w ≤ worth e) (worth_other x (omega arith)) (top x i))
    where
      go : (w : ℕ) → Kind e w → draw_entry ≤ w → draw_entry ≡ e
      go w (won p h) a = absurd (omega arith)
      go w (draw p) a = sym p
      go w (lost p h) a = clash p n

  -- the greatest, where all are won
  all_won : any (λ x. is_lost x) es ≡ false → any (λ x. eqb x draw_entry) es ≡ false → (x : ℕ) → Memᴰ x es → is_won x ≡ true
  all_won p q x i = go (worth x) (kind x (told x i))
    where
      go : (w : ℕ) → Kind x w → is_won x ≡ true
      go w (won r h) = r
      go w (draw r) = clash (eq-eqb x draw_entry r) (any_none (λ x. eqb x draw_entry) es q x i)
      go w (lost r h) = clash r (any_none (λ x. is_lost x) es p x i)

  high : ((x : ℕ) → Memᴰ x es → is_won x ≡ true) → greatest es ≡ e
  high w =
      let i = greatest_in es (sym (untrue (is_empty es) (λ t. empty_none es t m))) in
      let g = w (greatest es) i in
      omega (arith, greatest_high es e m, top (greatest es) i, worth_won (greatest es) g, worth_won e (w e m), (won_is g).1, (won_is (w e m)).1)

  -- in each case the best
  pub best_is : best_entry es ≡ e
  best_is = go (any (λ x. is_lost x) es) refl (any (λ x. eqb x draw_entry) es) refl
    where
      go : (a : Bool) → any (λ x. is_lost x) es ≡ a → (b : Bool) → any (λ x. eqb x draw_entry) es ≡ b → best_entry es ≡ e
      go true p b q = let (x, i, l) = any_member (λ x. is_lost x) es p in best_lost es p ∙ least (top_lost x i l)
      go false p true q = let (x, i, d) = any_member (λ x. eqb x draw_entry) es q in
          best_draw es p q ∙ top_draw x i (eqb-true x draw_entry d) (any_none (λ x. is_lost x) es p e m)
      go false p false q = best_won es p q ∙ high (all_won p q)
