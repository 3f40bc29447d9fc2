-- When an entry is right, tried by computation; and an entry is right exactly where it is what the successors' entries judge it to be, and not void.
-- Assumes nothing.
use mathlib.Core.Path.{◌≡◌, refl, sym, ap, ◌∙◌}
use mathlib.Core.Bool.{Bool, true, false, not, ◌&&◌, ◌||◌}
use mathlib.Core.List.{List, [], ◌∷◌, map, Memᴰ}
use mathlib.Core.Logic.{◌⊎◌, inl, inr}
use Prim.Native.Nat.{ℕ, suc, ◌≤◌, ◌<◌, ◌%◌}
use native.Mathlib.Omega.{arith}
use lib.Dec.{eqb, ltb}
use borrow.Author.Tests.{eqb-true, eq-eqb, lt-ltb, not-true}
use Rattle.lists.specs.Lists.{any, all, is_empty}
use Rattle.lists.proofs.Members.{map_member, member_map}
use Rattle.lists.proofs.Tests.{clash, and_left, and_right, and_both, or_cases, left_or, right_or, any_member, member_any, none_any, any_none}
use Rattle.lists.proofs.Tests.{all_member, member_all, empty_none, empty_map}
use Rattle.game.specs.Game.{draw_entry, void_entry}
use Rattle.game.specs.Judgement.{is_lost, is_won, least_lost, greatest, judge}
use Rattle.game.proofs.Entries.{lost_is, lost_of, won_is, won_of}
use Rattle.game.proofs.Judging.{Judged, blocked, win, loss, draw, judged, least_lost_low, least_lost_in, greatest_high, greatest_in}
use Rattle.certificate.specs.Right.{blocked_right, won_right, lost_right, draw_right, right}

-- The definition tried. A blocked mover has lost in 0: not a draw, and nothing deeper
blocked_cases : (right 0 [] ≡ true) × (right 2 [] ≡ false) × (right 65535 [] ≡ false) × (right 0 (65535 ∷ []) ≡ false)
unfolding right is_won is_lost
blocked_cases = (refl, refl, refl, refl)

-- a win takes 1 + the quickest lost successor
won_cases : (right 3 (4 ∷ 2 ∷ 65535 ∷ []) ≡ true) × (right 5 (4 ∷ 2 ∷ []) ≡ false) × (right 1 (2 ∷ []) ≡ false) × (right 3 (65534 ∷ []) ≡ false)
unfolding right is_won is_lost
won_cases = (refl, refl, refl, refl)

-- a loss takes 1 + the slowest of successors that are all won; where that would be 65,534 no entry is right
lost_cases : (right 4 (1 ∷ 3 ∷ []) ≡ true) × (right 2 (1 ∷ 3 ∷ []) ≡ false) × (right 4 (3 ∷ 65535 ∷ []) ≡ false) × (right 65534 (65533 ∷ []) ≡ false)
unfolding right is_won is_lost
lost_cases = (refl, refl, refl, refl)

-- a draw has no lost successor and one that is not won; a void one is neither
draw_cases : (right 65535 (1 ∷ 65535 ∷ []) ≡ true) × (right 65535 (1 ∷ 65534 ∷ []) ≡ true) × (right 65535 (1 ∷ 3 ∷ []) ≡ false)
    × (right 65535 (65535 ∷ 2 ∷ []) ≡ false)
unfolding right is_won is_lost
draw_cases = (refl, refl, refl, refl)

greatest_none : (es : List ℕ) → is_empty es ≡ true → greatest es ≡ 0
greatest_none [] h = refl
greatest_none (e ∷ es) h = clash h refl

module _ {Pos : Type 0} (next : Pos → List Pos) (t : Pos → ℕ) (p : Pos) (n : ℕ) where
  abbrev es : List ℕ
  es = map t (next p)

  -- a successor's entry is among them
  among : (q : Pos) → Memᴰ q (next p) → Memᴰ (t q) es
  among q m = member_map t (next p) m

  pub right_judged : right n es ≡ true → (n ≡ judge es) × (n ≡ void_entry → ⊥)
  unfolding right
  right_judged h = go (or_cases (blocked_right n es || won_right n es || lost_right n es) _ h)
    where
      at_blocked : blocked_right n es ≡ true → Judged next t p (judge es) → (n ≡ judge es) × (n ≡ void_entry → ⊥)
      at_blocked b (blocked v e) = let z = eqb-true n 0 (and_left _ _ b) in (z ∙ sym v, λ w. omega arith)
      at_blocked b (win q m v l f) = absurd (empty_none es (and_right (eqb n 0) _ b) (among q m))
      at_blocked b (loss q m v f) = absurd (empty_none es (and_right (eqb n 0) _ b) (among q m))
      at_blocked b (draw q m v w f) = absurd (empty_none es (and_right (eqb n 0) _ b) (among q m))

      at_won : won_right n es ≡ true → Judged next t p (judge es) → (n ≡ judge es) × (n ≡ void_entry → ⊥)
      at_won b j = found (least_lost_in es (omega (arith, is, low))) j
        where
          low : n < void_entry
          low = (won_is (and_left (is_won n) _ b)).1

          is : suc (least_lost es) ≡ n
          is = eqb-true (suc (least_lost es)) n (and_right (is_won n) _ b)

          found : Memᴰ (least_lost es) es × (is_lost (least_lost es) ≡ true) → Judged next t p (judge es) → (n ≡ judge es) × (n ≡ void_entry → ⊥)
          found (i, l) j = let (q, m, e) = map_member t (next p) i in go q m e (ap is_lost (sym e) ∙ l) j
            where
              go : (q : Pos) → Memᴰ q (next p) → least_lost es ≡ t q → is_lost (t q) ≡ true → Judged next t p (judge es)
                  → (n ≡ judge es) × (n ≡ void_entry → ⊥)
              go q m e x (blocked v f) = absurd (empty_none (next p) f m)
              go q m e x (win r k v y f) =
                  (omega (arith, is, v, e, f q m x, least_lost_low es (t r) (among r k) y), λ w. omega (arith, low))
              go q m e x (loss r k v f) = absurd (omega (arith, lost_is x, won_is (f q m).0))
              go q m e x (draw r k v w f) = clash x (f q m)

      at_lost : lost_right n es ≡ true → Judged next t p (judge es) → (n ≡ judge es) × (n ≡ void_entry → ⊥)
      at_lost b j = go j
        where
          counts : (is_lost n && ltb 0 n && all (λ e. is_won e) es) ≡ true
          counts = and_left _ _ b

          even : (n % 2 ≡ 0) × (n < void_entry)
          even = lost_is (and_left (is_lost n) _ (and_left (is_lost n && ltb 0 n) _ counts))

          won : (q : Pos) → Memᴰ q (next p) → is_won (t q) ≡ true
          won q m = all_member (λ e. is_won e) es (and_right (is_lost n && ltb 0 n) _ counts) (t q) (among q m)

          is : suc (greatest es) ≡ n
          is = eqb-true (suc (greatest es)) n (and_right (is_lost n && ltb 0 n && all (λ e. is_won e) es) _ b)

          go : Judged next t p (judge es) → (n ≡ judge es) × (n ≡ void_entry → ⊥)
          go (blocked v f) = absurd (omega (arith, even, is, greatest_none es (empty_map t (next p) ∙ f)))
          go (win q m v l f) = absurd (omega (arith, lost_is l, won_is (won q m)))
          go (loss q m v f) = top (is_empty es) refl
            where
              top : (b : Bool) → is_empty es ≡ b → (n ≡ judge es) × (n ≡ void_entry → ⊥)
              top true e = absurd (empty_none es e (among q m))
              top false e = let (r, k, g) = map_member t (next p) (greatest_in es e) in
                  (omega (arith, is, v, g, (f r k).1, greatest_high es (t q) (among q m)), λ w. omega (arith, even))
          go (draw q m v w f) = clash (won q m) w

      at_draw : draw_right n es ≡ true → Judged next t p (judge es) → (n ≡ judge es) × (n ≡ void_entry → ⊥)
      at_draw b j = go (any_member (λ e. not (is_won e)) es (and_right (eqb n draw_entry && not (any (λ e. is_lost e) es)) _ b)) j
        where
          told : (eqb n draw_entry && not (any (λ e. is_lost e) es)) ≡ true
          told = and_left _ _ b

          is : n ≡ draw_entry
          is = eqb-true n draw_entry (and_left _ _ told)

          no_lost : (q : Pos) → Memᴰ q (next p) → is_lost (t q) ≡ false
          no_lost q m = any_none (λ e. is_lost e) es (not-true _ (and_right (eqb n draw_entry) _ told)) (t q) (among q m)

          go : (e : ℕ) × Memᴰ e es × (not (is_won e) ≡ true) → Judged next t p (judge es) → (n ≡ judge es) × (n ≡ void_entry → ⊥)
          go (e, i, w) (blocked v f) = let (q, m, g) = map_member t (next p) i in absurd (empty_none (next p) f m)
          go (e, i, w) (win q m v l f) = clash l (no_lost q m)
          go (e, i, w) (loss q m v f) = let (r, k, g) = map_member t (next p) i in clash (ap is_won g ∙ (f r k).0) (not-true (is_won e) w)
          go (e, i, w) (draw q m v x f) = (is ∙ sym v, λ z. omega (arith, is))

      first : (blocked_right n es ≡ true) ⊎ (won_right n es ≡ true) → (n ≡ judge es) × (n ≡ void_entry → ⊥)
      first (inl b) = at_blocked b (judged next t p)
      first (inr b) = at_won b (judged next t p)

      second : ((blocked_right n es || won_right n es) ≡ true) ⊎ (lost_right n es ≡ true) → (n ≡ judge es) × (n ≡ void_entry → ⊥)
      second (inl b) = first (or_cases (blocked_right n es) _ b)
      second (inr b) = at_lost b (judged next t p)

      go : ((blocked_right n es || won_right n es || lost_right n es) ≡ true) ⊎ (draw_right n es ≡ true) → (n ≡ judge es) × (n ≡ void_entry → ⊥)
      go (inl b) = second (or_cases (blocked_right n es || won_right n es) _ b)
      go (inr b) = at_draw b (judged next t p)

  pub judged_right : n ≡ judge es → (n ≡ void_entry → ⊥) → right n es ≡ true
  unfolding right
  judged_right e d = go (judged next t p)
    where
      -- one of the four is enough
      of_blocked : blocked_right n es ≡ true → right n es ≡ true
      of_blocked h = left_or _ _ (left_or _ _ (left_or _ _ h))

      of_won : won_right n es ≡ true → right n es ≡ true
      of_won h = left_or _ _ (left_or _ _ (right_or (blocked_right n es) _ h))

      of_lost : lost_right n es ≡ true → right n es ≡ true
      of_lost h = left_or _ _ (right_or (blocked_right n es || won_right n es) _ h)

      of_draw : draw_right n es ≡ true → right n es ≡ true
      of_draw h = right_or (blocked_right n es || won_right n es || lost_right n es) _ h

      go : Judged next t p (judge es) → right n es ≡ true
      go (blocked v f) = of_blocked (and_both _ _ (eq-eqb n 0 (e ∙ v)) (empty_map t (next p) ∙ f))
      go (win q m v l f) = of_won (and_both _ _ (won_of (omega (arith, e, v, lost_is l)) (omega (arith, e, v, lost_is l)))
          (eq-eqb (suc (least_lost es)) n (least (least_lost_low es (t q) (among q m) l))))
        where
          least : least_lost es ≤ t q → suc (least_lost es) ≡ n
          least low =
              let (i, y) = least_lost_in es (omega (arith, lost_is l)) in
              let (r, k, g) = map_member t (next p) i in
              omega (arith, e, v, g, f r k (ap is_lost (sym g) ∙ y))
      go (loss q m v f) = of_lost (and_both _ _ (and_both _ _ (and_both _ _ even (lt-ltb 0 n (omega (arith, e, v)))) (member_all (λ x. is_won x) es won))
          (eq-eqb (suc (greatest es)) n (top (is_empty es) refl)))
        where
          even : is_lost n ≡ true
          even = lost_of (omega (arith, e, v, won_is (f q m).0)) (omega (arith, e, v, won_is (f q m).0, d))

          won : (x : ℕ) → Memᴰ x es → is_won x ≡ true
          won x i = let (r, k, g) = map_member t (next p) i in ap is_won g ∙ (f r k).0

          top : (b : Bool) → is_empty es ≡ b → suc (greatest es) ≡ n
          top true z = absurd (empty_none es z (among q m))
          top false z = let (r, k, g) = map_member t (next p) (greatest_in es z) in omega (arith, e, v, g, (f r k).1, greatest_high es (t q) (among q m))
      go (draw q m v w f) = of_draw (and_both _ _ (and_both _ _ (eq-eqb n draw_entry (e ∙ v)) (ap not (none_any (λ x. is_lost x) es none)))
          (member_any (λ x. not (is_won x)) es (among q m) (ap not w)))
        where
          none : (x : ℕ) → Memᴰ x es → is_lost x ≡ false
          none x i = let (r, k, g) = map_member t (next p) i in ap is_lost g ∙ f r k
