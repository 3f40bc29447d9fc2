-- What is to be asked of the successors to tell that an entry is right: whether its level hits, and then for a win that none is lost in fewer plies,
-- for a loss above 0 that one is won in one less; for a draw, that they do not decide. Assumes nothing.
use mathlib.Core.Path.{◌≡◌, refl, sym, ap, ◌∙◌}
use mathlib.Core.Bool.{Bool, true, false, not, ◌&&◌}
use mathlib.Core.List.{List, map, Memᴰ}
use Prim.Native.Nat.{ℕ, zero, suc, ◌<◌, ◌%◌}
use native.Mathlib.Omega.{arith}
use lib.Dec.{eqb, ltb}
use borrow.Author.Tests.{eqb-true, eqb-false, eq-eqb, ltb-true, ltb-false, lt-ltb, not-true}
use Rattle.lists.specs.Lists.{any, is_empty}
use Rattle.lists.proofs.Tests.{same_test, clash, untrue, and_left, and_right, and_both, any_member, member_any, none_any, any_none}
use Rattle.lists.proofs.Tests.{all_member, member_all, empty_none}
use Rattle.game.specs.Game.{draw_entry, void_entry}
use Rattle.game.specs.Judgement.{is_lost, judge, hit, decided}
use Rattle.game.proofs.Entries.{lost_is, lost_of, won_is, won_of}
use Rattle.game.proofs.Judging.{Judged, blocked, win, loss, draw, judged, undecided_draw, draw_undecided}
use Rattle.game.proofs.Hits.{hit_odd, hit_even, hit_zero}
use Rattle.certificate.specs.Right.{right}
use Rattle.certificate.proofs.Judged.{right_judged, judged_right}

module _ {Pos : Type 0} (next : Pos → List Pos) (t : Pos → ℕ) (p : Pos) where
  abbrev es : List ℕ
  es = map t (next p)

  pub right_void : false ≡ right void_entry es
  right_void = untrue (right void_entry es) (λ h. (right_judged next t p void_entry h).1 refl)

  pub right_draw : right draw_entry es ≡ not (decided next t p)
  right_draw = same_test (right draw_entry es) (not (decided next t p))
      (λ h. ap not (draw_undecided next t p (sym (right_judged next t p draw_entry h).0)))
      (λ h. judged_right next t p draw_entry (sym (undecided_draw next t p (not-true _ h))) (λ z. omega arith))

  right_zero : right 0 es ≡ hit next t 0 p
  right_zero = same_test (right 0 es) (hit next t 0 p) (λ h. hit_zero next t p ∙ none (right_judged next t p 0 h).0 (judged next t p))
      (λ h. judged_right next t p 0 (zero_judged (sym (hit_zero next t p) ∙ h) (judged next t p)) (λ z. omega arith))
    where
      none : 0 ≡ judge es → Judged next t p (judge es) → is_empty (next p) ≡ true
      none e (blocked v f) = f
      none e (win q m v l f) = absurd (omega arith)
      none e (loss q m v f) = absurd (omega arith)
      none e (draw q m v w f) = absurd (omega arith)

      zero_judged : is_empty (next p) ≡ true → Judged next t p (judge es) → 0 ≡ judge es
      zero_judged e (blocked v f) = sym v
      zero_judged e (win q m v l f) = absurd (empty_none (next p) e m)
      zero_judged e (loss q m v f) = absurd (empty_none (next p) e m)
      zero_judged e (draw q m v w f) = absurd (empty_none (next p) e m)

  module _ (n : ℕ) (low : n < void_entry) where
    -- a successor is lost in fewer plies than n - 1
    abbrev quicker : Pos → Bool
    quicker q = is_lost (t q) && ltb (suc (t q)) n

    pub right_odd : n % 2 ≡ 1 → right n es ≡ (hit next t n p && not (any (λ q. is_lost (t q) && ltb (suc (t q)) n) (next p)))
    right_odd odd = same_test (right n es) _ (λ h. there (right_judged next t p n h).0 (judged next t p)) back
      where
        there : n ≡ judge es → Judged next t p (judge es) → (hit next t n p && not (any quicker (next p))) ≡ true
        there e (blocked v f) = absurd (omega (arith, odd))
        there e (win q m v l f) = and_both _ _ (hit_odd next t n p odd ∙ member_any _ (next p) m (eq-eqb (suc (t q)) n (sym (e ∙ v))))
            (ap not (none_any quicker (next p) (λ r k. sym (untrue (quicker r)
            (λ h. omega (arith, e, v, f r k (and_left (is_lost (t r)) _ h), ltb-true (suc (t r)) n (and_right (is_lost (t r)) _ h)))))))
        there e (loss q m v f) = absurd (omega (arith, odd, e, v, won_is (f q m).0))
        there e (draw q m v w f) = absurd (omega (arith, low, e, v))

        back : (hit next t n p && not (any quicker (next p))) ≡ true → right n es ≡ true
        back h =
            let (q, m, e) = any_member _ (next p) (sym (hit_odd next t n p odd) ∙ and_left _ _ h) in
            judged_right next t p n (go q m (eqb-true (suc (t q)) n e) (judged next t p)) (λ z. omega (arith, low))
          where
            fewest : (r : Pos) → Memᴰ r (next p) → is_lost (t r) ≡ true → suc (t r) < n → ⊥
            fewest r k l z =
                clash (and_both _ _ l (lt-ltb (suc (t r)) n z)) (any_none quicker (next p) (not-true _ (and_right (hit next t n p) _ h)) r k)

            go : (q : Pos) → Memᴰ q (next p) → suc (t q) ≡ n → Judged next t p (judge es) → n ≡ judge es
            go q m e (blocked v f) = absurd (empty_none (next p) f m)
            go q m e (win r k v l f) =
                omega (arith, e, v, f q m (lost_of (omega (arith, e, odd)) (omega (arith, e, low))), fewest r k l)
            go q m e (loss r k v f) = absurd (omega (arith, e, odd, won_is (f q m).0))
            go q m e (draw r k v w f) = clash (lost_of {e = t q} (omega (arith, e, odd)) (omega (arith, e, low))) (f q m)

    pub right_even : n % 2 ≡ 0 → 0 < n → right n es ≡ (hit next t n p && any (λ q. eqb (suc (t q)) n) (next p))
    right_even even some = same_test (right n es) _ (λ h. there (right_judged next t p n h).0 (judged next t p)) back
      where
        there : n ≡ judge es → Judged next t p (judge es) → (hit next t n p && any (λ q. eqb (suc (t q)) n) (next p)) ≡ true
        there e (blocked v f) = absurd (omega (arith, some, e, v))
        there e (win q m v l f) = absurd (omega (arith, even, e, v, lost_is l))
        there e (loss q m v f) = and_both _ _
            (hit_even next t n p even ∙ member_all _ (next p) (λ r k. and_both _ _ (eq-eqb (t r % 2) 1 (won_is (f r k).0).0)
            (lt-ltb (t r) n (omega (arith, e, v, (f r k).1)))))
            (member_any _ (next p) m (eq-eqb (suc (t q)) n (sym (e ∙ v))))
        there e (draw q m v w f) = absurd (omega (arith, low, e, v))

        back : (hit next t n p && any (λ q. eqb (suc (t q)) n) (next p)) ≡ true → right n es ≡ true
        back h =
            let (q, m, e) = any_member _ (next p) (and_right (hit next t n p) _ h) in
            judged_right next t p n (go q m (eqb-true (suc (t q)) n e) (judged next t p)) (λ z. omega (arith, low))
          where
            every : (r : Pos) → Memᴰ r (next p) → (t r % 2 ≡ 1) × (t r < n)
            every r k =
                let a = all_member _ (next p) (sym (hit_even next t n p even) ∙ and_left _ _ h) r k in
                (eqb-true (t r % 2) 1 (and_left _ _ a), ltb-true (t r) n (and_right (eqb (t r % 2) 1) _ a))

            go : (q : Pos) → Memᴰ q (next p) → suc (t q) ≡ n → Judged next t p (judge es) → n ≡ judge es
            go q m e (blocked v f) = absurd (empty_none (next p) f m)
            go q m e (win r k v l f) = absurd (omega (arith, lost_is l, (every r k).0))
            go q m e (loss r k v f) = omega (arith, e, v, (f q m).1, (every r k).1)
            go q m e (draw r k v w f) = clash (won_of {e = t r} (every r k).0 (omega (arith, (every r k).1, low))) w

  -- no win is quicker than one in 1
  right_one : right 1 es ≡ hit next t 1 p
  right_one = same_test (right 1 es) (hit next t 1 p) (λ h. and_left _ _ (sym asks ∙ h)) (λ h. asks ∙ and_both _ _ h (ap not none))
    where
      asks : right 1 es ≡ (hit next t 1 p && not (any (λ q. is_lost (t q) && ltb (suc (t q)) 1) (next p)))
      asks = right_odd 1 (omega arith) refl

      none : any (λ q. is_lost (t q) && ltb (suc (t q)) 1) (next p) ≡ false
      none = none_any _ (next p) (λ q m. sym (untrue _ (λ h. omega (arith, ltb-true (suc (t q)) 1 (and_right (is_lost (t q)) _ h)))))

  -- so the levels below 2 need only hit
  pub right_few : (n : ℕ) → n < 2 → right n es ≡ hit next t n p
  right_few zero h = right_zero
  right_few (suc zero) h = right_one
  right_few (suc (suc n)) h = absurd (omega arith)

  -- and the level of a right depth always hits
  pub right_hits : (n : ℕ) → n < void_entry → right n es ≡ true → hit next t n p ≡ true
  right_hits n low h = go (ltb n 2) refl (eqb (n % 2) 1) refl
    where
      go : (a : Bool) → ltb n 2 ≡ a → (b : Bool) → eqb (n % 2) 1 ≡ b → hit next t n p ≡ true
      go true e b f = sym (right_few n (ltb-true n 2 e)) ∙ h
      go false e true f = and_left _ _ (sym (right_odd n low (eqb-true (n % 2) 1 f)) ∙ h)
      go false e false f =
          and_left _ _ (sym (right_even n low (omega (arith, eqb-false (n % 2) 1 f)) (omega (arith, ltb-false n 2 e))) ∙ h)
