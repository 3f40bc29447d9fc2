-- What a board's sets become where a value is stored at a point, and the three sets of a board together. Assumes nothing.
use mathlib.Core.Path.{◌≡◌, refl, sym, ap, subst, ◌∙◌}
use mathlib.Core.Bool.{Bool, true, false}
use mathlib.Core.List.{List, [], ◌∷◌}
use Prim.Native.Nat.{ℕ, zero, suc, ◌+◌, ◌^◌, ◌≤◌, ◌<◌}
use native.Mathlib.Nat.{pow-suc}
use native.Mathlib.Omega.{arith}
use lib.Dec.{eqb}
use lib.ListN.{length, get_or, set, length-set}
use lib.Seq.{get_or-set_same, get_or-set_other}
use borrow.Author.Tests.{eqb-true, eqb-false}
use Rattle.lists.specs.Lists.{range, keep}
use Rattle.lists.proofs.Members.{range_member}
use Rattle.lists.proofs.Tests.{keep_same}
use Rattle.sets.specs.Sets.{bit, has, with, without, elements}
use Rattle.sets.proofs.Elements.{elements_are}
use Rattle.sets.proofs.Laws.{same_set, bit_with_same, bit_with_other, bit_without_same, bit_without_other, with_lt, without_le}
use Rattle.board.specs.Board.{Values, digit, set_of}
use Rattle.board.proofs.Sides.{set_lt, bit_set}

digit_is : (b : Bool) → eqb (digit b) 1 ≡ b
digit_is true = refl
digit_is false = refl

-- a set has the points that hold v
pub has_set : (v : ℕ) (b : List ℕ) (p : ℕ) → p < length b → has (set_of v b) p ≡ eqb (get_or b p 0) v
has_set v b p h = ap (λ (d : ℕ). eqb d 1) (bit_set v b p h) ∙ digit_is (eqb (get_or b p 0) v)

pub elements_set : (v : ℕ) (b : List ℕ) → elements (length b) (set_of v b) ≡ keep (λ p. eqb (get_or b p 0) v) (range 0 (length b))
elements_set v b =
    elements_are (length b) (set_of v b)
    ∙ keep_same (λ p. has (set_of v b) p) (λ p. eqb (get_or b p 0) v) (range 0 (length b))
    (λ p m. has_set v b p (omega (arith, (range_member (length b) 0 m).1)))

-- a store of v puts the point into the set of v, any other takes it out
module _ (v : ℕ) (b : List ℕ) (p x : ℕ) (h : p < length b) where
  stored_bit : (q : ℕ) → q < length b → bit (set_of v (set b p x)) q ≡ digit (eqb (get_or (set b p x) q 0) v)
  stored_bit q l = bit_set v (set b p x) q (subst (λ (n : ℕ). q < n) (sym (length-set b p x)) l)

  stored_lt : set_of v (set b p x) < 2 ^ length b
  stored_lt = subst (λ (n : ℕ). set_of v (set b p x) < 2 ^ n) (length-set b p x) (set_lt v (set b p x))

  here : digit (eqb (get_or (set b p x) p 0) v) ≡ digit (eqb x v)
  here = ap (λ (y : ℕ). digit (eqb y v)) (get_or-set_same b p x 0 h)

  there : (q : ℕ) → q < length b → (q ≡ p → ⊥) → digit (eqb (get_or (set b p x) q 0) v) ≡ bit (set_of v b) q
  there q l ne = ap (λ (y : ℕ). digit (eqb y v)) (get_or-set_other b p q x 0 ne) ∙ sym (bit_set v b q l)

  pub set_with : eqb x v ≡ true → set_of v (set b p x) ≡ with (set_of v b) p
  set_with e =
      same_set (length b) (set_of v (set b p x)) (with (set_of v b) p) stored_lt (with_lt (length b) (set_of v b) p (set_lt v b) h) (λ q l. go q l (eqb q p) refl)
    where
      go : (q : ℕ) → q < length b → (c : Bool) → eqb q p ≡ c → bit (set_of v (set b p x)) q ≡ bit (with (set_of v b) p) q
      go q l true z =
          let i = eqb-true q p z in
          stored_bit q l ∙ ap (λ (k : ℕ). digit (eqb (get_or (set b p x) k 0) v)) i ∙ here ∙ ap digit e
          ∙ sym (ap (λ (k : ℕ). bit (with (set_of v b) p) k) i ∙ bit_with_same (set_of v b) p)
      go q l false z = let i = eqb-false q p z in stored_bit q l ∙ there q l i ∙ sym (bit_with_other (set_of v b) p q i)

  pub set_without : eqb x v ≡ false → set_of v (set b p x) ≡ without (set_of v b) p
  set_without e =
      same_set (length b) (set_of v (set b p x)) (without (set_of v b) p) stored_lt (omega (arith, set_lt v b, without_le (set_of v b) p))
      (λ q l. go q l (eqb q p) refl)
    where
      go : (q : ℕ) → q < length b → (c : Bool) → eqb q p ≡ c → bit (set_of v (set b p x)) q ≡ bit (without (set_of v b) p) q
      go q l true z =
          let i = eqb-true q p z in
          stored_bit q l ∙ ap (λ (k : ℕ). digit (eqb (get_or (set b p x) k 0) v)) i ∙ here ∙ ap digit e
          ∙ sym (ap (λ (k : ℕ). bit (without (set_of v b) p) k) i ∙ bit_without_same (set_of v b) p)
      go q l false z = let i = eqb-false q p z in stored_bit q l ∙ there q l i ∙ sym (bit_without_other (set_of v b) p q i)

-- each point is in one of a board's three sets
one_of : (x : ℕ) → x ≤ 2 → digit (eqb x 0) + digit (eqb x 1) + digit (eqb x 2) ≡ 1
one_of zero h = refl
one_of (suc zero) h = refl
one_of (suc (suc zero)) h = refl
one_of (suc (suc (suc x))) h = absurd (omega arith)

pub three_sets : (b : List ℕ) → Values b → set_of 0 b + set_of 1 b + set_of 2 b + 1 ≡ 2 ^ length b
unfolding set_of
three_sets [] v = refl
three_sets (x ∷ b) v = rw (pow-suc 2 (length b)) (omega (arith, three_sets b v.1, one_of x v.0))
