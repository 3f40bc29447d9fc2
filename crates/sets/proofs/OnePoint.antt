-- A set apart at one point: the members without it, and it alone. Assumes nothing.
use mathlib.Core.Path.{◌≡◌, refl, sym, ap, subst, ◌∙◌}
use mathlib.Core.Bool.{Bool, true, false, not}
use mathlib.Core.List.Memᴰ
use mathlib.Core.List.{[], ◌∷◌, Memᴰ}
use mathlib.Core.Logic.{◌⊎◌, inl, inr}
use Prim.Native.Nat.{ℕ, ◌+◌, ◌-◌, ◌^◌, ◌<◌}
use native.Mathlib.Omega.{arith}
use mir.Val.{bool_byte}
use lib.Dec.{eqb}
use lib.ListN.{length}
use borrow.Author.Tests.{eqb-true, eqb-false, eq-eqb, ne_eqb}
use Rattle.lists.specs.Lists.{keep}
use Rattle.lists.proofs.Members.{keep_member, member_keep}
use Rattle.lists.proofs.Rises.{rising_same, rising_keep}
use Rattle.lists.proofs.Tests.{clash}
use Rattle.sets.specs.Sets.{bit, has, without, elements}
use Rattle.sets.proofs.Laws.{bit_lt, bit_cases, bit_empty, bit_add_same, bit_add_other, bit_le, bit_without_same, bit_without_other, without_absent, without_member}
use Rattle.sets.proofs.Elements.{elements_is, is_element, elements_rising, elements_none, elements_from, from_one}

module _ (s p : ℕ) where
  -- the point alone is no set, or a set of one
  only_none : bit s p ≡ 0 → s - without s p ≡ 0
  only_none h = omega (arith, without_absent s p h)

  only_one : bit s p ≡ 1 → s - without s p ≡ 0 + 2 ^ p
  only_one h = omega (arith, without_member s p h, bit_le s p h)

  only_bit : (q : ℕ) → bit (s - without s p) q ≡ 1 → (q ≡ p) × (bit s p ≡ 1)
  only_bit q b = go (bit_cases s p)
    where
      same : (t : Bool) → eqb q p ≡ t → bit s p ≡ 1 → q ≡ p
      same true e h = eqb-true q p e
      same false e h =
          absurd (omega (arith, b, ap (λ (x : ℕ). bit x q) (only_one h), bit_add_other 0 p q (bit_empty p) (eqb-false q p e), bit_empty q))

      go : (bit s p ≡ 0) ⊎ (bit s p ≡ 1) → (q ≡ p) × (bit s p ≡ 1)
      go (inl h) = absurd (omega (arith, b, ap (λ (x : ℕ). bit x q) (only_none h), bit_empty q))
      go (inr h) = (same (eqb q p) refl h, h)

  bit_only : bit s p ≡ 1 → bit (s - without s p) p ≡ 1
  bit_only h = ap (λ (x : ℕ). bit x p) (only_one h) ∙ bit_add_same 0 p (bit_empty p)

  -- whether it is a member, as a number
  pub has_digit : (t : Bool) → t ≡ has s p → bool_byte t ≡ bit s p
  has_digit true e = sym (eqb-true (bit s p) 1 (sym e))
  has_digit false e = omega (arith, bit_lt s p, eqb-false (bit s p) 1 (sym e))

module _ (n s p : ℕ) where
  pub elements_without : elements n (without s p) ≡ keep (λ q. not (eqb q p)) (elements n s)
  elements_without =
      rising_same _ _ (elements_rising n (without s p)) (rising_keep (λ q. not (eqb q p)) (elements n s) (elements_rising n s))
      (λ q m. let e = elements_is n (without s p) q m in there q e.0 e.1)
      (λ q m. let k = keep_member (λ q. not (eqb q p)) (elements n s) m in
      let e = elements_is n s q k.0 in
      is_element n (without s p) q e.0 (bit_without_other s p q (other q k.1) ∙ e.1))
    where
      other : (q : ℕ) → not (eqb q p) ≡ true → q ≡ p → ⊥
      other q e d = clash e (ap not (eq-eqb q p d))

      there : (q : ℕ) → q < n → bit (without s p) q ≡ 1 → Memᴰ q (keep (λ q. not (eqb q p)) (elements n s))
      there q h b =
          let d : q ≡ p → ⊥ = λ e. omega (arith, b, ap (bit (without s p)) e, bit_without_same s p) in
          member_keep (λ q. not (eqb q p)) (elements n s) (is_element n s q h (sym (bit_without_other s p q d) ∙ b)) (ap not (ne_eqb q p d))

  pub elements_only : elements n (s - without s p) ≡ keep (λ q. eqb q p) (elements n s)
  elements_only =
      rising_same _ _ (elements_rising n (s - without s p)) (rising_keep (λ q. eqb q p) (elements n s) (elements_rising n s))
      (λ q m. let e = elements_is n (s - without s p) q m in
      let d = only_bit s p q e.1 in
      member_keep (λ q. eqb q p) (elements n s) (is_element n s q e.0 (ap (bit s) d.0 ∙ d.1)) (eq-eqb q p d.0))
      (λ q m. let k = keep_member (λ q. eqb q p) (elements n s) m in
      let e = elements_is n s q k.0 in
      let d = eqb-true q p k.1 in
      is_element n (s - without s p) q e.0 (ap (bit (s - without s p)) d ∙ bit_only s p (sym (ap (bit s) d) ∙ e.1)))

  -- one member or none
  pub length_only : p < n → length (elements n (s - without s p)) ≡ bit s p
  length_only low = go (bit_cases s p)
    where
      go : (bit s p ≡ 0) ⊎ (bit s p ≡ 1) → length (elements n (s - without s p)) ≡ bit s p
      go (inl h) = ap (λ (x : ℕ). length (elements n x)) (only_none s p h) ∙ ap length (elements_none n) ∙ sym h
      go (inr h) =
          let e : s - without s p ≡ 2 ^ p = omega (arith, only_one s p h) in
          ap (λ (x : ℕ). length (elements n x)) (e ∙ sym (from_one p))
          ∙ ap length (elements_from n (p ∷ []) (tt, tt) (λ q m. subst (λ (x : ℕ). x < n) (sym (Memᴰ.eq_of_singleton m)) low)) ∙ sym h
