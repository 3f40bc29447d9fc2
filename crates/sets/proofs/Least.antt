-- The least member of a set apart from the rest: how every loop over a set's members goes on. Assumes nothing.
use mathlib.Core.Path.{◌≡◌, refl, sym, ap, ap₂, subst, ◌∙◌}
use mathlib.Core.Bool.{Bool, true, false}
use mathlib.Core.List.Memᴰ
use mathlib.Core.List.{List, ◌∷◌, Memᴰ}
use mathlib.Core.Logic.{⊎_elim}
use Prim.Native.Nat.{ℕ, zero, suc, ◌-◌, ◌/◌, ◌%◌, ◌^◌, ◌≤◌, ◌<◌}
use native.Mathlib.Nat.{pow-suc}
use native.Mathlib.Omega.{arith}
use lib.Bits.{bit_and, and_step, and_self}
use lib.Dec.{eqb, ltb}
use lib.Pow.{pow_pos}
use borrow.Author.Tests.{eqb-true, eqb-false, ltb-true, ltb-false}
use Rattle.lists.specs.Lists.{Rising}
use Rattle.lists.proofs.Rises.{above_member}
use Rattle.sets.specs.Sets.{bit, without, elements, lowest}
use Rattle.sets.specs.Inner.Taken.{Taken}
use Rattle.sets.proofs.Laws.{bit_zero, bit_suc, bit_le, bit_cases, bit_without_same, bit_without_other, without_member}
use Rattle.sets.proofs.Elements.{bit_low, is_element, elements_rising, elements_lowest, lowest_member, lowest_low, without_less}

-- no member is below the least
pub below_lowest : (s q : ℕ) → s < 2 ^ 32 → (s ≡ 0 → ⊥) → q < lowest s → bit s q ≡ 0
below_lowest s q fits some h = ⊎_elim (λ z. z) (λ o. absurd (no o)) (bit_cases s q)
  where
    apart : elements 32 s ≡ lowest s ∷ elements 32 (without s (lowest s))
    apart = elements_lowest s fits some

    rising : Rising (lowest s ∷ elements 32 (without s (lowest s)))
    rising = subst (λ (l : List ℕ). Rising l) apart (elements_rising 32 s)

    no : bit s q ≡ 1 → ⊥
    no o =
        let m = is_element 32 s q (omega (arith, lowest_low s fits some)) o in
        ⊎_elim (λ e. omega arith) (λ k. omega (arith, above_member (lowest s) (elements 32 (without s (lowest s))) rising.0 q k))
        (Memᴰ.cases_cons (subst (λ (l : List ℕ). Memᴰ q l) apart m))

pub lowest_least : (s q : ℕ) → s < 2 ^ 32 → (s ≡ 0 → ⊥) → bit s q ≡ 1 → lowest s ≤ q
lowest_least s q fits some h = go (ltb q (lowest s)) refl
  where
    go : (b : Bool) → ltb q (lowest s) ≡ b → lowest s ≤ q
    go true e = absurd (omega (arith, below_lowest s q fits some (ltb-true q (lowest s) e), h))
    go false e = ltb-false q (lowest s) e

-- one less than a set turns the digits up to the least member: what both have is the rest
and_pred : (k s : ℕ) → bit s k ≡ 1 → ((q : ℕ) → q < k → bit s q ≡ 0) → bit_and s (s - 1) ≡ s - 2 ^ k
and_pred zero s m z =
    let o : s % 2 ≡ 1 = omega (arith, bit_zero s) in
    let h : (s - 1) / 2 ≡ s / 2 = omega arith in
    let d : (s - 1) % 2 ≡ 0 = omega arith in
    and_step s (s - 1) ∙ rw (h, d, o, and_self (s / 2)) (omega arith)
and_pred (suc k) s m z =
    let e : s % 2 ≡ 0 = omega (arith, bit_zero s, z 0 (omega arith)) in
    let n : 2 ^ suc k ≤ s = bit_le s (suc k) m in
    let h : (s - 1) / 2 ≡ s / 2 - 1 = omega (arith, pow-suc 2 k, pow_pos k) in
    let d : (s - 1) % 2 ≡ 1 = omega (arith, pow-suc 2 k, pow_pos k) in
    let r = and_pred k (s / 2) (sym (bit_suc s k) ∙ m) (λ q l. sym (bit_suc s q) ∙ z (suc q) (omega arith)) in
    and_step s (s - 1) ∙ rw (h, d, e, r, pow-suc 2 k) (omega arith)

pub lowest_apart : (s : ℕ) → s < 2 ^ 32 → (s ≡ 0 → ⊥) → bit_and s (s - 1) ≡ without s (lowest s)
lowest_apart s fits some =
    and_pred (lowest s) s (lowest_member s fits some) (λ q l. below_lowest s q fits some l)
    ∙ sym (without_member s (lowest s) (lowest_member s fits some))

-- who is left was there before
without_among : (s p q : ℕ) → bit (without s p) q ≡ 1 → bit s q ≡ 1
without_among s p q e = go (eqb q p) refl
  where
    go : (b : Bool) → eqb q p ≡ b → bit s q ≡ 1
    go true i = absurd (omega (arith, sym e ∙ ap (λ (x : ℕ). bit (without s p) x) (eqb-true q p i), bit_without_same s p))
    go false i = sym (bit_without_other s p q (eqb-false q p i)) ∙ e

pub taken : (s p rest : ℕ) → s < 2 ^ 32 → (s ≡ 0 → ⊥) → p ≡ lowest s → rest ≡ without s (lowest s) → Taken s p rest
taken s p rest fits some e f =
    let m : bit s p ≡ 1 = ap (λ (q : ℕ). bit s q) e ∙ lowest_member s fits some in
    record {
      low = bit_low 32 s p fits m;
      member = m;
      least = λ q b. omega (arith, e, lowest_least s q fits some b);
      apart = elements_lowest s fits some ∙ ap₂ (λ (x y : ℕ). x ∷ elements 32 y) (sym e) (sym f);
      less = subst (λ (x : ℕ). x < s) (sym f) (without_less s fits some);
      among = λ q b. without_among s (lowest s) q (sym (ap (λ (x : ℕ). bit x q) f) ∙ b);
    }
