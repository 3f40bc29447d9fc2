-- A set's members as a rising list: the way from a list to its set and back, how many there are, and the least one apart from the rest. Assumes
-- nothing.
use mathlib.Core.Path.{◌≡◌, refl, sym, ap, subst, ◌∙◌}
use mathlib.Core.Bool.{Bool, true, false}
use mathlib.Core.List.Memᴰ
use mathlib.Core.List.{List, [], ◌∷◌, Memᴰ}
use mathlib.Core.Logic.{◌⊎◌, inl, inr, ⊎_elim}
use Prim.Native.Nat.{ℕ, zero, suc, ◌+◌, ◌/◌, ◌%◌, ◌^◌, ◌≤◌, ◌<◌}
use native.Mathlib.Nat.{pow-suc, not-suc-le-zero, le_of_suc-le-suc, lt_of_not-le, eq-or-lt_of_le}
use native.Mathlib.Omega.{arith}
use lib.Dec.{eqb}
use lib.Pow.{pow_pos, pow_mono}
use lib.Count.{count_trailing_zeros, under}
use lib.ListN.{length, get_or}
use borrow.Author.Tests.{eqb-true, eqb-false, eq-eqb, ne_eqb}
use Rattle.lists.specs.Lists.{range, keep, or_else, Rising}
use Rattle.lists.proofs.Keep.{keep_yes, keep_no}
use Rattle.lists.proofs.Members.{keep_member, member_keep, range_member, member_range}
use Rattle.lists.proofs.Rises.{rising_range, rising_keep, rising_same, member_above}
use Rattle.sets.specs.Sets.{bit, has, with, without, members, elements, lowest, with_all, set_from}
use Rattle.sets.proofs.Laws.{bit_zero, bit_suc, bit_cases, bit_le, bit_empty, bit_with_same, bit_with_other, with_lt, with_absent, bit_without_same, bit_without_other, without_member, same_set}

pub elements_are : (n s : ℕ) → elements n s ≡ keep (λ p. has s p) (range 0 n)
unfolding elements
elements_are n s = refl

-- a member of a set of the points below n is one of them
pub bit_low : (n s p : ℕ) → s < 2 ^ n → bit s p ≡ 1 → p < n
bit_low n s p h e = lt_of_not-le (λ (g : n ≤ p). absurd (omega (arith, h, bit_le s p e, pow_mono {i = n} {j = p} g)))

-- who is an element
pub elements_is : (n s p : ℕ) → Memᴰ p (elements n s) → (p < n) × (bit s p ≡ 1)
unfolding elements
elements_is n s p m =
    let k = keep_member (λ p. has s p) (range 0 n) m in
    (omega (arith, (range_member n 0 k.0).1), eqb-true (bit s p) 1 k.1)

pub is_element : (n s p : ℕ) → p < n → bit s p ≡ 1 → Memᴰ p (elements n s)
unfolding elements
is_element n s p h e = member_keep (λ p. has s p) (range 0 n) (member_range n 0 p (omega arith) (omega arith)) (eq-eqb (bit s p) 1 e)

pub elements_rising : (n s : ℕ) → Rising (elements n s)
unfolding elements
elements_rising n s = rising_keep (λ p. has s p) (range 0 n) (rising_range n 0)

-- there are as many elements as members
length_from : (s n a : ℕ) → length (keep (λ p. has s p) (range a n)) + members s a ≡ members s (a + n)
unfolding members
length_from s zero a = let z : a + 0 ≡ a = omega arith in rw z (omega arith)
length_from s (suc n) a =
    let z : a + suc n ≡ suc a + n = omega arith in
    rw z (go (bit_cases s a) (length_from s n (suc a)))
  where
    go : (bit s a ≡ 0) ⊎ (bit s a ≡ 1) → length (keep (λ p. has s p) (range (suc a) n)) + members s (suc a) ≡ members s (suc a + n)
        → length (keep (λ p. has s p) (range a (suc n))) + members s a ≡ members s (suc a + n)
    go (inl h) r = rw (ne_eqb (bit s a) 1 (λ q. omega arith), keep) (omega (arith, r))
    go (inr h) r = rw (eq-eqb (bit s a) 1 h, keep) (omega (arith, r))

pub length_elements : (n s : ℕ) → length (elements n s) ≡ members s n
unfolding elements members
length_elements n s = let z : 0 + n ≡ n = omega arith in let e = rw z at (length_from s n 0) in omega (arith, e)

-- a set with a list's members has those that it had and the list's
pub with_none : (s : ℕ) → with_all s [] ≡ s
unfolding with_all
with_none s = refl

pub with_more : (s p : ℕ) (l : List ℕ) → with_all s (p ∷ l) ≡ with_all (with s p) l
unfolding with_all
with_more s p l = refl

pub from_is : (l : List ℕ) → set_from l ≡ with_all 0 l
unfolding set_from
from_is l = refl

pub from_none : set_from [] ≡ 0
unfolding set_from with_all
from_none = refl

pub from_three : (a b c : ℕ) → set_from (a ∷ b ∷ c ∷ []) ≡ with (with (with 0 a) b) c
unfolding set_from with_all
from_three a b c = refl

pub from_one : (p : ℕ) → set_from (p ∷ []) ≡ 2 ^ p
unfolding set_from with_all
from_one p = with_absent 0 p (bit_empty p) ∙ omega arith

-- one of those that pass a test
pub with_kept : (f : ℕ → Bool) (s p : ℕ) (l : List ℕ)
    → with_all s (keep f (p ∷ l)) ≡ with_all (elim (f p) [ true ↦ with s p | false ↦ s ]) (keep f l)
with_kept f s p l = go (f p) refl
  where
    go : (b : Bool) → f p ≡ b → with_all s (keep f (p ∷ l)) ≡ with_all (elim (f p) [ true ↦ with s p | false ↦ s ]) (keep f l)
    go true e = ap (with_all s) (keep_yes f p l e) ∙ with_more s p (keep f l) ∙ rw e
    go false e = ap (with_all s) (keep_no f p l e) ∙ rw e

had : (s p q : ℕ) → bit s q ≡ 1 → bit (with s p) q ≡ 1
had s p q h = go (eqb q p) refl
  where
    go : (b : Bool) → eqb q p ≡ b → bit (with s p) q ≡ 1
    go true e = rw (eqb-true q p e) (bit_with_same s p)
    go false e = bit_with_other s p q (eqb-false q p e) ∙ h

all_had : (l : List ℕ) (s q : ℕ) → bit s q ≡ 1 → bit (with_all s l) q ≡ 1
unfolding with_all
all_had [] s q h = h
all_had (p ∷ l) s q h = all_had l (with s p) q (had s p q h)

all_new : (l : List ℕ) (s q : ℕ) → Memᴰ q l → bit (with_all s l) q ≡ 1
unfolding with_all
all_new [] s q m = absurd (Memᴰ.not-nil m)
all_new (p ∷ l) s q m = go (Memᴰ.cases_cons m) (all_new l (with s p) q)
  where
    go : (q ≡ p) ⊎ Memᴰ q l → (Memᴰ q l → bit (with_all (with s p) l) q ≡ 1) → bit (with_all (with s p) l) q ≡ 1
    go (inl e) r = all_had l (with s p) q (rw e (bit_with_same s p))
    go (inr k) r = r k

all_cases : (l : List ℕ) (s q : ℕ) → bit (with_all s l) q ≡ 1 → (bit s q ≡ 1) ⊎ Memᴰ q l
unfolding with_all
all_cases [] s q h = inl h
all_cases (p ∷ l) s q h = go (eqb q p) refl (all_cases l (with s p) q h)
  where
    go : (b : Bool) → eqb q p ≡ b → (bit (with s p) q ≡ 1) ⊎ Memᴰ q l → (bit s q ≡ 1) ⊎ Memᴰ q (p ∷ l)
    go true e c = inr (Memᴰ.head (eqb-true q p e))
    go false e (inl k) = inl (sym (bit_with_other s p q (eqb-false q p e)) ∙ k)
    go false e (inr k) = inr (Memᴰ.tail k)

all_lt : (n : ℕ) (l : List ℕ) (s : ℕ) → s < 2 ^ n → ((p : ℕ) → Memᴰ p l → p < n) → with_all s l < 2 ^ n
unfolding with_all
all_lt n [] s h low = h
all_lt n (p ∷ l) s h low = all_lt n l (with s p) (with_lt n s p h (low p (Memᴰ.head refl))) (λ q m. low q (Memᴰ.tail m))

-- the set of a list has the list's members
pub from_lt : (n : ℕ) (l : List ℕ) → ((p : ℕ) → Memᴰ p l → p < n) → set_from l < 2 ^ n
unfolding set_from
from_lt n l low = all_lt n l 0 (pow_pos n) low

pub bit_from : (l : List ℕ) (p : ℕ) → Memᴰ p l → bit (set_from l) p ≡ 1
unfolding set_from
bit_from l p m = all_new l 0 p m

pub from_bit : (l : List ℕ) (p : ℕ) → bit (set_from l) p ≡ 1 → Memᴰ p l
unfolding set_from
from_bit l p e = ⊎_elim (λ k. absurd (omega (arith, k, bit_empty p))) (λ k. k) (all_cases l 0 p e)

-- a list whose set is empty has no members, so the set of a first choice or a second is found from the two sets
pub from_first : (l r : List ℕ) → (set_from l ≡ 0 → ⊥) → set_from (or_else l r) ≡ set_from l
unfolding set_from with_all
from_first [] r n = absurd (n refl)
from_first (x ∷ l) r n = refl

pub from_second : (l r : List ℕ) → set_from l ≡ 0 → set_from (or_else l r) ≡ set_from r
from_second [] r e = refl
from_second (x ∷ l) r e = absurd (omega (arith, bit_empty x, sym (ap (λ (s : ℕ). bit s x) e) ∙ bit_from (x ∷ l) x (Memᴰ.head refl)))

-- a rising list comes back from its set
pub elements_from : (n : ℕ) (l : List ℕ) → Rising l → ((p : ℕ) → Memᴰ p l → p < n) → elements n (set_from l) ≡ l
elements_from n l r h =
    rising_same (elements n (set_from l)) l (elements_rising n (set_from l)) r
    (λ p m. from_bit l p (elements_is n (set_from l) p m).1) (λ p m. is_element n (set_from l) p (h p m) (bit_from l p m))

-- and a set from its elements
pub from_elements : (n s : ℕ) → s < 2 ^ n → set_from (elements n s) ≡ s
from_elements n s h =
    same_set n (set_from (elements n s)) s (from_lt n (elements n s) (λ p m. (elements_is n s p m).0)) h
    (λ p l. ⊎_elim (λ z. no p z) (λ o. bit_from (elements n s) p (is_element n s p l o) ∙ sym o) (bit_cases s p))
  where
    no : (p : ℕ) → bit s p ≡ 0 → bit (set_from (elements n s)) p ≡ bit s p
    no p z = ⊎_elim (λ y. y ∙ sym z) (λ y. absurd (omega (arith, (elements_is n s p (from_bit (elements n s) p y)).1))) (bit_cases (set_from (elements n s)) p)

-- a set of the points below n has the same elements below any higher bound
pub elements_more : (n k s : ℕ) → s < 2 ^ n → n ≤ k → elements k s ≡ elements n s
elements_more n k s h l =
    rising_same (elements k s) (elements n s) (elements_rising k s) (elements_rising n s)
    (λ p m. let e = elements_is k s p m in is_element n s p (bit_low n s p h e.1) e.1)
    (λ p m. let e = elements_is n s p m in is_element k s p (omega (arith, e.0)) e.1)

-- the zeros below the lowest digit that is 1
trailing_below : (k s p : ℕ) → p < count_trailing_zeros k s → bit s p ≡ 0
unfolding count_trailing_zeros
trailing_below zero s p h = absurd (not-suc-le-zero h)
trailing_below (suc k) s p h = go (s % 2) refl p h (λ q l. trailing_below k (s / 2) q l)
  where
    go : (d : ℕ) → s % 2 ≡ d → (p : ℕ) → p < under (s % 2) (count_trailing_zeros k (s / 2))
        → ((q : ℕ) → q < count_trailing_zeros k (s / 2) → bit (s / 2) q ≡ 0) → bit s p ≡ 0
    go zero e zero h r = bit_zero s ∙ e
    go zero e (suc p) h r = bit_suc s p ∙ r p (le_of_suc-le-suc (rw (e, under) at h))
    go (suc d) e p h r = absurd (not-suc-le-zero (rw (e, under) at h))

trailing_bit : (k s : ℕ) → s < 2 ^ k → (s ≡ 0 → ⊥) → (count_trailing_zeros k s < k) × (bit s (count_trailing_zeros k s) ≡ 1)
unfolding count_trailing_zeros
trailing_bit zero s h n = absurd (n (omega arith))
trailing_bit (suc k) s h n = go (s % 2) refl (λ a b. trailing_bit k (s / 2) a b)
  where
    go : (d : ℕ) → s % 2 ≡ d → (s / 2 < 2 ^ k → (s / 2 ≡ 0 → ⊥) → (count_trailing_zeros k (s / 2) < k) × (bit (s / 2) (count_trailing_zeros k (s / 2)) ≡ 1))
        → (under (s % 2) (count_trailing_zeros k (s / 2)) < suc k) × (bit s (under (s % 2) (count_trailing_zeros k (s / 2))) ≡ 1)
    go zero e rest =
        let r = rest (omega (arith, pow-suc 2 k)) (λ z. n (omega arith)) in
        rw (e, under) (omega (arith, r.0), bit_suc s (count_trailing_zeros k (s / 2)) ∙ r.1)
    go (suc d) e rest = let one : s % 2 ≡ 1 = omega arith in rw (one, under) (omega arith, bit_zero s ∙ one)

-- the least member, and the rest
module _ (s : ℕ) (fits : s < 2 ^ 32) (some : s ≡ 0 → ⊥) where
  abbrev first : ℕ
  first = count_trailing_zeros 32 s

  trailing_elements : elements 32 s ≡ first ∷ elements 32 (without s first)
  trailing_elements =
      rising_same (elements 32 s) (first ∷ elements 32 (without s first)) (elements_rising 32 s)
      (member_above first (elements 32 (without s first)) above, elements_rising 32 (without s first)) there back
    where
      t : (first < 32) × (bit s first ≡ 1)
      t = trailing_bit 32 s fits some

      other : (p : ℕ) → bit (without s first) p ≡ 1 → (p ≡ first → ⊥)
      other p e q = let z = sym e ∙ ap (λ (x : ℕ). bit (without s first) x) q ∙ bit_without_same s first in omega arith

      above : (p : ℕ) → Memᴰ p (elements 32 (without s first)) → first < p
      above p m =
          let e = (elements_is 32 (without s first) p m).1 in
          let ne = other p e in
          let b : bit s p ≡ 1 = sym (bit_without_other s first p ne) ∙ e in
          lt_of_not-le (λ (g : p ≤ first). ⊎_elim (λ (q : p ≡ first). ne q)
          (λ (l : p < first). absurd (omega (arith, b, trailing_below 32 s p l))) (eq-or-lt_of_le g))

      there : (p : ℕ) → Memᴰ p (elements 32 s) → Memᴰ p (first ∷ elements 32 (without s first))
      there p m = go (eqb p first) refl
        where
          go : (b : Bool) → eqb p first ≡ b → Memᴰ p (first ∷ elements 32 (without s first))
          go true e = Memᴰ.head (eqb-true p first e)
          go false e =
              let k = elements_is 32 s p m in
              Memᴰ.tail (is_element 32 (without s first) p k.0 (bit_without_other s first p (eqb-false p first e) ∙ k.1))

      back : (p : ℕ) → Memᴰ p (first ∷ elements 32 (without s first)) → Memᴰ p (elements 32 s)
      back p m =
          ⊎_elim (λ q. subst (λ (x : ℕ). Memᴰ x (elements 32 s)) (sym q) (is_element 32 s first t.0 t.1))
          (λ k. let e = elements_is 32 (without s first) p k in
          is_element 32 s p e.0 (sym (bit_without_other s first p (other p e.1)) ∙ e.1)) (Memᴰ.cases_cons m)

  pub lowest_is : lowest s ≡ count_trailing_zeros 32 s
  unfolding lowest
  lowest_is = ap (λ (l : List ℕ). get_or l 0 0) trailing_elements

  pub lowest_member : bit s (lowest s) ≡ 1
  lowest_member = rw lowest_is (trailing_bit 32 s fits some).1

  pub lowest_low : lowest s < 32
  lowest_low = rw lowest_is (trailing_bit 32 s fits some).0

  pub elements_lowest : elements 32 s ≡ lowest s ∷ elements 32 (without s (lowest s))
  elements_lowest = trailing_elements ∙ ap (λ (x : ℕ). x ∷ elements 32 (without s x)) (sym lowest_is)

  -- there is less to go
  pub without_less : without s (lowest s) < s
  without_less = omega (arith, without_member s (lowest s) lowest_member, bit_le s (lowest s) lowest_member, pow_pos (lowest s))

-- no members
pub elements_none : (n : ℕ) → elements n 0 ≡ []
elements_none n =
    rising_same (elements n 0) [] (elements_rising n 0) tt (λ p m. absurd (omega (arith, (elements_is n 0 p m).1, bit_empty p)))
    (λ p m. absurd (Memᴰ.not-nil m))
