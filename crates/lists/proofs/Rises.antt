-- Lists that the definitions make rise, and a rising list has no member twice. Assumes nothing.
use mathlib.Core.Path.{◌≡◌, refl, sym, ap₂}
use mathlib.Core.Bool.{Bool, true, false}
use mathlib.Core.List.Memᴰ
use mathlib.Core.List.{List, [], ◌∷◌, ◌++◌, map, Memᴰ}
use mathlib.Core.Logic.{◌⊎◌, inl, inr}
use Prim.Native.Nat.{ℕ, zero, suc, ◌+◌, ◌<◌}
use native.Mathlib.Nat.{not-suc-le-zero, le_of_suc-le-suc}
use native.Mathlib.Omega.{arith}
use lib.ListN.{length, get_or}
use Rattle.lists.specs.Lists.{range, keep, each, or_else, Above, Rising}
use Rattle.lists.proofs.Members.{each_member}

pub above_member : (x : ℕ) (l : List ℕ) → Above x l → (y : ℕ) → Memᴰ y l → x < y
above_member x [] a y m = absurd (Memᴰ.not-nil m)
above_member x (z ∷ zs) a y m = go (Memᴰ.cases_cons m) (above_member x zs a.1 y)
  where
    go : (y ≡ z) ⊎ Memᴰ y zs → (Memᴰ y zs → x < y) → x < y
    go (inl p) r = omega (arith, a.0)
    go (inr k) r = r k

pub member_above : (x : ℕ) (l : List ℕ) → ((y : ℕ) → Memᴰ y l → x < y) → Above x l
member_above x [] h = tt
member_above x (y ∷ ys) h = (h y (Memᴰ.head refl), member_above x ys (λ z m. h z (Memᴰ.tail m)))

above_range : (n a x : ℕ) → x < a → Above x (range a n)
above_range zero a x h = tt
above_range (suc n) a x h = (h, above_range n (suc a) x (omega arith))

pub rising_range : (n a : ℕ) → Rising (range a n)
rising_range zero a = tt
rising_range (suc n) a = (above_range n (suc a) a (omega arith), rising_range n (suc a))

module _ (f : ℕ → Bool) where
  above_keep : (x : ℕ) (l : List ℕ) → Above x l → Above x (keep f l)
  above_keep x [] a = tt
  above_keep x (y ∷ ys) a = go (f y) refl (above_keep x ys a.1)
    where
      go : (b : Bool) → f y ≡ b → Above x (keep f ys) → Above x (keep f (y ∷ ys))
      go true e r = rw (e, keep) (a.0, r)
      go false e r = rw (e, keep) r

  pub rising_keep : (l : List ℕ) → Rising l → Rising (keep f l)
  rising_keep [] r = tt
  rising_keep (y ∷ ys) r = go (f y) refl (rising_keep ys r.1)
    where
      go : (b : Bool) → f y ≡ b → Rising (keep f ys) → Rising (keep f (y ∷ ys))
      go true e k = rw (e, keep) (above_keep y ys r.0, k)
      go false e k = rw (e, keep) k

pub rising_else : (l o : List ℕ) → Rising l → Rising o → Rising (or_else l o)
rising_else [] o r s = s
rising_else (x ∷ xs) o r s = r

-- a sum rises with its last part
pub rising_add : (a : ℕ) (l : List ℕ) → Rising l → Rising (map (λ x. a + x) l)
rising_add a [] r = tt
rising_add a (x ∷ xs) r = (up xs r.0, rising_add a xs r.1)
  where
    up : (l : List ℕ) → Above x l → Above (a + x) (map (λ x. a + x) l)
    up [] h = tt
    up (y ∷ ys) h = (omega (arith, h.0), up ys h.1)

rising_append : (a b : List ℕ) → Rising a → Rising b → ((x y : ℕ) → Memᴰ x a → Memᴰ y b → x < y) → Rising (a ++ b)
rising_append [] b r s h = s
rising_append (x ∷ xs) b r s h =
    (join xs r.0, rising_append xs b r.1 s (λ y z m k. h y z (Memᴰ.tail m) k))
  where
    join : (l : List ℕ) → Above x l → Above x (l ++ b)
    join [] k = member_above x b (λ y m. h x y (Memᴰ.head refl) m)
    join (y ∷ ys) k = (k.0, join ys k.1)

-- lists that rise, one after the other, each below the next
module _ (f : ℕ → List ℕ) where
  pub rising_each : (l : List ℕ) → Rising l → ((x : ℕ) → Memᴰ x l → Rising (f x))
      → ((x y : ℕ) → Memᴰ x l → Memᴰ y l → x < y → (a b : ℕ) → Memᴰ a (f x) → Memᴰ b (f y) → a < b) → Rising (each f l)
  rising_each [] r s h = tt
  rising_each (x ∷ xs) r s h =
      rising_append (f x) (each f xs) (s x (Memᴰ.head refl))
      (rising_each xs r.1 (λ y m. s y (Memᴰ.tail m)) (λ y z m k. h y z (Memᴰ.tail m) (Memᴰ.tail k)))
      (λ a b m k. let e = each_member f xs k in
      h x e.0 (Memᴰ.head refl) (Memᴰ.tail e.1) (above_member x xs r.0 e.0 e.1) a b m e.2)

-- rising lists with the same members are the same
pub rising_same : (a b : List ℕ) → Rising a → Rising b → ((x : ℕ) → Memᴰ x a → Memᴰ x b) → ((x : ℕ) → Memᴰ x b → Memᴰ x a) → a ≡ b
rising_same [] [] r s h k = refl
rising_same [] (y ∷ ys) r s h k = absurd (Memᴰ.not-nil (k y (Memᴰ.head refl)))
rising_same (x ∷ xs) [] r s h k = absurd (Memᴰ.not-nil (h x (Memᴰ.head refl)))
rising_same (x ∷ xs) (y ∷ ys) r s h k =
    let e = first (Memᴰ.cases_cons (h x (Memᴰ.head refl))) (Memᴰ.cases_cons (k y (Memᴰ.head refl))) in
    ap₂ ◌∷◌ e
    (rising_same xs ys r.1 s.1
    (λ z m. rest x y z e (above_member x xs r.0 z m) (Memᴰ.cases_cons (h z (Memᴰ.tail m))))
    (λ z m. rest y x z (sym e) (above_member y ys s.0 z m) (Memᴰ.cases_cons (k z (Memᴰ.tail m)))))
  where
    first : (x ≡ y) ⊎ Memᴰ x ys → (y ≡ x) ⊎ Memᴰ y xs → x ≡ y
    first (inl p) q = p
    first (inr i) (inl p) = sym p
    first (inr i) (inr j) = absurd (omega (arith, above_member y ys s.0 x i, above_member x xs r.0 y j))

    rest : (a b z : ℕ) {l : List ℕ} → a ≡ b → a < z → (z ≡ b) ⊎ Memᴰ z l → Memᴰ z l
    rest a b z e h (inl p) = absurd (omega (arith, e, h, p))
    rest a b z e h (inr i) = i

-- a rising list has no member twice
pub rising_once : (l : List ℕ) → Rising l → (i j : ℕ) → i < j → j < length l → get_or l i 0 < get_or l j 0
rising_once [] r i j h k = absurd (not-suc-le-zero k)
rising_once (x ∷ xs) r i zero h k = absurd (not-suc-le-zero h)
rising_once (x ∷ xs) r zero (suc j) h k = at xs r.0 j (le_of_suc-le-suc k)
  where
    at : (l : List ℕ) → Above x l → (j : ℕ) → j < length l → x < get_or l j 0
    at [] a j k = absurd (not-suc-le-zero k)
    at (y ∷ ys) a zero k = a.0
    at (y ∷ ys) a (suc j) k = at ys a.1 j (le_of_suc-le-suc k)
rising_once (x ∷ xs) r (suc i) (suc j) h k = rising_once xs r.1 i j (le_of_suc-le-suc h) (le_of_suc-le-suc k)
