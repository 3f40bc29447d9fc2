-- Who is a member of a list that the definitions make: of `keep`, `each`, `map`, `range` and `or_else`, in both directions. Functions equal on the
-- members map a list alike. Assumes nothing.
use mathlib.Core.Path.{◌≡◌, refl, sym, ap, ap₂, ◌∙◌}
use mathlib.Core.Bool.{Bool, true, false, true≢false}
use mathlib.Core.Logic.{◌⊎◌, inl, inr}
use mathlib.Core.List.Memᴰ
use mathlib.Core.List.{List, [], ◌∷◌, ◌++◌, map, Memᴰ}
use Prim.Native.Nat.{ℕ, zero, suc, ◌+◌, ◌≤◌, ◌<◌}
use native.Mathlib.Nat.{eq-or-lt_of_le, not-suc-le-zero, le_of_suc-le-suc}
use lib.ListN.{length, get_or}
use native.Mathlib.Omega.{arith}
use Rattle.lists.specs.Lists.{range, keep, each, or_else}

module _ {A : Type 0} (f : A → Bool) where
  pub keep_member : (l : List A) {x : A} → Memᴰ x (keep f l) → Memᴰ x l × (f x ≡ true)
  keep_member [] m = absurd (Memᴰ.not-nil m)
  keep_member (y ∷ ys) {x} m = go (f y) refl m (λ k. keep_member ys k)
    where
      cases : (x ≡ y) ⊎ Memᴰ x (keep f ys) → f y ≡ true → (Memᴰ x (keep f ys) → Memᴰ x ys × (f x ≡ true))
          → Memᴰ x (y ∷ ys) × (f x ≡ true)
      cases (inl p) e r = (Memᴰ.head p, ap f p ∙ e)
      cases (inr k) e r = let s = r k in (Memᴰ.tail s.0, s.1)

      go : (b : Bool) → f y ≡ b → Memᴰ x (keep f (y ∷ ys)) → (Memᴰ x (keep f ys) → Memᴰ x ys × (f x ≡ true))
          → Memᴰ x (y ∷ ys) × (f x ≡ true)
      go true e m r = cases (Memᴰ.cases_cons (rw (e, keep) at m)) e r
      go false e m r = let s = r (rw (e, keep) at m) in (Memᴰ.tail s.0, s.1)

  pub member_keep : (l : List A) {x : A} → Memᴰ x l → f x ≡ true → Memᴰ x (keep f l)
  member_keep [] m e = absurd (Memᴰ.not-nil m)
  member_keep (y ∷ ys) {x} m e = go (f y) refl (Memᴰ.cases_cons m) (λ k. member_keep ys k e)
    where
      go : (b : Bool) → f y ≡ b → (x ≡ y) ⊎ Memᴰ x ys → (Memᴰ x ys → Memᴰ x (keep f ys)) → Memᴰ x (keep f (y ∷ ys))
      go true q (inl p) r = rw (q, keep) (Memᴰ.head p)
      go true q (inr k) r = rw (q, keep) (Memᴰ.tail (r k))
      go false q (inl p) r = absurd (true≢false (sym e ∙ ap f p ∙ q))
      go false q (inr k) r = rw (q, keep) (r k)

module _ {A B : Type 0} (f : A → List B) where
  pub each_member : (l : List A) {y : B} → Memᴰ y (each f l) → (x : A) × Memᴰ x l × Memᴰ y (f x)
  each_member [] m = absurd (Memᴰ.not-nil m)
  each_member (a ∷ l) {y} m = go (Memᴰ.append_cases (f a) m) (λ k. each_member l k)
    where
      go : Memᴰ y (f a) ⊎ Memᴰ y (each f l) → (Memᴰ y (each f l) → (x : A) × Memᴰ x l × Memᴰ y (f x))
          → (x : A) × Memᴰ x (a ∷ l) × Memᴰ y (f x)
      go (inl k) r = (a, Memᴰ.head refl, k)
      go (inr k) r = let s = r k in (s.0, Memᴰ.tail s.1, s.2)

  pub member_each : (l : List A) (x : A) {y : B} → Memᴰ x l → Memᴰ y (f x) → Memᴰ y (each f l)
  member_each [] x m k = absurd (Memᴰ.not-nil m)
  member_each (a ∷ l) x {y} m k = go (Memᴰ.cases_cons m) (λ j. member_each l x j k)
    where
      go : (x ≡ a) ⊎ Memᴰ x l → (Memᴰ x l → Memᴰ y (each f l)) → Memᴰ y (f a ++ each f l)
      go (inl p) r = Memᴰ.append_left (each f l) (rw p at k)
      go (inr j) r = Memᴰ.append_right (f a) (r j)

module _ {A B : Type 0} (f : A → B) where
  pub map_member : (l : List A) {y : B} → Memᴰ y (map f l) → (x : A) × Memᴰ x l × (y ≡ f x)
  map_member [] m = absurd (Memᴰ.not-nil m)
  map_member (a ∷ l) {y} m = go (Memᴰ.cases_cons m) (λ k. map_member l k)
    where
      go : (y ≡ f a) ⊎ Memᴰ y (map f l) → (Memᴰ y (map f l) → (x : A) × Memᴰ x l × (y ≡ f x))
          → (x : A) × Memᴰ x (a ∷ l) × (y ≡ f x)
      go (inl p) r = (a, Memᴰ.head refl, p)
      go (inr k) r = let s = r k in (s.0, Memᴰ.tail s.1, s.2)

  pub member_map : (l : List A) {x : A} → Memᴰ x l → Memᴰ (f x) (map f l)
  member_map [] m = absurd (Memᴰ.not-nil m)
  member_map (a ∷ l) {x} m = go (Memᴰ.cases_cons m) (λ k. member_map l k)
    where
      go : (x ≡ a) ⊎ Memᴰ x l → (Memᴰ x l → Memᴰ (f x) (map f l)) → Memᴰ (f x) (f a ∷ map f l)
      go (inl p) r = Memᴰ.head (ap f p)
      go (inr k) r = Memᴰ.tail (r k)

pub map_same : {A B : Type 0} (f g : A → B) (l : List A) → ((x : A) → Memᴰ x l → f x ≡ g x) → map f l ≡ map g l
map_same f g [] h = refl
map_same f g (x ∷ xs) h = ap₂ ◌∷◌ (h x (Memᴰ.head refl)) (map_same f g xs (λ y m. h y (Memᴰ.tail m)))

pub range_member : (n a : ℕ) {x : ℕ} → Memᴰ x (range a n) → (a ≤ x) × (x < a + n)
range_member zero a m = absurd (Memᴰ.not-nil m)
range_member (suc n) a {x} m = go (Memᴰ.cases_cons m) (λ k. range_member n (suc a) k)
  where
    go : (x ≡ a) ⊎ Memᴰ x (range (suc a) n) → (Memᴰ x (range (suc a) n) → (suc a ≤ x) × (x < suc a + n)) → (a ≤ x) × (x < a + suc n)
    go (inl p) r = (omega arith, omega arith)
    go (inr k) r = let s = r k in (omega (arith, s.0), omega (arith, s.1))

pub member_range : (n a x : ℕ) → a ≤ x → x < a + n → Memᴰ x (range a n)
member_range zero a x l h = absurd (omega arith)
member_range (suc n) a x l h = go (eq-or-lt_of_le l) (λ k. member_range n (suc a) x k (omega arith))
  where
    go : (a ≡ x) ⊎ (a < x) → (suc a ≤ x → Memᴰ x (range (suc a) n)) → Memᴰ x (a ∷ range (suc a) n)
    go (inl p) r = Memᴰ.head (sym p)
    go (inr k) r = Memᴰ.tail (r k)

module _ {A : Type 0} where
  pub or_else_cases : (l r : List A) {x : A} → Memᴰ x (or_else l r) → Memᴰ x l ⊎ Memᴰ x r
  or_else_cases [] r m = inr m
  or_else_cases (y ∷ ys) r m = inl m

  pub or_else_first : (l r : List A) {x : A} → Memᴰ x l → Memᴰ x (or_else l r)
  or_else_first [] r m = absurd (Memᴰ.not-nil m)
  or_else_first (y ∷ ys) r m = m

  -- where the first has a member, all are the first's
  pub or_else_only : (l r : List A) {x y : A} → Memᴰ x l → Memᴰ y (or_else l r) → Memᴰ y l
  or_else_only [] r m k = absurd (Memᴰ.not-nil m)
  or_else_only (z ∷ zs) r m k = k

  pub or_else_second : (l r : List A) {x : A} → ((y : A) → Memᴰ y l → ⊥) → Memᴰ x r → Memᴰ x (or_else l r)
  or_else_second [] r none m = m
  or_else_second (y ∷ ys) r none m = absurd (none y (Memᴰ.head refl))

pub get_d_member : {A : Type 0} (l : List A) (i : ℕ) (d : A) → i < length l → Memᴰ (get_or l i d) l
get_d_member [] i d h = absurd (not-suc-le-zero h)
get_d_member (x ∷ l) zero d h = Memᴰ.head refl
get_d_member (x ∷ l) (suc i) d h = Memᴰ.tail (get_d_member l i d (le_of_suc-le-suc h))
