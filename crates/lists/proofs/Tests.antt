-- Tests as facts: the parts of a test by two, who is a member, and who passes. Assumes nothing.
use mathlib.Core.Path.{◌≡◌, refl, sym, ap, ap₂, ◌∙◌}
use mathlib.Core.Bool.{Bool, true, false, true≢false, false≢true, not, ◌&&◌, ◌||◌}
use mathlib.Core.List.Memᴰ
use mathlib.Core.List.{List, [], ◌∷◌, ◌++◌, map, Memᴰ}
use mathlib.Core.Logic.{◌⊎◌, inl, inr}
use Prim.Native.Nat.{ℕ}
use lib.Dec.{eqb}
use borrow.Author.Tests.{eqb-true, eq-eqb}
use Rattle.lists.specs.Lists.{keep, all, any, each, member, is_empty}

-- tests that pass together are the same
pub same_test : (a b : Bool) → (a ≡ true → b ≡ true) → (b ≡ true → a ≡ true) → a ≡ b
same_test true b h k = sym (h refl)
same_test false true h k = k refl
same_test false false h k = refl

pub untrue : (b : Bool) → (b ≡ true → ⊥) → false ≡ b
untrue true h = absurd (h refl)
untrue false h = refl

-- no test both passes and fails
pub clash : {C : Type 0} {b : Bool} → b ≡ true → b ≡ false → C
clash p q = absurd (true≢false (sym p ∙ q))

pub and_left : (a b : Bool) → (a && b) ≡ true → a ≡ true
and_left true b e = refl
and_left false b e = e

pub and_right : (a b : Bool) → (a && b) ≡ true → b ≡ true
and_right true b e = e
and_right false b e = absurd (false≢true e)

pub and_both : (a b : Bool) → a ≡ true → b ≡ true → (a && b) ≡ true
and_both true b p q = q
and_both false b p q = p

pub or_left : (a b : Bool) → (a || b) ≡ false → a ≡ false
or_left false b e = refl
or_left true b e = e

pub or_right : (a b : Bool) → (a || b) ≡ false → b ≡ false
or_right false b e = e
or_right true b e = absurd (true≢false e)

pub or_cases : (a b : Bool) → (a || b) ≡ true → (a ≡ true) ⊎ (b ≡ true)
or_cases true b e = inl refl
or_cases false b e = inr e

pub left_or : (a b : Bool) → a ≡ true → (a || b) ≡ true
left_or true b e = refl
left_or false b e = absurd (false≢true e)

pub right_or : (a b : Bool) → b ≡ true → (a || b) ≡ true
right_or true b e = refl
right_or false b e = e

pub member_is : (x : ℕ) (l : List ℕ) → member x l ≡ true → Memᴰ x l
member_is x [] e = absurd (false≢true e)
member_is x (y ∷ ys) e = go (eqb y x) refl e (member_is x ys)
  where
    go : (b : Bool) → eqb y x ≡ b → member x (y ∷ ys) ≡ true → (member x ys ≡ true → Memᴰ x ys) → Memᴰ x (y ∷ ys)
    go true q e r = Memᴰ.head (sym (eqb-true y x q))
    go false q e r = Memᴰ.tail (r (rw (q, member) at e))

pub is_member : (x : ℕ) (l : List ℕ) → Memᴰ x l → member x l ≡ true
is_member x [] m = absurd (Memᴰ.not-nil m)
is_member x (y ∷ ys) m = go (eqb y x) refl (Memᴰ.cases_cons m) (is_member x ys)
  where
    go : (b : Bool) → eqb y x ≡ b → (x ≡ y) ⊎ Memᴰ x ys → (Memᴰ x ys → member x ys ≡ true) → member x (y ∷ ys) ≡ true
    go true q c r = rw (q, member)
    go false q (inl p) r = absurd (false≢true (sym q ∙ eq-eqb y x (sym p)))
    go false q (inr k) r = rw (q, member) (r k)

module _ {A : Type 0} where
  -- all pass: so does each
  pub all_member : (f : A → Bool) (l : List A) → all f l ≡ true → (x : A) → Memᴰ x l → f x ≡ true
  all_member f [] e x m = absurd (Memᴰ.not-nil m)
  all_member f (y ∷ ys) e x m = go (f y) refl e (Memᴰ.cases_cons m) (λ u k. all_member f ys u x k)
    where
      go : (b : Bool) → f y ≡ b → all f (y ∷ ys) ≡ true → (x ≡ y) ⊎ Memᴰ x ys → (all f ys ≡ true → Memᴰ x ys → f x ≡ true) → f x ≡ true
      go true q e (inl p) r = ap f p ∙ q
      go true q e (inr k) r = r (rw (q, all) at e) k
      go false q e c r = absurd (false≢true (rw (q, all) at e))

  -- a test of both is a test of those that pass the first
  pub any_both : (f g : A → Bool) (l : List A) → any (λ x. f x && g x) l ≡ any g (keep f l)
  any_both f g [] = refl
  any_both f g (x ∷ xs) = go (f x) refl (g x) refl (any_both f g xs)
    where
      go : (a : Bool) → f x ≡ a → (b : Bool) → g x ≡ b → any (λ x. f x && g x) xs ≡ any g (keep f xs)
          → any (λ x. f x && g x) (x ∷ xs) ≡ any g (keep f (x ∷ xs))
      go true p true q r = rw (p, q, keep, any)
      go true p false q r = rw (p, q, keep, any) r
      go false p b q r = rw (p, keep, any) r

  -- equal tests of the members
  pub all_same : (f g : A → Bool) (l : List A) → ((x : A) → Memᴰ x l → f x ≡ g x) → all f l ≡ all g l
  all_same f g [] h = refl
  all_same f g (x ∷ xs) h = go (h x (Memᴰ.head refl)) (all_same f g xs (λ y m. h y (Memᴰ.tail m)))
    where
      go : f x ≡ g x → all f xs ≡ all g xs → all f (x ∷ xs) ≡ all g (x ∷ xs)
      go p q = ap₂ (λ (b r : Bool). elim b as (λ c. Bool) [ true ↦ r | false ↦ false ]) p q

  pub any_same : (f g : A → Bool) (l : List A) → ((x : A) → Memᴰ x l → f x ≡ g x) → any f l ≡ any g l
  any_same f g [] h = refl
  any_same f g (x ∷ xs) h = go (h x (Memᴰ.head refl)) (any_same f g xs (λ y m. h y (Memᴰ.tail m)))
    where
      go : f x ≡ g x → any f xs ≡ any g xs → any f (x ∷ xs) ≡ any g (x ∷ xs)
      go p q = ap₂ (λ (b r : Bool). elim b as (λ c. Bool) [ true ↦ true | false ↦ r ]) p q

  pub keep_same : (f g : A → Bool) (l : List A) → ((x : A) → Memᴰ x l → f x ≡ g x) → keep f l ≡ keep g l
  keep_same f g [] h = refl
  keep_same f g (x ∷ xs) h = go (h x (Memᴰ.head refl)) (keep_same f g xs (λ y m. h y (Memᴰ.tail m)))
    where
      go : f x ≡ g x → keep f xs ≡ keep g xs → keep f (x ∷ xs) ≡ keep g (x ∷ xs)
      go p q = ap₂ (λ (b : Bool) (r : List A). elim b as (λ c. List A) [ true ↦ x ∷ r | false ↦ r ]) p q

  -- all pass where none fails
  pub all_none : (f g : A → Bool) (l : List A) → ((x : A) → Memᴰ x l → g x ≡ not (f x)) → all f l ≡ not (any g l)
  all_none f g [] h = refl
  all_none f g (x ∷ xs) h = go (f x) refl (h x (Memᴰ.head refl)) (all_none f g xs (λ y m. h y (Memᴰ.tail m)))
    where
      go : (b : Bool) → f x ≡ b → g x ≡ not (f x) → all f xs ≡ not (any g xs) → all f (x ∷ xs) ≡ not (any g (x ∷ xs))
      go true p q r = let e : g x ≡ false = q ∙ ap not p in rw (p, e, all, any) r
      go false p q r = let e : g x ≡ true = q ∙ ap not p in rw (p, e, all, any)

  any_append : (f : A → Bool) (a b : List A) → any f (a ++ b) ≡ (any f a || any f b)
  any_append f [] b = refl
  any_append f (x ∷ a) b = go (f x) refl (any_append f a b)
    where
      go : (c : Bool) → f x ≡ c → any f (a ++ b) ≡ (any f a || any f b) → any f (x ∷ (a ++ b)) ≡ (any f (x ∷ a) || any f b)
      go true e r = rw (e, any)
      go false e r = rw (e, any) r

-- some member of what each gives passes, or of what a function gives
module _ {A B : Type 0} (f : B → Bool) where
  pub any_each : (g : A → List B) (l : List A) → any f (each g l) ≡ any (λ x. any f (g x)) l
  any_each g [] = refl
  any_each g (x ∷ xs) = any_append f (g x) (each g xs) ∙ ap (λ (b : Bool). any f (g x) || b) (any_each g xs) ∙ or (any f (g x))
    where
      or : (a : Bool) → (a || any (λ y. any f (g y)) xs) ≡ elim a as (λ c. Bool) [ true ↦ true | false ↦ any (λ y. any f (g y)) xs ]
      or true = refl
      or false = refl

  pub any_map : (g : A → B) (l : List A) → any f (map g l) ≡ any (λ x. f (g x)) l
  any_map g [] = refl
  any_map g (x ∷ xs) = ap (λ (b : Bool). elim (f (g x)) as (λ c. Bool) [ true ↦ true | false ↦ b ]) (any_map g xs)

-- some member passes, or all do
module _ {A : Type 0} (f : A → Bool) where
  pub any_member : (l : List A) → any f l ≡ true → (x : A) × Memᴰ x l × (f x ≡ true)
  any_member [] e = absurd (false≢true e)
  any_member (y ∷ ys) e = go (f y) refl e (any_member ys)
    where
      go : (b : Bool) → f y ≡ b → any f (y ∷ ys) ≡ true → (any f ys ≡ true → (x : A) × Memᴰ x ys × (f x ≡ true))
          → (x : A) × Memᴰ x (y ∷ ys) × (f x ≡ true)
      go true q e r = (y, Memᴰ.head refl, q)
      go false q e r = let s = r (rw (q, any) at e) in (s.0, Memᴰ.tail s.1, s.2)

  pub member_any : (l : List A) {x : A} → Memᴰ x l → f x ≡ true → any f l ≡ true
  member_any [] m e = absurd (Memᴰ.not-nil m)
  member_any (y ∷ ys) {x} m e = go (f y) refl (Memᴰ.cases_cons m) (λ k. member_any ys k e)
    where
      go : (b : Bool) → f y ≡ b → (x ≡ y) ⊎ Memᴰ x ys → (Memᴰ x ys → any f ys ≡ true) → any f (y ∷ ys) ≡ true
      go true q c r = rw (q, any)
      go false q (inl p) r = absurd (false≢true (sym q ∙ ap f (sym p) ∙ e))
      go false q (inr k) r = rw (q, any) (r k)

  pub member_all : (l : List A) → ((x : A) → Memᴰ x l → f x ≡ true) → all f l ≡ true
  member_all [] h = refl
  member_all (y ∷ ys) h = rw (h y (Memᴰ.head refl), all) (member_all ys (λ x m. h x (Memᴰ.tail m)))

  -- none passes, or one fails
  pub any_none : (l : List A) → any f l ≡ false → (x : A) → Memᴰ x l → f x ≡ false
  any_none l e x m = sym (untrue (f x) (λ t. clash (member_any l m t) e))

  pub none_any : (l : List A) → ((x : A) → Memᴰ x l → f x ≡ false) → any f l ≡ false
  none_any l h = sym (untrue (any f l) (λ t. let s = any_member l t in clash s.2 (h s.0 s.1)))

  pub all_fails : (l : List A) → all f l ≡ false → (x : A) × Memᴰ x l × (f x ≡ false)
  all_fails [] e = absurd (true≢false e)
  all_fails (y ∷ ys) e = go (f y) refl e (all_fails ys)
    where
      go : (b : Bool) → f y ≡ b → all f (y ∷ ys) ≡ false → (all f ys ≡ false → (x : A) × Memᴰ x ys × (f x ≡ false))
          → (x : A) × Memᴰ x (y ∷ ys) × (f x ≡ false)
      go true q e r = let s = r (rw (q, all) at e) in (s.0, Memᴰ.tail s.1, s.2)
      go false q e r = (y, Memᴰ.head refl, q)

  pub fails_all : (l : List A) {x : A} → Memᴰ x l → f x ≡ false → all f l ≡ false
  fails_all l {x} m e = sym (untrue (all f l) (λ t. clash (all_member f l t x m) e))

-- no member, or one
module _ {A : Type 0} where
  pub empty_none : (l : List A) → is_empty l ≡ true → {x : A} → Memᴰ x l → ⊥
  empty_none [] e m = Memᴰ.not-nil m
  empty_none (y ∷ ys) e m = false≢true e

  pub none_empty : (l : List A) → ((x : A) → Memᴰ x l → ⊥) → is_empty l ≡ true
  none_empty [] h = refl
  none_empty (y ∷ ys) h = absurd (h y (Memᴰ.head refl))

  pub first_member : (l : List A) → is_empty l ≡ false → (x : A) × Memᴰ x l
  first_member [] e = absurd (true≢false e)
  first_member (y ∷ ys) e = (y, Memᴰ.head refl)

pub empty_map : {A B : Type 0} (f : A → B) (l : List A) → is_empty (map f l) ≡ is_empty l
empty_map f [] = refl
empty_map f (x ∷ l) = refl
