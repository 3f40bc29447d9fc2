-- Laws of `keep`: what a test says of the first member, lists made of parts or by a function, and the numbers below a bound. Assumes nothing.
use mathlib.Core.Path.{◌≡◌, refl, sym, ap, ◌∙◌}
use mathlib.Core.Bool.{Bool, true, false}
use mathlib.Core.List.{List, [], ◌∷◌, ◌++◌, map}
use Prim.Native.Nat.{ℕ, zero, suc, ◌+◌, ◌≤◌}
use native.Mathlib.Omega.{arith}
use lib.Dec.{ltb}
use borrow.Author.Tests.{lt-ltb, le-ltb}
use Rattle.lists.specs.Lists.{range, keep, each}

module _ {A : Type 0} (f : A → Bool) (x : A) (xs : List A) where
  pub keep_yes : f x ≡ true → keep f (x ∷ xs) ≡ x ∷ keep f xs
  keep_yes e = rw (e, keep)

  pub keep_no : f x ≡ false → keep f (x ∷ xs) ≡ keep f xs
  keep_no e = rw (e, keep)

-- two tests, in either order
pub keep_keep : {A : Type 0} (f g : A → Bool) (l : List A) → keep f (keep g l) ≡ keep g (keep f l)
keep_keep f g [] = refl
keep_keep f g (x ∷ l) = go (f x) refl (g x) refl (keep_keep f g l)
  where
    go : (a : Bool) → f x ≡ a → (b : Bool) → g x ≡ b → keep f (keep g l) ≡ keep g (keep f l) → keep f (keep g (x ∷ l)) ≡ keep g (keep f (x ∷ l))
    go true p true q r = ap (keep f) (keep_yes g x l q) ∙ keep_yes f x (keep g l) p ∙ ap (λ k. x ∷ k) r
        ∙ sym (ap (keep g) (keep_yes f x l p) ∙ keep_yes g x (keep f l) q)
    go true p false q r = ap (keep f) (keep_no g x l q) ∙ r ∙ sym (ap (keep g) (keep_yes f x l p) ∙ keep_no g x (keep f l) q)
    go false p true q r = ap (keep f) (keep_yes g x l q) ∙ keep_no f x (keep g l) p ∙ r ∙ ap (keep g) (sym (keep_no f x l p))
    go false p false q r = ap (keep f) (keep_no g x l q) ∙ r ∙ ap (keep g) (sym (keep_no f x l p))

-- what is kept of a list that was made of parts, or by a function
pub keep_append : {A : Type 0} (f : A → Bool) (a b : List A) → keep f (a ++ b) ≡ keep f a ++ keep f b
keep_append f [] b = refl
keep_append {A} f (x ∷ a) b = go (f x) refl (keep_append f a b)
  where
    go : (c : Bool) → f x ≡ c → keep f (a ++ b) ≡ keep f a ++ keep f b → keep f (x ∷ (a ++ b)) ≡ keep f (x ∷ a) ++ keep f b
    go true e r = rw (e, keep) (ap (λ (l : List A). x ∷ l) r)
    go false e r = rw (e, keep) r

module _ {A B : Type 0} (f : B → Bool) where
  pub keep_each : (g : A → List B) (l : List A) → keep f (each g l) ≡ each (λ x. keep f (g x)) l
  keep_each g [] = refl
  keep_each g (x ∷ l) = keep_append f (g x) (each g l) ∙ ap (λ (k : List B). keep f (g x) ++ k) (keep_each g l)

  pub keep_map : (g : A → B) (l : List A) → keep f (map g l) ≡ map g (keep (λ x. f (g x)) l)
  keep_map g [] = refl
  keep_map g (x ∷ l) = go (f (g x)) refl (keep_map g l)
    where
      go : (c : Bool) → f (g x) ≡ c → keep f (map g l) ≡ map g (keep (λ y. f (g y)) l)
          → keep f (g x ∷ map g l) ≡ map g (keep (λ y. f (g y)) (x ∷ l))
      go true e r = rw (e, keep) (ap (λ (k : List B). g x ∷ k) r)
      go false e r = rw (e, keep) r

module _ (f : ℕ → Bool) (n : ℕ) where
  below : ℕ → Bool
  below q = ltb q n

  none_from : (k a : ℕ) → n ≤ a → keep (λ q. below q) (keep f (range a k)) ≡ []
  unfolding below
  none_from zero a h = refl
  none_from (suc k) a h = go (f a) refl (none_from k (suc a) (omega arith))
    where
      go : (b : Bool) → f a ≡ b → keep (λ q. below q) (keep f (range (suc a) k)) ≡ [] → keep (λ q. below q) (keep f (range a (suc k))) ≡ []
      go true e r = ap (keep (λ q. below q)) (keep_yes f a (range (suc a) k) e) ∙ keep_no (λ q. below q) a (keep f (range (suc a) k)) (le-ltb a n h) ∙ r
      go false e r = ap (keep (λ q. below q)) (keep_no f a (range (suc a) k) e) ∙ r

  -- of d + k numbers from a on that pass a test, those below a + d
  pub keep_below : (d k a : ℕ) → a + d ≡ n → keep (λ q. ltb q n) (keep f (range a (d + k))) ≡ keep f (range a d)
  unfolding below
  keep_below zero k a e = let z : 0 + k ≡ k = omega arith in rw z (none_from k a (omega arith))
  keep_below (suc d) k a e = let z : suc d + k ≡ suc (d + k) = omega arith in rw z (go (f a) refl (keep_below d k (suc a) (omega arith)))
    where
      go : (b : Bool) → f a ≡ b → keep (λ q. below q) (keep f (range (suc a) (d + k))) ≡ keep f (range (suc a) d)
          → keep (λ q. below q) (keep f (range a (suc (d + k)))) ≡ keep f (range a (suc d))
      go true b r =
          ap (keep (λ q. below q)) (keep_yes f a (range (suc a) (d + k)) b)
          ∙ keep_yes (λ q. below q) a (keep f (range (suc a) (d + k))) (lt-ltb a n (omega arith))
          ∙ ap (λ (l : List ℕ). a ∷ l) r ∙ rw (b, keep)
      go false b r = ap (keep (λ q. below q)) (keep_no f a (range (suc a) (d + k)) b) ∙ r ∙ rw (b, keep)
