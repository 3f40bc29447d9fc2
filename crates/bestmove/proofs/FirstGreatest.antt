-- The first of a list's members whose measure is the greatest: what a loop ends with that keeps the best so far, and takes another in its place only
-- where that is better. Assumes nothing.
use mathlib.Core.Path.{◌≡◌, refl}
use mathlib.Core.Bool.{Bool, true, false}
use mathlib.Core.List.Memᴰ
use mathlib.Core.List.{List, [], ◌∷◌, Memᴰ}
use mathlib.Core.Logic.{◌⊎◌, inl, inr}
use Prim.Native.Nat.{ℕ, ◌≤◌}
use native.Mathlib.Omega.{arith}
use lib.Dec.{eqb, ltb}
use borrow.Author.Tests.{eqb-false, eq-eqb, ne_eqb, ltb-true, ltb-false}
use Rattle.bestmove.specs.Best.{first_that}

module _ (g : ℕ → ℕ) where
  -- the best of m and those still to come
  abbrev pub kept : ℕ → List ℕ → ℕ
  kept m [] = m
  kept m (x ∷ xs) = elim (ltb (g m) (g x)) [ true ↦ kept x xs | false ↦ kept m xs ]

  pub kept_better : (m x : ℕ) (xs : List ℕ) → ltb (g m) (g x) ≡ true → kept m (x ∷ xs) ≡ kept x xs
  kept_better m x xs e = rw (e, kept)

  pub kept_same : (m x : ℕ) (xs : List ℕ) → ltb (g m) (g x) ≡ false → kept m (x ∷ xs) ≡ kept m xs
  kept_same m x xs e = rw (e, kept)

  pub kept_member : (m : ℕ) (xs : List ℕ) → Memᴰ (kept m xs) (m ∷ xs)
  kept_member m [] = Memᴰ.head refl
  kept_member m (x ∷ xs) = go (ltb (g m) (g x)) refl (kept_member x xs) (Memᴰ.cases_cons (kept_member m xs))
    where
      go : (b : Bool) → ltb (g m) (g x) ≡ b → Memᴰ (kept x xs) (x ∷ xs) → (kept m xs ≡ m) ⊎ Memᴰ (kept m xs) xs
          → Memᴰ (kept m (x ∷ xs)) (m ∷ x ∷ xs)
      go true e a b = rw (kept_better m x xs e) (Memᴰ.tail a)
      go false e a (inl p) = rw (kept_same m x xs e) (Memᴰ.head p)
      go false e a (inr k) = rw (kept_same m x xs e) (Memᴰ.tail (Memᴰ.tail k))

  kept_high : (m : ℕ) (xs : List ℕ) → g m ≤ g (kept m xs)
  kept_high m [] = omega arith
  kept_high m (x ∷ xs) = go (ltb (g m) (g x)) refl (kept_high x xs) (kept_high m xs)
    where
      go : (b : Bool) → ltb (g m) (g x) ≡ b → g x ≤ g (kept x xs) → g m ≤ g (kept m xs) → g m ≤ g (kept m (x ∷ xs))
      go true e a b = rw (kept_better m x xs e) (omega (arith, ltb-true (g m) (g x) e))
      go false e a b = rw (kept_same m x xs e) b

  -- no member has a greater measure
  pub kept_top : (m : ℕ) (xs : List ℕ) (y : ℕ) → Memᴰ y (m ∷ xs) → g y ≤ g (kept m xs)
  kept_top m xs y i = go (Memᴰ.cases_cons i)
    where
      later : (m : ℕ) (xs : List ℕ) → Memᴰ y xs → g y ≤ g (kept m xs)
      later m [] k = absurd (Memᴰ.not-nil k)
      later m (x ∷ xs) k = step (ltb (g m) (g x)) refl (Memᴰ.cases_cons k) (λ j. later x xs j) (λ j. later m xs j)
        where
          step : (b : Bool) → ltb (g m) (g x) ≡ b → (y ≡ x) ⊎ Memᴰ y xs → (Memᴰ y xs → g y ≤ g (kept x xs))
              → (Memᴰ y xs → g y ≤ g (kept m xs)) → g y ≤ g (kept m (x ∷ xs))
          step true e (inl p) r s = rw (kept_better m x xs e, p) (kept_high x xs)
          step true e (inr j) r s = rw (kept_better m x xs e) (r j)
          step false e (inl p) r s = rw (kept_same m x xs e, p) (omega (arith, ltb-false (g m) (g x) e, kept_high m xs))
          step false e (inr j) r s = rw (kept_same m x xs e) (s j)

      go : (y ≡ m) ⊎ Memᴰ y xs → g y ≤ g (kept m xs)
      go (inl p) = rw p (kept_high m xs)
      go (inr k) = later m xs k

  -- and none before it has the same
  pub kept_first : (m : ℕ) (xs : List ℕ) → first_that (λ y. eqb (g y) (g (kept m xs))) (m ∷ xs) ≡ kept m xs
  kept_first m [] = rw (eq-eqb (g m) (g m) refl, first_that)
  kept_first m (x ∷ xs) = go (ltb (g m) (g x)) refl (kept_first x xs) (kept_first m xs)
    where
      go : (b : Bool) → ltb (g m) (g x) ≡ b → first_that (λ y. eqb (g y) (g (kept x xs))) (x ∷ xs) ≡ kept x xs
          → first_that (λ y. eqb (g y) (g (kept m xs))) (m ∷ xs) ≡ kept m xs
          → first_that (λ y. eqb (g y) (g (kept m (x ∷ xs)))) (m ∷ x ∷ xs) ≡ kept m (x ∷ xs)
      go true e a b =
          rw (kept_better m x xs e) (rw (ne_eqb (g m) (g (kept x xs)) (λ q. omega (arith, ltb-true (g m) (g x) e, kept_high x xs)), first_that) a)
      go false e a b = rw (kept_same m x xs e) (first (eqb (g m) (g (kept m xs))) refl)
        where
          first : (t : Bool) → eqb (g m) (g (kept m xs)) ≡ t → first_that (λ y. eqb (g y) (g (kept m xs))) (m ∷ x ∷ xs) ≡ kept m xs
          first true p = rw (p, first_that) (rw (p, first_that) at b)
          first false p =
              let n = eqb-false (g m) (g (kept m xs)) p in
              rw (p, ne_eqb (g x) (g (kept m xs)) (λ q. n (omega (arith, ltb-false (g m) (g x) e, kept_high m xs))), first_that) (rw (p, first_that) at b)
