-- How long the lists are that the definitions make. Assumes nothing.
use mathlib.Core.Path.{◌≡◌, refl, sym}
use mathlib.Core.Bool.{Bool, true, false}
use mathlib.Core.List.{List, [], ◌∷◌, Memᴰ}
use Prim.Native.Nat.{ℕ, zero, suc, ◌*◌, ◌≤◌}
use native.Mathlib.Omega.{arith}
use native.Mathlib.Nat.{suc-mul}
use lib.Dec.{eqb}
use lib.ListN.{length, length-append}
use borrow.Author.Tests.{ne_eqb}
use Rattle.lists.specs.Lists.{range, keep, each, is_empty, or_else}

pub length_range : (n a : ℕ) → length (range a n) ≡ n
length_range zero a = refl
length_range (suc n) a = omega (arith, length_range n (suc a))

module _ {A : Type 0} where
  pub empty_length : (l : List A) → is_empty l ≡ eqb (length l) 0
  empty_length [] = refl
  empty_length (x ∷ xs) = sym (ne_eqb (suc (length xs)) 0 (λ e. omega arith))

  pub keep_le : (f : A → Bool) (l : List A) → length (keep f l) ≤ length l
  keep_le f [] = omega arith
  keep_le f (x ∷ xs) = go (f x) refl (keep_le f xs)
    where
      go : (b : Bool) → f x ≡ b → length (keep f xs) ≤ length xs → length (keep f (x ∷ xs)) ≤ suc (length xs)
      go true e r = rw (e, keep) (omega (arith, r))
      go false e r = rw (e, keep) (omega (arith, r))

  pub or_else_le : (n : ℕ) (l r : List A) → length l ≤ n → length r ≤ n → length (or_else l r) ≤ n
  or_else_le n [] r h k = k
  or_else_le n (x ∷ xs) r h k = h

module _ {A B : Type 0} where
  pub each_le : (f : A → List B) (n : ℕ) (l : List A) → ((x : A) → Memᴰ x l → length (f x) ≤ n) → length (each f l) ≤ length l * n
  each_le f n [] h = omega arith
  each_le f n (x ∷ xs) h =
      omega (arith, length-append (f x) (each f xs), h x (Memᴰ.head refl), each_le f n xs (λ y m. h y (Memᴰ.tail m)), suc-mul (length xs) n)
