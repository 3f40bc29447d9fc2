-- Two lists written into one buffer part by part, the first before the second, in whatever order the parts come: what is left to write of each, so
-- that a loop's step is one law and its end is the contract. Assumes nothing.
use mathlib.Core.Path.{◌≡◌, refl, sym, ap, ◌∙◌}
use mathlib.Core.List.{List, [], ◌∷◌, ◌++◌}
use Prim.Native.Nat.{ℕ, suc, ◌+◌, ◌≤◌, ◌<◌}
use native.Mathlib.Omega.{arith}
use lib.ListN.{length, length-append, set}
use lib.Seq.{sets, length-sets, set_comm}
use Rattle.lists.proofs.Writing.{sets_append}

-- a number written before a list, and after it
set_before : (l : List ℕ) (i x j : ℕ) (ys : List ℕ) → i < j → sets (set l i x) j ys ≡ set (sets l j ys) i x
set_before l i x j [] h = refl
set_before l i x j (y ∷ ys) h =
    ap (λ (k : List ℕ). sets k (suc j) ys) (set_comm l i j x y (λ e. omega (arith, h, e)))
    ∙ set_before (set l j y) i x (suc j) ys (omega (arith, h))

-- two lists at places that do not meet, in either order
sets_comm : (l : List ℕ) (i : ℕ) (xs : List ℕ) (j : ℕ) (ys : List ℕ) → i + length xs ≤ j → sets (sets l i xs) j ys ≡ sets (sets l j ys) i xs
sets_comm l i [] j ys h = refl
sets_comm l i (x ∷ xs) j ys h =
    sets_comm (set l i x) (suc i) xs j ys (omega (arith, h))
    ∙ ap (λ (k : List ℕ). sets k (suc i) xs) (set_before l i x j ys (omega (arith, h)))

-- old was to take `first` from a on and `second` from b on; now l is to take what is left of them from k on and from j on
pub record Dealing (old : List ℕ) (a : ℕ) (first : List ℕ) (b : ℕ) (second l : List ℕ) (k : ℕ) (left : List ℕ) (j : ℕ) (right : List ℕ) : Type 0 where
  pub same : sets (sets l k left) j right ≡ sets (sets old a first) b second
  pub place_first : k + length left ≡ a + length first
  pub place_second : j + length right ≡ b + length second
  pub apart : k + length left ≤ j
  pub long : length l ≡ length old

pub dealing_none : (old : List ℕ) (a : ℕ) (first : List ℕ) (b : ℕ) (second : List ℕ) → a + length first ≤ b
    → Dealing old a first b second old a first b second
dealing_none old a first b second h = record { same = refl; place_first = refl; place_second = refl; apart = h; long = refl }

module _ {old : List ℕ} {a : ℕ} {first : List ℕ} {b : ℕ} {second l : List ℕ} {k j : ℕ} where
  -- what is left, by equal lists
  pub dealing_same : {left right left' right' : List ℕ} → left ≡ left' → right ≡ right' → Dealing old a first b second l k left j right
      → Dealing old a first b second l k left' j right'
  dealing_same e d w = rw (sym e, sym d) w

  -- a part more of each
  pub dealing_part : (xs left ys right : List ℕ) → Dealing old a first b second l k (xs ++ left) j (ys ++ right)
      → Dealing old a first b second (sets (sets l k xs) j ys) (k + length xs) left (j + length ys) right
  dealing_part xs left ys right w = record {
    same =
        ap (λ (m : List ℕ). sets m (j + length ys) right) (sym (sets_comm (sets l k xs) (k + length xs) left j ys room))
        ∙ sym (sets_append (sets (sets l k xs) (k + length xs) left) j ys right)
        ∙ ap (λ (m : List ℕ). sets m j (ys ++ right)) (sym (sets_append l k xs left))
        ∙ w.same;
    place_first = omega (arith, w.place_first, length-append xs left);
    place_second = omega (arith, w.place_second, length-append ys right);
    apart = omega (arith, room);
    long = length-sets (sets l k xs) j ys ∙ length-sets l k xs ∙ w.long;
  }
    where
      room : k + length xs + length left ≤ j
      room = omega (arith, w.apart, length-append xs left)

  -- nothing is left
  pub dealing_all : Dealing old a first b second l k [] j [] → (k ≡ a + length first) × (j ≡ b + length second) × (l ≡ sets (sets old a first) b second)
  dealing_all w = (omega (arith, w.place_first), omega (arith, w.place_second), w.same)
