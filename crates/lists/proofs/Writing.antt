-- A list written into a buffer part after part: what is left to write, so that a loop's step is one law and its end is the contract. Assumes
-- nothing.
use mathlib.Core.Path.{◌≡◌, refl, sym, ap, ◌∙◌}
use mathlib.Core.List.{List, [], ◌∷◌, ◌++◌}
use Prim.Native.Nat.{ℕ, suc, ◌+◌, ◌≤◌}
use native.Mathlib.Nat.{add-zero, add-suc, suc-add}
use native.Mathlib.Omega.{arith}
use lib.ListN.{length, set, take, drop, length-append}
use lib.Seq.{sets, length-sets, sets-eq, take-append_seam}

pub sets_append : (l : List ℕ) (i : ℕ) (xs ys : List ℕ) → sets l i (xs ++ ys) ≡ sets (sets l i xs) (i + length xs) ys
sets_append l i [] ys = ap (λ (k : ℕ). sets l k ys) (sym (add-zero i))
sets_append l i (x ∷ xs) ys =
    sets_append (set l i x) (suc i) xs ys
    ∙ ap (λ (k : ℕ). sets (sets (set l i x) (suc i) xs) k ys) (suc-add i (length xs) ∙ sym (add-suc i (length xs)))

-- what is written at the start is read there
pub sets_start : (l xs : List ℕ) → length xs ≤ length l → take (length xs) (sets l 0 xs) ≡ xs
sets_start l xs h = ap (take (length xs)) (sets-eq xs l 0 (omega arith)) ∙ take-append_seam xs (drop (0 + length xs) l)

-- old was to take `whole` from `start` on; now l is to take `rest` from k on
pub record Writing (old : List ℕ) (start : ℕ) (whole : List ℕ) (l : List ℕ) (k : ℕ) (rest : List ℕ) : Type 0 where
  pub same : sets l k rest ≡ sets old start whole
  pub place : k + length rest ≡ start + length whole
  pub long : length l ≡ length old

pub writing_none : (old : List ℕ) (start : ℕ) (whole : List ℕ) → Writing old start whole old start whole
writing_none old start whole = record { same = refl; place = refl; long = refl }

module _ {old : List ℕ} {start : ℕ} {whole l : List ℕ} {k : ℕ} where
  -- a part more
  pub writing_part : (xs rest : List ℕ) → Writing old start whole l k (xs ++ rest) → Writing old start whole (sets l k xs) (k + length xs) rest
  writing_part xs rest w = record {
    same = sym (sets_append l k xs rest) ∙ w.same;
    place = omega (arith, w.place, length-append xs rest);
    long = length-sets l k xs ∙ w.long;
  }

  -- nothing is left
  pub writing_all : Writing old start whole l k [] → (l ≡ sets old start whole) × (k ≡ start + length whole)
  writing_all w = (w.same, omega (arith, w.place))

-- the same for who knows what was written by an equation
module _ {old : List ℕ} {start : ℕ} {whole l : List ℕ} {k : ℕ} {l' : List ℕ} {k' : ℕ} where
  -- a part is written, and the rest is left
  pub part_written : (xs rest : List ℕ) → Writing old start whole l k (xs ++ rest) → k' ≡ k + length xs → l' ≡ sets l k xs
      → Writing old start whole l' k' rest
  part_written xs rest w e d = rw (e, d) (writing_part xs rest w)

  -- the last part is written
  pub last_written : (xs : List ℕ) → Writing old start whole l k xs → k' ≡ k + length xs → l' ≡ sets l k xs
      → (k' ≡ start + length whole) × (l' ≡ sets old start whole)
  last_written xs w e d = (e ∙ w.place, d ∙ w.same)
