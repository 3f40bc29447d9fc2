-- Bytes written one after the other: one byte of a loop, one part of a line. Assumes nothing.
use Rattle.std.specs.Prelude.{Option, Some, None}
use mathlib.Core.Path.{◌≡◌, refl, sym, ap, ap₂, ◌∙◌}
use mathlib.Core.List.{List, [], ◌∷◌, ◌++◌}
use Prim.Native.Nat.{ℕ, suc, ◌+◌, ◌<◌}
use native.Mathlib.Omega.{arith}
use lib.ListN.{length, get_or, drop, set}
use lib.Seq.{drop-cons, sets}
use Rattle.text.specs.Text.{decimal, dash, shown, item}

-- one byte more is stored
pub sets_step : (l xs : List ℕ) (at i : ℕ) → i < length xs
    → sets (set l (at + i) (get_or xs i 0)) (at + (i + 1)) (drop (i + 1) xs) ≡ sets l (at + i) (drop i xs)
sets_step l xs at i h =
    let e : suc (at + i) ≡ at + (i + 1) = omega arith in
    let f : suc i ≡ i + 1 = omega arith in
    sym
    (ap (λ (r : List ℕ). sets l (at + i) r) (drop-cons xs i 0 h)
    ∙ ap₂ (λ (j k : ℕ). sets (set l (at + i) (get_or xs i 0)) j (drop k xs)) e f)

-- the two items: of a number, and of none
pub item_number : (field : Option ℕ) (n after : ℕ) → field ≡ Some n → item field after ≡ decimal n ++ (after ∷ [])
unfolding item shown
item_number field n after e = rw e

pub item_absent : (field : Option ℕ) (after : ℕ) → ((n : ℕ) → field ≡ Some n → ⊥) → item field after ≡ dash ∷ after ∷ []
unfolding item shown
item_absent (Some n) after h = absurd (h n refl)
item_absent None after h = refl
