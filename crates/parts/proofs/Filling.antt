-- A list with one value throughout a part: its length, what stands in the part, and what stands outside it. Assumes nothing.
use mathlib.Core.Path.{◌≡◌, refl, ap, ◌∙◌}
use mathlib.Core.Bool.{Bool, true, false}
use mathlib.Core.List.{List, [], ◌∷◌, ◌++◌}
use mathlib.Core.Logic.{◌⊎◌, inl, inr}
use Prim.Native.Nat.{ℕ, zero, suc, ◌+◌, ◌-◌, ◌≤◌, ◌<◌}
use native.Mathlib.Omega.{arith}
use lib.Dec.{ltb}
use lib.ListN.{length, get_or, take, drop, length-drop, replicate, length-replicate, length-append}
use lib.Seq.{length-take-le, get_or-take, get_or-drop, get_or-append-add}
use borrow.Author.Tests.{ltb-true, ltb-false}
use Rattle.parts.specs.Parts.{filled_part}

left_part : (xs ys : List ℕ) (i : ℕ) → i < length xs → get_or (xs ++ ys) i 0 ≡ get_or xs i 0
left_part [] ys i h = absurd (omega arith)
left_part (x ∷ xs) ys zero h = refl
left_part (x ∷ xs) ys (suc i) h = left_part xs ys i (omega arith)

right_part : (xs ys : List ℕ) (i : ℕ) → length xs ≤ i → get_or (xs ++ ys) i 0 ≡ get_or ys (i - length xs) 0
right_part xs ys i h = let e : i ≡ length xs + (i - length xs) = omega arith in
    ap (λ (z : ℕ). get_or (xs ++ ys) z 0) e ∙ get_or-append-add xs ys (i - length xs) 0

repeated : (n i v : ℕ) → i < n → get_or (replicate n v) i 0 ≡ v
repeated zero i v h = absurd (omega arith)
repeated (suc n) zero v h = refl
repeated (suc n) (suc i) v h = repeated n i v (omega arith)

module _ (start end v : ℕ) (l : List ℕ) (order : start ≤ end) (room : end ≤ length l) where
  before_length : length (take start l) ≡ start
  before_length = length-take-le start l (omega arith)

  value_length : length (replicate {A = ℕ} (end - start) v) ≡ end - start
  value_length = length-replicate {A = ℕ} (end - start) v

  pub filled_length : length (filled_part start end v l) ≡ length l
  unfolding filled_part
  filled_length =
      let x = length-append (take start l) (replicate (end - start) v ++ drop end l) in
      let y = length-append (replicate (end - start) v) (drop end l) in
      omega (arith, before_length, x, y, value_length, length-drop end l)

  pub filled_in : (j : ℕ) → start ≤ j → j < end → get_or (filled_part start end v l) j 0 ≡ v
  unfolding filled_part
  filled_in j h k =
      right_part (take start l) (replicate (end - start) v ++ drop end l) j (omega (arith, before_length))
      ∙ left_part (replicate (end - start) v) (drop end l) (j - length (take start l)) (omega (arith, before_length, value_length))
      ∙ repeated (end - start) (j - length (take start l)) v (omega (arith, before_length))

  filled_before : (j : ℕ) → j < start → get_or (filled_part start end v l) j 0 ≡ get_or l j 0
  unfolding filled_part
  filled_before j h =
      left_part (take start l) (replicate (end - start) v ++ drop end l) j (omega (arith, before_length)) ∙ get_or-take start l j 0 h

  filled_after : (j : ℕ) → end ≤ j → get_or (filled_part start end v l) j 0 ≡ get_or l j 0
  unfolding filled_part
  filled_after j h =
      let q : end + (j - length (take start l) - length (replicate {A = ℕ} (end - start) v)) ≡ j = omega (arith, before_length, value_length) in
      right_part (take start l) (replicate (end - start) v ++ drop end l) j (omega (arith, before_length))
      ∙ right_part (replicate (end - start) v) (drop end l) (j - length (take start l)) (omega (arith, before_length, value_length))
      ∙ get_or-drop end l (j - length (take start l) - length (replicate {A = ℕ} (end - start) v)) 0 ∙ ap (λ (i : ℕ). get_or l i 0) q

  -- a place is in the part, or as it was
  pub filled_cases : (j : ℕ) → ((start ≤ j) × (j < end)) ⊎ (get_or (filled_part start end v l) j 0 ≡ get_or l j 0)
  filled_cases j = go (ltb j start) refl (ltb j end) refl
    where
      go : (s : Bool) → ltb j start ≡ s → (t : Bool) → ltb j end ≡ t → ((start ≤ j) × (j < end)) ⊎ (get_or (filled_part start end v l) j 0 ≡ get_or l j 0)
      go true p t q = inr (filled_before j (ltb-true j start p))
      go false p true q = inl (ltb-false j start p, ltb-true j end q)
      go false p false q = inr (filled_after j (ltb-false j end q))
