-- Images and whole boards point by point: what stands at each point, how many points there are, and that no other values come in.
-- Assumes nothing.
use mathlib.Core.Path.{◌≡◌, refl, sym, ap, ◌∙◌, subst}
use mathlib.Core.List.{List, [], ◌∷◌, ◌++◌}
use Prim.Native.Nat.{ℕ, zero, suc, ◌-◌, ◌≤◌, ◌<◌}
use native.Mathlib.Omega.{arith}
use lib.ListN.{get_or, length, take, replicate, length-append, length-replicate}
use lib.Seq.{ext_get_or, take_at}
use Rattle.lists.proofs.Table.{rule, length_values}
use Rattle.board.specs.Board.{Values}
use Rattle.board.proofs.Sides.{value_le, values_all}
use Rattle.board.proofs.Counts.{values_append}
use Rattle.symmetry.specs.Symmetries.{source, image, whole}
use Rattle.symmetry.proofs.Group.{source_zero}

module _ (rings g : ℕ) (b : List ℕ) where
  pub image_length : length (image rings g b) ≡ length b
  unfolding image
  image_length = length_values (λ p. get_or b (source rings g p) 0) (length b) 0

  pub image_at : (p : ℕ) → p < length b → get_or (image rings g b) p 0 ≡ get_or b (source rings g p) 0
  unfolding image
  image_at p h = rule (λ p. get_or b (source rings g p) 0) (length b) p h

  -- a board is the image if each point agrees
  pub image_is : (c : List ℕ) → length c ≡ length b → ((p : ℕ) → p < length b → get_or c p 0 ≡ get_or b (source rings g p) 0) → c ≡ image rings g b
  image_is c l h =
      ext_get_or 0 c (image rings g b) (l ∙ sym image_length) (λ p m. let k = subst (λ (n : ℕ). p < n) l m in h p k ∙ sym (image_at p k))

  pub image_values : Values b → Values (image rings g b)
  unfolding image
  image_values v = values_all (λ p. get_or b (source rings g p) 0) (length b) 0 (λ p h. value_le b v (source rings g p))

-- symmetry 0 changes nothing
pub image_zero : (rings : ℕ) (b : List ℕ) → image rings 0 b ≡ b
image_zero rings b = sym (image_is rings 0 b b refl (λ p h. ap (λ (q : ℕ). get_or b q 0) (sym (source_zero rings p))))

-- beyond a board's end there are zeros, and vacant points after it change nothing
pub vacant_at : (n p : ℕ) → ◌≡◌ {A = ℕ} (get_or (replicate n 0) p 0) 0
vacant_at zero p = refl
vacant_at (suc n) zero = refl
vacant_at (suc n) (suc p) = vacant_at n p

extended_at : (b : List ℕ) (n p : ℕ) → get_or (b ++ replicate n 0) p 0 ≡ get_or b p 0
extended_at [] n p = vacant_at n p
extended_at (x ∷ b) n zero = refl
extended_at (x ∷ b) n (suc p) = extended_at b n p

vacant_values : (n : ℕ) → Values (replicate n 0)
vacant_values zero = tt
vacant_values (suc n) = (omega arith, vacant_values n)

module _ (b : List ℕ) where
  pub whole_at : (p : ℕ) → get_or (whole b) p 0 ≡ get_or b p 0
  unfolding whole
  whole_at p = extended_at b (24 - length b) p

  pub whole_length : length b ≤ 24 → length (whole b) ≡ 24
  unfolding whole
  whole_length h = omega (arith, length-append b (replicate (24 - length b) 0), length-replicate {A = ℕ} (24 - length b) 0)

  pub whole_values : Values b → Values (whole b)
  unfolding whole
  whole_values v = values_append b (replicate (24 - length b) 0) v (vacant_values (24 - length b))

  -- the points in use of a whole board are the board
  pub take_whole : (n : ℕ) → length b ≡ n → take n (whole b) ≡ b
  unfolding whole
  take_whole n e = take_at b (replicate (24 - length b) 0) n e
