-- Lines block by block: what a byte does, a block after a block, and the loop over a block's bytes. Assumes nothing.
use mathlib.Core.Path.{◌≡◌, refl, sym, ap, subst, ◌∙◌}
use mathlib.Core.Bool.{Bool, true, false, cond}
use mathlib.Core.List.{List, [], ◌∷◌, ◌++◌, append_assoc, append-nil}
use Prim.Native.Nat.{ℕ, zero, suc, ◌+◌, ◌*◌, ◌≤◌, ◌<◌}
use native.Mathlib.Nat.{zero-add}
use native.Mathlib.Omega.{arith}
use lib.Dec.{eqb}
use lib.ListN.{length, get_or, drop, take}
use lib.Seq.{drop-cons, drop-length, sets}
use borrow.Author.Tests.{eq-eqb, ne_eqb}
use Rattle.lists.proofs.Writing.{Writing, writing_none, writing_all, part_written}
use Rattle.text.specs.Text.{line_feed}
use Rattle.text.specs.Inner.Room.{most_bytes}
use Rattle.keeping.specs.Kept.{keep_byte}
use Rattle.lines.specs.Lines.{ended_lines, left, last}
use Rattle.replies.specs.Replies.{answer_of, answers}

-- a byte that ends a line, and one that does not
module _ (kept : List ℕ) (c : ℕ) where
  pub byte_ends : c ≡ line_feed → (ended_lines kept (c ∷ []) ≡ kept ∷ []) × (left kept (c ∷ []) ≡ [])
  unfolding ended_lines left
  byte_ends e = (simp (eq-eqb c line_feed e), simp (eq-eqb c line_feed e))

  pub byte_kept : (c ≡ line_feed → ⊥) → (ended_lines kept (c ∷ []) ≡ []) × (left kept (c ∷ []) ≡ keep_byte kept c)
  unfolding ended_lines left
  byte_kept e = (simp (ne_eqb c line_feed e), simp (ne_eqb c line_feed e))

-- a block after a block
pub ended_append : (kept a b : List ℕ) → ended_lines kept (a ++ b) ≡ ended_lines kept a ++ ended_lines (left kept a) b
unfolding ended_lines left
ended_append kept [] b = refl
ended_append kept (c ∷ a) b = go (eqb c line_feed) (ended_append [] a b) (ended_append (keep_byte kept c) a b)
  where
    go : (t : Bool) → ended_lines [] (a ++ b) ≡ ended_lines [] a ++ ended_lines (left [] a) b
        → ended_lines (keep_byte kept c) (a ++ b) ≡ ended_lines (keep_byte kept c) a ++ ended_lines (left (keep_byte kept c) a) b
        → cond t (kept ∷ ended_lines [] (a ++ b)) (ended_lines (keep_byte kept c) (a ++ b))
        ≡ cond t (kept ∷ ended_lines [] a) (ended_lines (keep_byte kept c) a) ++ ended_lines (cond t (left [] a) (left (keep_byte kept c) a)) b
    go true p q = ap (λ (x : List (List ℕ)). kept ∷ x) p
    go false p q = q

pub left_append : (kept a b : List ℕ) → left kept (a ++ b) ≡ left (left kept a) b
unfolding left
left_append kept [] b = refl
left_append kept (c ∷ a) b = go (eqb c line_feed) (left_append [] a b) (left_append (keep_byte kept c) a b)
  where
    go : (t : Bool) → left [] (a ++ b) ≡ left (left [] a) b → left (keep_byte kept c) (a ++ b) ≡ left (left (keep_byte kept c) a) b
        → cond t (left [] (a ++ b)) (left (keep_byte kept c) (a ++ b)) ≡ left (cond t (left [] a) (left (keep_byte kept c) a)) b
    go true p q = p
    go false p q = q

-- what is kept at the end
pub last_none : (l : List ℕ) → last (take 0 l) ≡ []
unfolding last
last_none l = refl

pub last_some : (l : List ℕ) (n : ℕ) → (n ≡ 0 → ⊥) → n ≤ length l → last (take n l) ≡ take n l ∷ []
unfolding last
last_some [] n z h = absurd (z (omega arith))
last_some (c ∷ l) zero z h = absurd (z refl)
last_some (c ∷ l) (suc n) z h = refl

module _ (tablebase : List ℕ) where
  pub answers_append : (a b : List (List ℕ)) → answers tablebase (a ++ b) ≡ answers tablebase a ++ answers tablebase b
  unfolding answers
  answers_append [] b = refl
  answers_append (l ∷ a) b =
      ap (λ (x : List ℕ). answer_of tablebase l ++ x) (answers_append a b)
      ∙ sym (append_assoc (answer_of tablebase l) (answers tablebase a) (answers tablebase b))

  pub answers_one : (l : List ℕ) → answers tablebase (l ∷ []) ≡ answer_of tablebase l
  unfolding answers
  answers_one l = append-nil (answer_of tablebase l)

  pub answers_none : answers tablebase [] ≡ []
  unfolding answers
  answers_none = refl

  -- a block's loop: what is left to be done makes of the state what is wanted
  pub record Feeding (block kept₀ out₀ : List ℕ) (i : ℕ) (kept out : List ℕ) (used : ℕ) : Type 0 where
    pub rest : left kept (drop i block) ≡ left kept₀ block
    pub done : Writing out₀ 0 (answers tablebase (ended_lines kept₀ block)) out used (answers tablebase (ended_lines kept (drop i block)))
    pub within : used ≤ most_bytes * i

  pub feeding_none : (block kept out : List ℕ) → Feeding block kept out 0 kept out 0
  feeding_none block kept out = record { rest = refl; done = writing_none out 0 (answers tablebase (ended_lines kept block)); within = omega arith }

  module _ {block kept₀ out₀ : List ℕ} {i : ℕ} {kept out : List ℕ} {used : ℕ} (w : Feeding block kept₀ out₀ i kept out used) where
    -- a byte more
    pub feeding_more : (kept' out' : List ℕ) (used' : ℕ) → i < length block → kept' ≡ left kept (get_or block i 0 ∷ [])
        → (used' ≡ used + length (answers tablebase (ended_lines kept (get_or block i 0 ∷ []))))
        × ((used' ≤ used + most_bytes) × (out' ≡ sets out used (answers tablebase (ended_lines kept (get_or block i 0 ∷ [])))))
        → Feeding block kept₀ out₀ (i + 1) kept' out' used'
    feeding_more kept' out' used' l e (u, (b, o)) =
        let c : List ℕ = get_or block i 0 ∷ [] in
        let k : suc i ≡ i + 1 = omega arith in
        let d : drop i block ≡ c ++ drop (i + 1) block = drop-cons block i 0 l ∙ ap (λ (j : ℕ). get_or block i 0 ∷ drop j block) k in
        let r : left kept (drop i block) ≡ left kept' (drop (i + 1) block) =
        ap (left kept) d ∙ left_append kept c (drop (i + 1) block) ∙ ap (λ (x : List ℕ). left x (drop (i + 1) block)) (sym e) in
        let f : List ℕ = answers tablebase (ended_lines kept c) in
        let g : List ℕ = answers tablebase (ended_lines kept' (drop (i + 1) block)) in
        let a : answers tablebase (ended_lines kept (drop i block)) ≡ f ++ g =
        ap (λ (x : List ℕ). answers tablebase (ended_lines kept x)) d ∙ ap (answers tablebase) (ended_append kept c (drop (i + 1) block))
        ∙ answers_append (ended_lines kept c) (ended_lines (left kept c) (drop (i + 1) block))
        ∙ ap (λ (x : List ℕ). f ++ answers tablebase (ended_lines x (drop (i + 1) block))) (sym e) in
        record {
          rest = sym r ∙ w.rest;
          done = part_written f g (subst (λ (x : List ℕ). Writing out₀ 0 (answers tablebase (ended_lines kept₀ block)) out used x) a w.done) u o;
          within = omega (arith, w.within);
        }

    -- all bytes
    pub feeding_all : i ≡ length block
        → (kept ≡ left kept₀ block) × (used ≡ length (answers tablebase (ended_lines kept₀ block))) ×
        (out ≡ sets out₀ 0 (answers tablebase (ended_lines kept₀ block)))
    unfolding left ended_lines answers
    feeding_all e =
        let d : drop i block ≡ [] = ap (λ (j : ℕ). drop j block) e ∙ drop-length block in
        let v = writing_all (rw d at w.done) in
        (rw d at w.rest, v.1 ∙ zero-add _, v.0)
