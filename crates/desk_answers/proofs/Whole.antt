-- However the input is cut into blocks, what is written is the answers to its lines, one after the other: neither the cutting nor the 65 bytes that are
-- kept of a line show. Assumes nothing.
use mathlib.Core.Path.{◌≡◌, refl, sym, ap, ap₂, ◌∙◌}
use mathlib.Core.Bool.{Bool, true, false, cond}
use mathlib.Core.List.{List, [], ◌∷◌, ◌++◌, append_assoc, append-nil, map}
use Prim.Native.Nat.{ℕ}
use native.Mathlib.Omega.{arith}
use lib.Dec.{eqb, ltb}
use lib.ListN.{length, take, length-take}
use lib.Seq.{take_all, take-append-le, take-take}
use borrow.Author.Tests.{ltb-true, ltb-false}
use Rattle.text.specs.Text.{line_feed}
use Rattle.lines.specs.Lines.{ended_lines, left, last}
use Rattle.keeping.specs.Kept.{most_kept, keep_byte}
use Rattle.desk_answers.specs.Lines.{at_head, lines_of}
use Rattle.replies.specs.Replies.{answers}
use Rattle.desk_answers.specs.Session.{joined, written}
use Rattle.desk_answers.proofs.FirstBytes.{first_decide}
use Rattle.lines.proofs.Blocks.{ended_append, left_append, answers_append}

-- the same with whole lines
unfoldable ended_whole : List ℕ → List ℕ → List (List ℕ)
ended_whole kept [] = []
ended_whole kept (c ∷ cs) = cond (eqb c line_feed) (kept ∷ ended_whole [] cs) (ended_whole (kept ++ (c ∷ [])) cs)

unfoldable left_whole : List ℕ → List ℕ → List ℕ
left_whole kept [] = kept
left_whole kept (c ∷ cs) = cond (eqb c line_feed) (left_whole [] cs) (left_whole (kept ++ (c ∷ [])) cs)

cut_keep : (l : List ℕ) (c : ℕ) → keep_byte (take most_kept l) c ≡ take most_kept (l ++ (c ∷ []))
unfolding keep_byte
cut_keep l c = go (ltb (length l) most_kept) refl
  where
    go : (t : Bool) → ltb (length l) most_kept ≡ t → take most_kept (take most_kept l ++ (c ∷ [])) ≡ take most_kept (l ++ (c ∷ []))
    go true e =
        let h = ltb-true (length l) most_kept e in
        ap (λ (x : List ℕ). take most_kept (x ++ (c ∷ []))) (take_all most_kept l (omega arith))
    go false e =
        let h = ltb-false (length l) most_kept e in
        take-append-le most_kept (take most_kept l) (c ∷ []) (omega (arith, length-take most_kept l)) ∙ take-take most_kept most_kept l (omega arith)
        ∙ sym (take-append-le most_kept l (c ∷ []) h)

cut_ended : (l cs : List ℕ) → ended_lines (take most_kept l) cs ≡ map (take most_kept) (ended_whole l cs)
unfolding ended_lines ended_whole
cut_ended l [] = refl
cut_ended l (c ∷ cs) = go (eqb c line_feed) (cut_ended [] cs) (ap (λ (x : List ℕ). ended_lines x cs) (cut_keep l c) ∙ cut_ended (l ++ (c ∷ [])) cs)
  where
    go : (t : Bool) → ended_lines [] cs ≡ map (take most_kept) (ended_whole [] cs)
        → ended_lines (keep_byte (take most_kept l) c) cs ≡ map (take most_kept) (ended_whole (l ++ (c ∷ [])) cs)
        → cond t (take most_kept l ∷ ended_lines [] cs) (ended_lines (keep_byte (take most_kept l) c) cs)
        ≡ map (take most_kept) (cond t (l ∷ ended_whole [] cs) (ended_whole (l ++ (c ∷ [])) cs))
    go true p q = ap (λ (x : List (List ℕ)). take most_kept l ∷ x) p
    go false p q = q

cut_left : (l cs : List ℕ) → left (take most_kept l) cs ≡ take most_kept (left_whole l cs)
unfolding left left_whole
cut_left l [] = refl
cut_left l (c ∷ cs) = go (eqb c line_feed) (cut_left [] cs) (ap (λ (x : List ℕ). left x cs) (cut_keep l c) ∙ cut_left (l ++ (c ∷ [])) cs)
  where
    go : (t : Bool) → left [] cs ≡ take most_kept (left_whole [] cs) → left (keep_byte (take most_kept l) c) cs ≡ take most_kept (left_whole (l ++ (c ∷ [])) cs)
        → cond t (left [] cs) (left (keep_byte (take most_kept l) c) cs) ≡ take most_kept (cond t (left_whole [] cs) (left_whole (l ++ (c ∷ [])) cs))
    go true p q = p
    go false p q = q

cut_last : (l : List ℕ) → last (take most_kept l) ≡ map (take most_kept) (last l)
unfolding last
cut_last [] = refl
cut_last (c ∷ l) = refl

-- what was kept stands before the first line
unfoldable attach : List ℕ → List (List ℕ) → List (List ℕ)
attach l [] = last l
attach l (m ∷ ms) = (l ++ m) ∷ ms

attach_nil : (ls : List (List ℕ)) → attach [] ls ≡ ls
unfolding attach last
attach_nil [] = refl
attach_nil (l ∷ ls) = refl

last_longer : (l : List ℕ) (c : ℕ) → last (l ++ (c ∷ [])) ≡ (l ++ (c ∷ [])) ∷ []
unfolding last
last_longer [] c = refl
last_longer (x ∷ l) c = refl

attach_before : (l : List ℕ) (c : ℕ) (ls : List (List ℕ)) → attach (l ++ (c ∷ [])) ls ≡ attach l (at_head c ls)
unfolding attach at_head
attach_before l c [] = last_longer l c
attach_before l c (m ∷ ms) = ap (λ (x : List ℕ). x ∷ ms) (append_assoc l (c ∷ []) m)

split_whole : (l cs : List ℕ) → ended_whole l cs ++ last (left_whole l cs) ≡ attach l (lines_of cs)
unfolding ended_whole left_whole lines_of attach
split_whole l [] = refl
split_whole l (c ∷ cs) =
    go (eqb c line_feed) (split_whole [] cs ∙ attach_nil (lines_of cs)) (split_whole (l ++ (c ∷ [])) cs ∙ attach_before l c (lines_of cs))
  where
    go : (t : Bool) → ended_whole [] cs ++ last (left_whole [] cs) ≡ lines_of cs
        → ended_whole (l ++ (c ∷ [])) cs ++ last (left_whole (l ++ (c ∷ [])) cs) ≡ attach l (at_head c (lines_of cs))
        → cond t (l ∷ ended_whole [] cs) (ended_whole (l ++ (c ∷ [])) cs) ++ last (cond t (left_whole [] cs) (left_whole (l ++ (c ∷ [])) cs))
        ≡ attach l (cond t ([] ∷ lines_of cs) (at_head c (lines_of cs)))
    go true p q = ap₂ (λ (x : List ℕ) (y : List (List ℕ)). x ∷ y) (sym (append-nil l)) p
    go false p q = q

module _ (tablebase : List ℕ) where
  -- how the input is cut into blocks does not show
  blocks_join : (kept : List ℕ) (bs : List (List ℕ)) → written tablebase kept bs ≡ answers tablebase
      (ended_lines kept (joined bs) ++ last (left kept (joined bs)))
  unfolding written joined ended_lines left
  blocks_join kept [] = refl
  blocks_join kept (b ∷ bs) =
      let j : List ℕ = joined bs in
      let k : List ℕ = left kept b in
      ap (λ (x : List ℕ). answers tablebase (ended_lines kept b) ++ x) (blocks_join k bs)
      ∙ sym (answers_append tablebase (ended_lines kept b) (ended_lines k j ++ last (left k j)))
      ∙ ap (answers tablebase) (sym (append_assoc (ended_lines kept b) (ended_lines k j) (last (left k j))))
      ∙ ap₂ (λ (x : List (List ℕ)) (y : List ℕ). answers tablebase (x ++ last y)) (sym (ended_append kept b j)) (sym (left_append kept b j))

  -- nor do the 65 bytes that are kept of a line
  cut_answers : (ls : List (List ℕ)) → answers tablebase (map (take most_kept) ls) ≡ answers tablebase ls
  unfolding answers
  cut_answers [] = refl
  cut_answers (l ∷ ls) = ap₂ (λ (x y : List ℕ). x ++ y) (first_decide tablebase l) (cut_answers ls)

  -- however the input comes in blocks, what is written is the answers to its lines
  pub blocks_answered : (bs : List (List ℕ)) → written tablebase [] bs ≡ answers tablebase (lines_of (joined bs))
  blocks_answered bs =
      let j : List ℕ = joined bs in
      let es = ended_whole [] j in
      let ls = last (left_whole [] j) in
      blocks_join [] bs
      ∙ ap₂ (λ (x y : List (List ℕ)). answers tablebase (x ++ y)) (cut_ended [] j) (ap last (cut_left [] j) ∙ cut_last (left_whole [] j))
      ∙ answers_append tablebase (map (take most_kept) es) (map (take most_kept) ls)
      ∙ ap₂ (λ (x y : List ℕ). x ++ y) (cut_answers es) (cut_answers ls)
      ∙ sym (answers_append tablebase es ls)
      ∙ ap (answers tablebase) (split_whole [] j ∙ attach_nil (lines_of j))
