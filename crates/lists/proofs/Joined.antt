-- `range` and `each` in two parts. Assumes nothing.
use mathlib.Core.Path.{◌≡◌, refl, sym, ap, ap₂, ◌∙◌}
use mathlib.Core.List.{List, [], ◌∷◌, ◌++◌, append_assoc}
use Prim.Native.Nat.{ℕ, zero, suc, ◌+◌}
use native.Mathlib.Nat.{add-zero, zero-add, add-suc, suc-add}
use Rattle.lists.specs.Lists.{range, each}

pub range_split : (a d n : ℕ) → range a (d + n) ≡ range a d ++ range (a + d) n
range_split a zero n = ap₂ range (sym (add-zero a)) (zero-add n)
range_split a (suc d) n =
    let e : suc a + d ≡ a + suc d = suc-add a d ∙ sym (add-suc a d) in
    ap (range a) (suc-add d n) ∙ ap (λ (l : List ℕ). a ∷ l) (range_split (suc a) d n ∙ ap (λ (k : ℕ). range (suc a) d ++ range k n) e)

pub each_append : {A B : Type 0} (f : A → List B) (xs ys : List A) → each f (xs ++ ys) ≡ each f xs ++ each f ys
each_append f [] ys = refl
each_append f (x ∷ xs) ys = ap (λ (l : List _). f x ++ l) (each_append f xs ys) ∙ sym (append_assoc (f x) (each f xs) (each f ys))
