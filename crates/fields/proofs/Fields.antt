-- The fields of a board's line, by what the calls answer. Assumes nothing.
use Rattle.std.specs.Prelude.{Option, None}
use mathlib.Core.Path.{◌≡◌, refl, sym, ap, ◌∙◌}
use mathlib.Core.Bool.{Bool, true, false, not, false≢true}
use Prim.Native.Nat.{ℕ}
use lib.Dec.{eqb}
use Rattle.answers.specs.Answers.{Answer}
use Rattle.fields.specs.Fields.{field_of, on_one_ring}

-- what is shown on one ring, and on more
module _ (rings : ℕ) (field : Option ℕ) where
  pub shown_here : false ≡ not (eqb rings 1) → field ≡ on_one_ring rings field
  shown_here e = go (eqb rings 1) e
    where
      go : (t : Bool) → false ≡ not t → field ≡ elim t [ true ↦ field | false ↦ None ]
      go true e = refl
      go false e = absurd (false≢true e)

  pub absent_elsewhere : true ≡ not (eqb rings 1) → None ≡ on_one_ring rings field
  absent_elsewhere e = go (eqb rings 1) e
    where
      go : (t : Bool) → true ≡ not t → ◌≡◌ {A = Option ℕ} None (elim t [ true ↦ field | false ↦ None ])
      go true e = absurd (false≢true (sym e))
      go false e = refl

-- what a call's answer shows on one ring, once the answer is known
pub answer_shown : {A : Type 0} (read : A → Answer) (rings : ℕ) {call : Answer} {absent : Bool} {a b : A} → absent ≡ false → absent ≡ not (eqb rings 1)
    → read a ≡ call → a ≡ b → field_of (read b) ≡ on_one_ring rings (field_of call)
answer_shown read rings {call} here e f g =
    sym (ap (λ x. field_of (read x)) g) ∙ ap field_of f ∙ shown_here rings (field_of call) (sym here ∙ e)
