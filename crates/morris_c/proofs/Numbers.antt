-- A fill's promise, said of the number that it returns: 0 is no refusal's number, so the number tells the whole answer. Assumes nothing.
use mathlib.Core.Path.{◌≡◌, refl, ap, ◌∙◌}
use mathlib.Core.Bool.{Bool}
use mathlib.Core.List.{List, [], ◌∷◌}
use Prim.Native.Nat.{ℕ, zero, suc}
use Rattle.refusals.specs.Refusals.{Pick, pick, too_deep, refusal}
use Rattle.answers.specs.Answers.{Answer, number, answer}
use Rattle.fill_calls.specs.Fills.{Promise}

again : (n : ℕ) → answer (number (answer n [])) [] ≡ answer n []
again zero = refl
again (suc n) = refl

pub told : {picks : List Pick} {fill : Bool → Type 0} {before after : List ℕ} {a : Answer} (n : ℕ) → n ≡ number a → Promise picks fill before after a
    → Promise picks fill before after (answer n [])
told {picks = picks} {a = a} n e p = record {
  deep = p.deep;
  answer_is =
      ap (λ (m : ℕ). answer m []) e
      ∙ ap (λ (b : Answer). answer (number b) []) p.answer_is
      ∙ again (refusal (pick too_deep p.deep ∷ picks));
  left = p.left;
}
