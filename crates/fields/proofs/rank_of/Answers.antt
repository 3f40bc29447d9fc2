-- `fields::rank_of` meets its contract: the value of the call's answer. Assumes nothing.
use mathlib.Core.Path.{◌≡◌, refl, ap, ◌∙◌}
use Prim.Native.Nat.{ℕ}
use Rattle.std.specs.Prelude.{Result, Ok, Err}
use Rattle.std.specs.Result.{result_unwrap_or}
use Rattle.answers.specs.declared.Refusal.{Refusal}
use Rattle.answers.specs.Answers.{Answer, value, ranked}
use Rattle.fields.proofs.rank_of.Goals as goal

unwrapped : (a : Result ℕ Refusal) → result_unwrap_or a 0 ≡ value (ranked a) 0
unwrapped (Ok r) = refl
unwrapped (Err e) = refl

pub returns : goal.returns
returns c = c.unwrap_or.ensures ∙ unwrapped c.rank.result ∙ ap (λ (a : Answer). value a 0) c.rank.ensures
