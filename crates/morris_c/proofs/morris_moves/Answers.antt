-- `morris_c::morris_moves` meets its contract: the number and the value of what `morris::moves` answers, and its target. Assumes nothing.
use mathlib.Core.Path.{ap, ◌∙◌}
use mathlib.Core.List.{[], ◌∷◌}
use Prim.Native.Nat.{ℕ}
use Rattle.answers.specs.Answers.{Answer, number, value}
use Rattle.answers.proofs.Answering.{number_by, lone_value}
use Rattle.morris_c.proofs.morris_moves.Goals as goal

pub returns : goal.returns
returns c =
    let e = c.moves.ensures.answer in
    record {
      refusal = number_by (λ (n : ℕ). n ∷ []) c.moves.result _ c.one.ensures.refusal ∙ ap number e;
      moves = c.moves.ensures.list;
      count = lone_value c.moves.result _ c.one.ensures.value ∙ ap (λ (a : Answer). value a 0) e;
    }
