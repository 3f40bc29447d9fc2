-- `morris_c::morris_best_move` meets its contract: the number and the values of what `morris::best_move` answers. Assumes nothing.
use mathlib.Core.Path.{ap, ◌∙◌}
use Rattle.answers.specs.Answers.{Answer, number, value, move_values}
use Rattle.answers.proofs.Answering.{number_by, values_by}
use Rattle.morris_c.proofs.morris_best_move.Goals as goal

pub returns : goal.returns
returns c =
    let e = c.best_move.ensures in
    record {
      refusal = number_by move_values c.best_move.result _ c.chosen.ensures.refusal ∙ ap number e;
      number = c.chosen.ensures.number ∙ values_by move_values c.best_move.result 0 ∙ ap (λ (a : Answer). value a 0) e;
      entry = c.chosen.ensures.entry ∙ values_by move_values c.best_move.result 1 ∙ ap (λ (a : Answer). value a 1) e;
    }
