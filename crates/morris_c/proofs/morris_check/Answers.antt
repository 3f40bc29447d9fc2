-- `morris_c::morris_check` meets its contract: the number and the values of what `morris::check` answers. Assumes nothing.
use mathlib.Core.Path.{ap, ◌∙◌}
use Rattle.answers.specs.Answers.{Answer, number, value, passed_or_fails}
use Rattle.answers.proofs.Answering.{number_by, values_by}
use Rattle.morris_c.proofs.morris_check.Goals as goal

pub returns : goal.returns
returns c =
    let e = c.check.ensures in
    record {
      refusal = number_by passed_or_fails c.check.result _ c.checked.ensures.refusal ∙ ap number e;
      passed = c.checked.ensures.passed ∙ values_by passed_or_fails c.check.result 0 ∙ ap (λ (a : Answer). value a 0) e;
      index = c.checked.ensures.index ∙ values_by passed_or_fails c.check.result 1 ∙ ap (λ (a : Answer). value a 1) e;
    }
