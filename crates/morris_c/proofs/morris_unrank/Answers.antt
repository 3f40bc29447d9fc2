-- `morris_c::morris_unrank` meets its contract: the number of what `morris::unrank` answers, and its target. Assumes nothing.
use mathlib.Core.Path.{ap, ◌∙◌}
use mathlib.Core.List.{[]}
use Rattle.answers.specs.Answers.{number}
use Rattle.answers.proofs.Answering.{number_by}
use Rattle.morris_c.proofs.morris_unrank.Goals as goal

pub returns : goal.returns
returns c =
    let e = c.unrank.ensures.answer in
    record { refusal = number_by (λ (u : Unit {0}). []) c.unrank.result _ c.done.ensures ∙ ap number e; target = c.unrank.ensures.target }
