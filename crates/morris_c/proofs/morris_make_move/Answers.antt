-- `morris_c::morris_make_move` meets its contract: the number of what `morris::make_move` answers, and its target. Assumes nothing.
use mathlib.Core.Path.{ap, ◌∙◌}
use mathlib.Core.List.{[]}
use Rattle.answers.specs.Answers.{number}
use Rattle.answers.proofs.Answering.{number_by}
use Rattle.morris_c.proofs.morris_make_move.Goals as goal

pub returns : goal.returns
returns c =
    let e = c.make_move.ensures.answer in
    record { refusal = number_by (λ (u : Unit {0}). []) c.make_move.result _ c.done.ensures ∙ ap number e; target = c.make_move.ensures.target }
