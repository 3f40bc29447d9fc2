-- `morris_c::morris_fill` meets its contract: the promise of `morris::fill`, said of the number. Assumes nothing.
use mathlib.Core.List.{[]}
use Rattle.answers.proofs.Answering.{number_by}
use Rattle.morris_c.proofs.Numbers.{told}
use Rattle.morris_c.proofs.morris_fill.Goals as goal

pub returns : goal.returns
returns c = told _ (number_by (λ (u : Unit {0}). []) c.fill.result _ c.done.ensures) c.fill.ensures
