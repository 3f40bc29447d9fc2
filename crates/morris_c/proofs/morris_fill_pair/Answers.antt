-- `morris_c::morris_fill_pair` meets its contract: the promise of `morris::fill_pair`, said of the number. Assumes nothing.
use mathlib.Core.List.{[]}
use Rattle.answers.proofs.Answering.{number_by}
use Rattle.morris_c.proofs.Numbers.{told}
use Rattle.morris_c.proofs.morris_fill_pair.Goals as goal

pub returns : goal.returns
returns c = told _ (number_by (λ (u : Unit {0}). []) c.fill_pair.result _ c.done.ensures) c.fill_pair.ensures
