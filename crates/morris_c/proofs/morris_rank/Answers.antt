-- `morris_c::morris_rank` meets its contract: the number and the value of what `morris::rank` answers. Assumes nothing.
use mathlib.Core.Path.{ap, ◌∙◌}
use mathlib.Core.List.{[], ◌∷◌}
use Prim.Native.Nat.{ℕ}
use Rattle.answers.specs.Answers.{Answer, number, value}
use Rattle.answers.proofs.Answering.{number_by, lone_value}
use Rattle.morris_c.proofs.morris_rank.Goals as goal

pub returns : goal.returns
returns c =
    let e = c.rank.ensures in
    record {
      refusal = number_by (λ (n : ℕ). n ∷ []) c.rank.result _ c.one.ensures.refusal ∙ ap number e;
      rank = lone_value c.rank.result _ c.one.ensures.value ∙ ap (λ (a : Answer). value a 0) e;
    }
