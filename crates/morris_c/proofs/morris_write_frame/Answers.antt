-- `morris_c::morris_write_frame` meets its contract: the number and the value of what `morris::write_frame` answers, and its target. Assumes nothing.
use mathlib.Core.Path.{ap, ◌∙◌}
use mathlib.Core.List.{[], ◌∷◌}
use Prim.Native.Nat.{ℕ}
use Rattle.answers.specs.Answers.{Answer, number, value}
use Rattle.answers.proofs.Answering.{number_by, lone_value}
use Rattle.morris_c.proofs.morris_write_frame.Goals as goal

pub returns : goal.returns
returns c =
    let e = c.write_frame.ensures.answer in
    record {
      refusal = number_by (λ (n : ℕ). n ∷ []) c.write_frame.result _ c.one.ensures.refusal ∙ ap number e;
      frame = c.write_frame.ensures.target;
      written = lone_value c.write_frame.result _ c.one.ensures.value ∙ ap (λ (a : Answer). value a 0) e;
    }
