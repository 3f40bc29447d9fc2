-- `morris_c::morris_read_frame` meets its contract: the number and the values of what `morris::read_frame` answers. Assumes nothing.
use mathlib.Core.Path.{ap, ◌∙◌}
use Rattle.answers.specs.Answers.{Answer, number, value, frame_values}
use Rattle.answers.proofs.Answering.{number_by, values_by}
use Rattle.morris_c.proofs.morris_read_frame.Goals as goal

pub returns : goal.returns
returns c =
    let e = c.read_frame.ensures in
    record {
      refusal = number_by frame_values c.read_frame.result _ c.frame_read.ensures.refusal ∙ ap number e;
      rings = c.frame_read.ensures.rings ∙ values_by frame_values c.read_frame.result 0 ∙ ap (λ (a : Answer). value a 0) e;
      mover = c.frame_read.ensures.mover ∙ values_by frame_values c.read_frame.result 1 ∙ ap (λ (a : Answer). value a 1) e;
      opponent = c.frame_read.ensures.opponent ∙ values_by frame_values c.read_frame.result 2 ∙ ap (λ (a : Answer). value a 2) e;
    }
