-- `frame_reading::frame_wrong` meets its contract: the length decides, or the characters. Assumes nothing.
use mathlib.Core.Path.{sym, ap, ◌∙◌}
use mathlib.Core.Bool.{Bool, ◌||◌}
use Rattle.frames.specs.Frame.{any_outside, frame_wrong}
use Rattle.frame_reading.proofs.frame_wrong.Goals as goal

pub returns-then-n : goal.returns-then-n
unfolding frame_wrong
returns-then-n c = sym (ap (λ (t : Bool). t || any_outside c.args.frame.now) c.if-n.true)

pub returns : goal.returns
unfolding frame_wrong
returns c =
    c.any_outside.ensures ∙ sym (ap (λ (t : Bool). t || any_outside c.args.frame.now) c.if-n.false)
