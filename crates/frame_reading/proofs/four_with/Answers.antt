-- `frame_reading::four_with` meets its contract: the set of one byte. Assumes nothing.
use mathlib.Core.Path.{sym, ◌∙◌}
use Rattle.frame_reading.proofs.Sets.{set_one}
use Rattle.frame_reading.proofs.four_with.Goals as goal

pub returns : goal.returns
returns c = (c.four_set.ensures.0 ∙ sym (set_one c.args.v c.args.b), c.four_set.ensures.1)
