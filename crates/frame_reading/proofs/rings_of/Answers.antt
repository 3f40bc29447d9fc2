-- `frame_reading::rings_of` meets its contract: the first byte. Assumes nothing.
use mathlib.Core.Path.{sym, ◌∙◌}
use Rattle.frames.proofs.Characters.{frame_right}
use Rattle.frame_reading.proofs.Sets.{rings_first}
use Rattle.frame_reading.proofs.rings_of.Goals as goal

pub returns : goal.returns
returns c =
    c.byte_at.ensures ∙ sym (rings_first c.args.frame.now (frame_right c.args.frame.now c.requires).some)

pub byte_at-requires : goal.byte_at-requires
byte_at-requires c = let w = frame_right c.args.frame.now c.requires in (w.some, w.characters)
