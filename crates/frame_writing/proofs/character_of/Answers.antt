-- `frame_writing::character_of` meets its contract. Assumes nothing.
use borrow.Author.Tests.{le-ltb, lt-ltb}
use Rattle.frames.specs.Frame.{character_of}
use Rattle.frame_writing.proofs.character_of.Goals as goal

pub returns-then-d-lt10 : goal.returns-then-d-lt10
unfolding character_of
returns-then-d-lt10 c = simp (lt-ltb _ _ c.if-d-lt10.true)

pub returns : goal.returns
unfolding character_of
returns c = simp (le-ltb _ _ c.if-d-lt10.false)
