-- `frame_reading::value_of` meets its contract. Assumes nothing.
use native.Mathlib.Omega.{arith}
use borrow.Author.Tests.{le-ltb, lt-ltb}
use Rattle.frames.specs.Frame.{value_of}
use Rattle.frames.proofs.Characters.{inside}
use Rattle.frame_reading.proofs.value_of.Goals as goal

pub overflow_sub-result : goal.overflow_sub-result
overflow_sub-result c = omega (arith, (inside c.args.c c.requires).low)

pub returns-then-c-lt97 : goal.returns-then-c-lt97
unfolding value_of
returns-then-c-lt97 c =
    simp (lt-ltb _ _ c.if-c-lt97.true) (omega (arith, (inside c.args.c c.requires).gap c.if-c-lt97.true))

pub returns : goal.returns
unfolding value_of
returns c = simp (le-ltb _ _ c.if-c-lt97.false) (omega (arith, (inside c.args.c c.requires).high))
