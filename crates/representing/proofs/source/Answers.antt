-- `representing::source` meets its contract. Assumes nothing.
use borrow.Author.Tests.{lt-ltb, le-ltb}
use native.Mathlib.Omega.{arith}
use Rattle.symmetry.specs.Symmetries.{source}
use Rattle.representing.proofs.source.Goals as goal

pub returns-then-point-rings : goal.returns-then-point-rings
unfolding source
returns-then-point-rings c =
    (rw (c.ring_from.ensures.0, c.place_from.ensures.0, lt-ltb _ _ c.if-point-rings.true, source), omega arith)

pub returns : goal.returns
unfolding source
returns c = (rw (le-ltb _ _ c.if-point-rings.false, source), omega arith)
