-- `representing::ring_from` meets its contract. Assumes nothing.
use borrow.Author.Tests.{eq-eqb, ne_eqb}
use native.Mathlib.Omega.{arith}
use Rattle.symmetry.specs.Symmetries.{ring_from}
use Rattle.representing.proofs.ring_from.Goals as goal

pub returns-then-g-eq1 : goal.returns-then-g-eq1
unfolding ring_from
returns-then-g-eq1 c = (rw (eq-eqb _ 1 c.if-g-eq1.true, ring_from), omega arith)

pub returns : goal.returns
unfolding ring_from
returns c = (rw (ne_eqb _ 1 c.if-g-eq1.false, ring_from), omega arith)
