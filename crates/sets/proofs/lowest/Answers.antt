-- `sets::lowest` meets its contract: below the lowest digit that is 1 there are only zeros. Assumes nothing.
use mathlib.Core.Path.{sym}
use native.Mathlib.Omega.{arith}
use lib.Count.{trailing_le}
use Rattle.sets.proofs.Elements.{lowest_is, lowest_low}
use Rattle.sets.proofs.lowest.Goals as goal

pub overflow_cast-result : goal.overflow_cast-result
overflow_cast-result c = omega (arith, trailing_le 32 c.args.s)

pub returns : goal.returns
returns c =
    let s = c.args.s in
    let e = lowest_is s c.ranges.s.fits c.requires in
    (sym e, omega (arith, e, lowest_low s c.ranges.s.fits c.requires))
