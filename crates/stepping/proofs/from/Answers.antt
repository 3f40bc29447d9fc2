-- `stepping::from` meets its contract: what is shifted back was there before. Assumes nothing.
use native.Mathlib.Nat.{mod-eq_of_lt}
use native.Mathlib.Omega.{arith}
use lib.Pow.{split}
use Rattle.stepping.proofs.from.Goals as goal

pub returns : goal.returns
returns c = mod-eq_of_lt (omega (arith, c.ranges.s.fits, split c.args.s c.args.n))
