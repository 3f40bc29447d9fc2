-- `stepping::ends` meets its contract. Assumes nothing.
use lib.Bits.{and_le_l}
use Rattle.stepping.proofs.RunEnds.{ends_are}
use Rattle.stepping.proofs.ends.Goals as goal

pub overflow_sub-result : goal.overflow_sub-result
overflow_sub-result c = and_le_l _ _

pub returns : goal.returns
returns c = ends_are c.args.s c.requires
