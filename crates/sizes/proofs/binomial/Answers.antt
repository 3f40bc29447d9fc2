-- `sizes::binomial` meets its contract: the constant table's rule. Assumes nothing.
use Rattle.sizes.proofs.Rows.{binomials}
use Rattle.sizes.proofs.binomial.Goals as goal

pub returns : goal.returns
returns c = binomials.at c.args.n c.args.k c.requires.0 c.requires.1
