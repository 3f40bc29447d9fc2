-- `sets::without_lowest` meets its contract. Assumes nothing.
use Rattle.sets.proofs.Least.{lowest_apart}
use Rattle.sets.proofs.without_lowest.Goals as goal

pub returns : goal.returns
returns c = lowest_apart c.args.s c.ranges.s.fits c.requires
