-- `sets::take_lowest` meets its contract. Assumes nothing.
use Rattle.sets.proofs.Least.{taken}
use Rattle.sets.proofs.take_lowest.Goals as goal

pub returns : goal.returns
returns c =
    taken c.args.s c.lowest.result c.without_lowest.result c.ranges.s.fits c.requires c.lowest.ensures.0
    c.without_lowest.ensures
