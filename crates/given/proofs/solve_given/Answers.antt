-- `given::solve_given` meets its contract. Assumes nothing.
use borrow.Author.Rules.{rules}
use Rattle.given.proofs.solve_given.Goals as goal

pub solve_pair-requires : goal.solve_pair-requires
solve_pair-requires c =
    let g = c.given_maps-maps.ensures in record { masks = c.requires.masks; pair_given = (c.requires.pair_given, g.0, g.1) }
