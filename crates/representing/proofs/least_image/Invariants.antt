-- `representing::least_image` meets its contract. The invariant: the least image so far, and its rank. Assumes nothing.
use mathlib.Core.Path.{◌≡◌}
use Rattle.ranking.specs.Rank.{rank}
use Rattle.symmetry.specs.Representative.{in_use, least_image}
use Rattle.representing.proofs.least_image.Given as goal

abbrev pub invariant-loop-g : goal.invariant-loop-g
invariant-loop-g l =
    (l.best ≡ least_image l.rings l.board l.g) × (l.least ≡ rank (in_use l.rings l.best))
