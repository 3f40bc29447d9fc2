-- `ranking::rank` meets its contract. The invariant: the counts and the rank of the points passed, and the stones that are left. Assumes nothing.
use Rattle.ranking.proofs.OnSets.{Passing}
use Rattle.ranking.proofs.rank.Given as goal

abbrev pub invariant-loop-left : goal.invariant-loop-left
invariant-loop-left l = Passing l.points l.position l.stones l.o l.r l.left

abbrev pub decreases-loop-left : goal.decreases-loop-left
decreases-loop-left l = l.left
