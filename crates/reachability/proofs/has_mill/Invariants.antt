-- `reachability::has_mill` meets its contract: a full mill is found, or all sixteen are passed. Assumes nothing.
use Rattle.reachability.proofs.MillsLeft.{MillsLeft}
use Rattle.reachability.proofs.has_mill.Given as goal

abbrev pub invariant-loop-i : goal.invariant-loop-i
invariant-loop-i l = MillsLeft l.stones l.i
