-- `solver::solve_all` meets its contract. The invariant: the rows before m are filled, or some position is too deep. Assumes nothing.
use Rattle.outcomes.specs.Inner.Done.{TrueOn, DoneBefore}
use Rattle.rules.specs.Ply.{removable}
use Rattle.solver.proofs.solve_all.Given as goal

abbrev pub invariant-loop-m : goal.invariant-loop-m
invariant-loop-m l =
    TrueOn (removable l.bounds.edition) l.bounds.rings l.bounds.k l.bounds.limit (DoneBefore l.m 3) l.tablebase
