-- `solver::solve_row` meets its contract. The invariant: the pairs before (m, o) are filled. Assumes nothing.
use Rattle.rules.specs.Ply.{removable}
use Rattle.outcomes.specs.Inner.Done.{TrueOn, DoneBefore}
use Rattle.solver.proofs.solve_row.Given as goal

abbrev pub invariant-loop-o : goal.invariant-loop-o
invariant-loop-o l =
    TrueOn (removable l.bounds.edition) l.bounds.rings l.bounds.k l.bounds.limit (DoneBefore l.m l.o) l.tablebase
