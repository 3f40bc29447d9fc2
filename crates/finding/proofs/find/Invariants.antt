-- `finding::find` meets its contract. The invariant: the value does not occur in what is passed. Assumes nothing.
use Rattle.finding.specs.Inner.Finding.{NoneBefore, is_at}
use Rattle.finding.proofs.find.Given as goal

abbrev pub invariant-loop-i : goal.invariant-loop-i
invariant-loop-i l = NoneBefore (is_at l.v l.tablebase) l.from l.end l.i
