-- `comparing::find_decided` meets its contract. The invariant: what is passed are draws. Assumes nothing.
use Rattle.finding.specs.Inner.Finding.{NoneBefore}
use Rattle.comparing.specs.Inner.Compared.{is_decided}
use Rattle.comparing.proofs.find_decided.Given as goal

abbrev pub invariant-loop-i : goal.invariant-loop-i
invariant-loop-i l = NoneBefore (is_decided l.start l.tablebase) l.r l.size l.i
