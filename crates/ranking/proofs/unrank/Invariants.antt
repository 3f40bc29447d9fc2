-- `ranking::unrank` meets its contract. The invariant: the sets of the points passed, and the board of what is left. Assumes nothing.
use Rattle.ranking.specs.Unrank.{unrank as Unrank·unrank}
use Rattle.ranking.proofs.Steps.{Unranking}
use Rattle.ranking.proofs.unrank.Given as goal

abbrev pub invariant-loop-i : goal.invariant-loop-i
invariant-loop-i l =
    Unranking (Unrank·unrank l.points l.mover l.opponent l.rank) l.i l.m l.o l.r l.first l.second
