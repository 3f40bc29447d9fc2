-- `stepping::advance` meets its contract. The invariant: the position is that of the rank reached. Assumes nothing.
use mathlib.Core.Path.{◌≡◌}
use Rattle.board.specs.Board.{position_of}
use Rattle.ranking.specs.Unrank.{unrank as Unrank·unrank}
use Rattle.stepping.proofs.advance.Given as goal

abbrev pub invariant-loop : goal.invariant-loop
invariant-loop l = l.at ≡ position_of (Unrank·unrank l.points l.mover l.opponent l.counter)
