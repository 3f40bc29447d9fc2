-- `halving::sweep_halves` meets its contract. The invariant: the first r places of both halves are swept, and the positions are those of the
-- ranks to come. Assumes nothing.
use mathlib.Core.Path.{◌≡◌}
use Prim.Native.Nat.{◌+◌, ◌<◌, ◌*◌}
use Rattle.board.specs.Board.{position_of}
use Rattle.ranking.specs.Unrank.{unrank}
use Rattle.ending.specs.Inner.Blocked.{blocked_first, blocked_range}
use Rattle.halving.proofs.sweep_halves.Given as goal

abbrev pub invariant-loop-r : goal.invariant-loop-r
invariant-loop-r l =
    (l.tablebase ≡ blocked_range l.rings l.table l.half (blocked_first l.rings l.table l.initial.tablebase l.r) l.r)
    × (l.r < l.half → l.low ≡ position_of (unrank (8 * l.rings) l.table.mover l.table.opponent l.r))
    × (l.r < l.half → l.high ≡ position_of (unrank (8 * l.rings) l.table.mover l.table.opponent (l.half + l.r)))
