-- `bestmove::best_of` meets its contract. Assumes nothing.
use Prim.Native.Nat.{◌+◌, ◌*◌}
use Rattle.board.specs.Board.{board_of}
use Rattle.bestmove.specs.Inner.Worth.{entry_by}
use Rattle.bestmove.proofs.Running.{Running}
use Rattle.bestmove.proofs.best_of.Given as goal

abbrev pub invariant-loop-number : goal.invariant-loop-number
invariant-loop-number l =
    Running (λ m. entry_by l.tablebase l.starts.same l.starts.fewer (board_of (8 * l.rings) l.position) m) l.moves (l.number-index + 1) l.best
