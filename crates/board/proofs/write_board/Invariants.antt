-- `board::write_board` meets its contract. The invariant: the points passed hold what the position has there. Assumes nothing.
use Rattle.std.proofs.Common.{◌≡◌, ℕ, ◌<◌, get_or}
use Rattle.board.specs.Board.{value_at}
use Rattle.board.proofs.write_board.Given as goal

abbrev pub invariant-loop-i : goal.invariant-loop-i
invariant-loop-i l = (k : ℕ) → k < l.i → get_or l.target k 0 ≡ value_at l.position k
