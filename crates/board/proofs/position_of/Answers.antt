-- `board::position_of` meets its contract: one set for each side. Assumes nothing.
use Rattle.board.specs.Board.{position_of}
use Rattle.board.proofs.position_of.Goals as goal

pub returns : goal.returns
unfolding position_of
returns c = rw (c.set_of.ensures, c.set_of-2.ensures)
