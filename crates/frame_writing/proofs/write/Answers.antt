-- `frame_writing::write` meets its contract: the rings, then the points. Assumes nothing.
use Rattle.frame_writing.proofs.Stored.{frame_stored}
use Rattle.frame_writing.proofs.write.Goals as goal

pub returns : goal.returns
returns c =
    let a = c.args in
    frame_stored a.rings a.board.now a.target.now _ _ c.write_byte.ensures c.write_points.ensures
