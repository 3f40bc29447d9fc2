-- `replies::put_board` meets its contract: each field is the definition's. Assumes nothing.
use Rattle.replies.proofs.Written.{board_line_lem, same_written}
use Rattle.replies.proofs.put_board.Goals as goal

pub returns : goal.returns
returns c =
    let a = c.args in
    let e = board_line_lem a.tablebase.now a.rings a.board.now c.requires.board_len_bound c.position_of-position.result c.position_of-position.ensures
    c.count-mover.result c.count-opponent.result c.rank_of-rank.result c.entry_of-entry.result c.move_of-best.result
    c.count-mover.ensures c.count-opponent.ensures c.rank_of-rank.ensures c.entry_of-entry.ensures c.move_of-best.ensures in let whole = same_written a.at _ a.out.now _ e (c.put_position.ensures.place, (c.put_position.ensures.bound, c.put_position.ensures.buffer)) in
    record { place = whole.0; bound = whole.1.0; buffer = whole.1.1 }
