-- `board::write_board` meets its contract. The invariant: the points passed hold what the position has there. Assumes nothing.
use Rattle.std.proofs.Common.{ℕ, length, arith, sym, ◌∙◌}
use lib.Seq.{ext_get_or}
use Rattle.board.specs.Board.{board_of}
use Rattle.board.proofs.Sides.{length_board, board_at_lem}
use Rattle.board.proofs.write_board.Goals as goal

pub returns : goal.returns
returns c =
    let n : ℕ = length c.args.target.now in
    let p = c.args.position in
    ext_get_or 0 c.loop-i.target (board_of n p) (c.loop-i.auto.target ∙ sym (length_board n p))
    (λ k h. c.loop-i.invariant k (omega arith) ∙ sym (board_at_lem n p k (omega arith)))
