-- `board_refusals::of_target` meets its contract: the refusals of the board, then of the target. Assumes nothing.
use mathlib.Core.Path.{◌≡◌, sym, ap, ◌∙◌}
use mathlib.Core.Bool.{Bool, cond, not}
use Prim.Native.Nat.{◌*◌}
use lib.ListN.{length}
use borrow.Author.Tests.{eq-eqb, ne_eqb}
use Rattle.refusals.specs.Refusals.{refusal}
use Rattle.refusals.specs.Conditions.{ruled_picks}
use Rattle.refusals.proofs.Conditions.{ruled_board, target_refused, target_decides}
use Rattle.answers.specs.Answers.{refusal_number}
use Rattle.answers.proofs.Answering.{refusal_some, handed_on}
use Rattle.board_refusals.proofs.of_target.Goals as goal
use Rattle.board_refusals.proofs.of_target.Goals.{In_ok-of_ruled}

-- past the first refusals, the board is accepted
passed-board : (c : In_ok-of_ruled) → 0 ≡ refusal (ruled_picks c.args.rings c.args.edition
    c.args.board.now)
passed-board c = c.in_ok-of_ruled.ensures

points : (c : In_ok-of_ruled) → length c.args.board.now ≡ 8 * c.args.rings
points c = let a = c.args in (ruled_board a.rings a.edition a.board.now (sym (passed-board c))).points

pub returns-in_err-of_ruled : goal.returns-in_err-of_ruled
returns-in_err-of_ruled c =
    let a = c.args in
    let r = c.in_err-of_ruled.field-0.0 in
    rw (handed_on c.from_residual.result r c.from_residual.ensures.1)
    (target_refused a.rings a.edition a.board.now a.room (refusal_number r) (refusal_some r) c.in_err-of_ruled.ensures)

pub returns-then-room-board : goal.returns-then-room-board
returns-then-room-board c =
    let a = c.args in
    sym (target_decides a.rings a.edition a.board.now a.room (passed-board (goal.at.returns-then-room-board c).In_ok-of_ruled)
    ∙ ap (λ (t : Bool). cond (not t) 6 0) (ne_eqb a.room (8 * a.rings) (λ e. c.if-room-board.true (e ∙ sym (points (goal.at.returns-then-room-board c).In_ok-of_ruled)))))

pub returns : goal.returns
returns c =
    let a = c.args in
    sym (target_decides a.rings a.edition a.board.now a.room (passed-board (goal.at.returns c).In_ok-of_ruled)
    ∙ ap (λ (t : Bool). cond (not t) 6 0) (eq-eqb a.room (8 * a.rings) (c.if-room-board.false ∙ points (goal.at.returns c).In_ok-of_ruled)))
