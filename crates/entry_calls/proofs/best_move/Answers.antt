-- `entry_calls::best_move` meets its contract: a refusal of rings, edition, board, K or tablebase, or what the choice at its position says. Assumes
-- nothing.
use mathlib.Core.Path.{◌≡◌, sym, ap, ◌∙◌}
use lib.ListN.{length}
use Prim.Native.Nat.{◌*◌}
use Rattle.board.specs.Board.{board_of}
use Rattle.rules.specs.Ply.{removable}
use Rattle.refusals.proofs.TablebaseConditions.{AcceptedEntry, accepted_entry, best_move_refused}
use Rattle.refusals.proofs.Conditions.{few_points}
use Rattle.answers.specs.Answers.{refusal_number}
use Rattle.answers.proofs.Answering.{answer_refused, refusal_some, handed_on}
use Rattle.positions.proofs.Positions.{ShowsBoard, board_shown}
use Rattle.entries.specs.Inner.Choices.{choice_at}
use Rattle.entry_calls.specs.BestMoveCall.{best_move_call}
use Rattle.entry_calls.proofs.Stands.{stands, choice_answer}
use Rattle.entry_calls.proofs.best_move.Goals as goal
use Rattle.entry_calls.proofs.best_move.Goals.{After-position_of-position, In_ok-of_tablebase}

pub returns-in_err-of_tablebase : goal.returns-in_err-of_tablebase
unfolding best_move_call
returns-in_err-of_tablebase c =
    let a = c.args in
    let r = c.in_err-of_tablebase.field-0.0 in
    rw (handed_on c.from_residual.result r c.from_residual.ensures.1)
    (answer_refused (refusal_number r) _ _ (refusal_some r)
    (best_move_refused a.rings a.edition a.board.now a.k a.tablebase.now (refusal_number r) (refusal_some r) c.in_err-of_tablebase.ensures))

-- past them board and tablebase are accepted, and the position shows the board
known : (c : In_ok-of_tablebase) → AcceptedEntry c.args.rings c.args.board.now c.args.k (length c.args.tablebase.now)
known c = let a = c.args in accepted_entry a.rings a.edition a.board.now a.k (length a.tablebase.now) (sym c.in_ok-of_tablebase.ensures)

shows : (c : After-position_of-position) → ShowsBoard c.args.rings c.args.board.now c.position_of-position.result
shows c =
    let a = c.args in
    board_shown _ _ (accepted_entry a.rings a.edition a.board.now a.k (length a.tablebase.now) (sym c.in_ok-of_tablebase.ensures)).board _
    c.position_of-position.ensures

-- the choice there is what the call answers
answer_is : (c : After-position_of-position)
    → choice_at (removable c.args.edition) c.args.rings c.args.k c.args.tablebase.now (board_of (8 * c.args.rings) c.position_of-position.result)
    ≡ best_move_call c.args.rings c.args.edition c.args.board.now c.args.k c.args.tablebase.now
answer_is c =
    let a = c.args in
    ap (choice_at (removable a.edition) a.rings a.k a.tablebase.now) (shows c).back
    ∙ choice_answer a.rings a.edition a.board.now a.k a.tablebase.now c.in_ok-of_tablebase.ensures

pub masks_of-masks-requires : goal.masks_of-masks-requires
masks_of-masks-requires c = (known (goal.at.masks_of-masks-requires c).In_ok-of_tablebase).board.rings_high

pub position_of-position-requires : goal.position_of-position-requires
position_of-position-requires c = few_points _ _ (known (goal.at.position_of-position-requires c).In_ok-of_tablebase).board

pub best_of-requires : goal.best_of-requires
best_of-requires c =
    let a = c.args in (
      stands a.rings a.board.now a.k _ (known (goal.at.best_of-requires c).In_ok-of_tablebase) (shows (goal.at.best_of-requires c).After-position_of-position),
      c.masks_of-masks.ensures,
    )

pub returns-in_err-best : goal.returns-in_err-best
returns-in_err-best c =
    let r = c.in_err-best.field-0.0 in
    rw (handed_on c.from_residual-in_err-best.result r c.from_residual-in_err-best.ensures.1)
    (c.in_err-best.ensures ∙ answer_is (goal.at.returns-in_err-best c).After-position_of-position)

pub returns : goal.returns
returns c = c.in_ok-best.ensures ∙ answer_is (goal.at.returns c).After-position_of-position
