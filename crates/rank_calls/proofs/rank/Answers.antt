-- `rank_calls::rank` meets its contract: the first refusal of the board's picks, or the rank of its position. Assumes nothing.
use mathlib.Core.Path.{sym, ap, ◌∙◌}
use mathlib.Core.List.{[], ◌∷◌}
use Prim.Native.Nat.{ℕ}
use Rattle.ranking.specs.Rank.{rank as Rank·rank}
use Rattle.refusals.specs.Refusals.{refusal}
use Rattle.refusals.specs.Conditions.{board_picks}
use Rattle.answers.specs.Answers.{accepted, refusal_number}
use Rattle.rank_calls.specs.RankCall.{rank_call}
use Rattle.refusals.proofs.Conditions.{Accepted, accepted_board, few_points}
use Rattle.positions.proofs.Positions.{ShowsBoard, board_shown}
use Rattle.answers.proofs.Answering.{answer_refused, answer_accepted, refusal_some, handed_on}
use Rattle.rank_calls.proofs.rank.Goals as goal
use Rattle.rank_calls.proofs.rank.Goals.{After-position_of-position, In_ok-of_board}

-- past them the board is accepted, and its position shows it
board : (c : In_ok-of_board) → Accepted c.args.rings c.args.board.now
board c = accepted_board _ _ (sym c.in_ok-of_board.ensures)

shows : (c : After-position_of-position) → ShowsBoard c.args.rings c.args.board.now c.position_of-position.result
shows c = board_shown _ _ (accepted_board _ _ (sym c.in_ok-of_board.ensures)) _ c.position_of-position.ensures

pub returns-in_err-of_board : goal.returns-in_err-of_board
unfolding rank_call
returns-in_err-of_board c =
    let r = c.in_err-of_board.field-0.0 in
    rw (handed_on c.from_residual.result r c.from_residual.ensures.1) (answer_refused (refusal_number r) _ _ (refusal_some r) c.in_err-of_board.ensures)

pub position_of-position-requires : goal.position_of-position-requires
position_of-position-requires c = few_points _ _ (board (goal.at.position_of-position-requires c).In_ok-of_board)

pub rank-requires : goal.rank-requires
rank-requires c =
    let at = goal.at.rank-requires c in
    record { few = few_points _ _ (board at.In_ok-of_board); on = (shows at.After-position_of-position).on }

pub returns : goal.returns
unfolding rank_call
returns c =
    let a = c.args in
    ap (λ (r : ℕ). accepted (r ∷ [])) (c.rank.ensures ∙ (shows (goal.at.returns c).After-position_of-position).rank_back)
    ∙ answer_accepted (refusal (board_picks a.rings a.board.now)) (Rank·rank a.board.now ∷ []) c.in_ok-of_board.ensures
