-- `tablebase_refusals::of_tablebase` meets its contract: the refusals of rings, edition and board, then of a position that no game reaches, then of K and
-- the tablebase. Assumes nothing.
use mathlib.Core.Path.{◌≡◌, sym, ap, ap₂, ◌∙◌}
use mathlib.Core.Bool.{Bool, cond}
use Prim.Native.Nat.{ℕ}
use Rattle.board.specs.Board.{count}
use Rattle.refusals.specs.Refusals.{refusal}
use Rattle.refusals.specs.Conditions.{position_unreachable, count_above, largest_picks, tablebase_picks}
use Rattle.refusals.proofs.Conditions.{Accepted, ruled_board, few_points}
use Rattle.refusals.proofs.ReachableConditions.{after_four, before_eleven}
use Rattle.positions.proofs.Positions.{ShowsBoard, board_shown}
use Rattle.answers.specs.Answers.{refusal_number}
use Rattle.answers.proofs.Answering.{refusal_some, handed_on}
use Rattle.tablebase_refusals.proofs.of_tablebase.Goals as goal
use Rattle.tablebase_refusals.proofs.of_tablebase.Goals.{After-position_of-position, After-unreachable, In_ok-of_ruled}

pub returns-in_err-of_ruled : goal.returns-in_err-of_ruled
returns-in_err-of_ruled c =
    let a = c.args in
    let r = c.in_err-of_ruled.field-0.0 in
    rw (handed_on c.from_residual.result r c.from_residual.ensures.1)
    (after_four a.rings a.edition a.board.now a.k a.length (refusal_number r) (refusal_some r) c.in_err-of_ruled.ensures)

board : (c : In_ok-of_ruled) → Accepted c.args.rings c.args.board.now
board c = let a = c.args in ruled_board a.rings a.edition a.board.now (sym c.in_ok-of_ruled.ensures)

shows : (c : After-position_of-position) → ShowsBoard c.args.rings c.args.board.now c.position_of-position.result
shows c =
    let a = c.args in
    board_shown _ _ (ruled_board a.rings a.edition a.board.now (sym c.in_ok-of_ruled.ensures)) _ c.position_of-position.ensures

-- what the test says of the position, it says of the board; and it decides, then K and the tablebase do
decided : (c : After-unreachable) (t : Bool) → ShowsBoard c.args.rings c.args.board.now c.position_of-position.result → c.unreachable.result ≡ t
    → refusal (tablebase_picks c.args.rings c.args.edition c.args.board.now c.args.k c.args.length)
    ≡ cond t 15 (refusal (largest_picks c.args.rings c.args.k (count_above c.args.k (count 1 c.args.board.now) (count 2 c.args.board.now)) c.args.length))
decided c t s e =
    let a = c.args in
    let later : ℕ = refusal (largest_picks a.rings a.k (count_above a.k (count 1 a.board.now) (count 2 a.board.now)) a.length) in
    let tested = c.unreachable.ensures ∙ ap (position_unreachable a.rings a.edition) s.back in
    before_eleven a.rings a.edition a.board.now a.k a.length c.in_ok-of_ruled.ensures
    ∙ ap (λ (u : Bool). cond u 15 later) (sym tested ∙ e)

pub position_of-position-requires : goal.position_of-position-requires
position_of-position-requires c = few_points _ _ (board (goal.at.position_of-position-requires c).In_ok-of_ruled)

pub unreachable-requires : goal.unreachable-requires
unreachable-requires c = (shows (goal.at.unreachable-requires c).After-position_of-position).placed

pub returns-then-unreachable : goal.returns-then-unreachable
returns-then-unreachable c =
    let at = goal.at.returns-then-unreachable c in
    sym (decided at.After-unreachable _ (shows at.After-position_of-position) c.if-unreachable.true)

pub of_largest-requires : goal.of_largest-requires
of_largest-requires c =
    (board (goal.at.of_largest-requires c).In_ok-of_ruled).rings_high

pub returns : goal.returns
returns c =
    let at = goal.at.returns c in
    let s = shows at.After-position_of-position in
    let a = c.args in
    c.of_largest.ensures
    ∙ ap (λ (t : Bool). refusal (largest_picks a.rings a.k t a.length))
    (c.stones_above.ensures ∙ ap₂ (count_above a.k) s.mover s.opponent)
    ∙ sym (decided at.After-unreachable _ s c.if-unreachable.false)
