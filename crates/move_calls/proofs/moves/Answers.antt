-- `move_calls::moves` meets its contract: a refusal of rings, edition or board, then of the list, or the moves. Assumes nothing.
use mathlib.Core.Path.{◌≡◌, sym, ap, ap₂, ◌∙◌}
use mathlib.Core.Bool.{Bool, cond}
use mathlib.Core.List.{List, [], ◌∷◌}
use Prim.Native.Nat.{ℕ, ◌+◌, ◌*◌}
use native.Mathlib.Omega.{arith}
use lib.ListN.{length}
use lib.Seq.{sets}
use borrow.Author.Tests.{lt-ltb, le-ltb}
use Rattle.board.specs.Board.{board_of}
use Rattle.rules.specs.Ply.{removable}
use Rattle.rules.specs.MoveList.{captures_first, listed_moves}
use Rattle.rules.proofs.CapturesFirst.{listed_total}
use Rattle.move_calls.specs.MovesCall.{moves_call, moves_list}
use Rattle.refusals.proofs.Conditions.{Accepted, ruled_board, list_refused, list_decides, few_points}
use Rattle.positions.proofs.Positions.{ShowsBoard, board_shown}
use Rattle.answers.specs.Answers.{refusal_number}
use Rattle.answers.proofs.Answering.{turned_back, written, refusal_some, handed_on}
use Rattle.move_calls.proofs.moves.Goals as goal
use Rattle.move_calls.proofs.moves.Goals.{After-count_moves-counts, After-position_of-position, In_ok-of_ruled}

pub returns-in_err-of_ruled : goal.returns-in_err-of_ruled
unfolding moves_call moves_list
returns-in_err-of_ruled c =
    let a = c.args in
    let r = c.in_err-of_ruled.field-0.0 in
    let whole = turned_back _ _ _ _ (refusal_number r) (refusal_some r)
    (list_refused a.rings a.edition a.board.now (length a.list.now)
    (length (listed_moves (removable a.edition) a.rings a.board.now)) (refusal_number r) (refusal_some r)
    c.in_err-of_ruled.ensures) in
    record { answer = rw (handed_on c.from_residual.result r c.from_residual.ensures.1) whole.0; list = whole.1 }

-- past the first refusals the board is accepted, and its position shows it
board : (c : In_ok-of_ruled) → Accepted c.args.rings c.args.board.now
board c = ruled_board _ c.args.edition _ (sym c.in_ok-of_ruled.ensures)

shows : (c : After-position_of-position) → ShowsBoard c.args.rings c.args.board.now c.position_of-position.result
shows c = board_shown _ _ (ruled_board _ c.args.edition c.args.board.now (sym c.in_ok-of_ruled.ensures)) _ c.position_of-position.ensures

-- the list of its position's moves is its own, and so many were counted
listed_back : (c : After-position_of-position)
    → listed_moves (removable c.args.edition) c.args.rings
    (board_of (8 * c.args.rings) c.position_of-position.result)
    ≡ listed_moves (removable c.args.edition) c.args.rings c.args.board.now
listed_back c = ap captures_first ((shows c).moves_back (removable c.args.edition))

counted : (c : After-count_moves-counts) → ShowsBoard c.args.rings c.args.board.now c.position_of-position.result
    → c.count_moves-counts.result.captures + c.count_moves-counts.result.others
    ≡ length (listed_moves (removable c.args.edition) c.args.rings
    c.args.board.now)
counted c w =
    ap₂ ◌+◌ c.count_moves-counts.ensures.captures.0 c.count_moves-counts.ensures.others.0 ∙ listed_total _
    ∙ ap (λ (l : List ℕ). length (captures_first l)) (w.moves_back (removable c.args.edition))

pub masks_of-masks-requires : goal.masks_of-masks-requires
masks_of-masks-requires c = (board (goal.at.masks_of-masks-requires c).In_ok-of_ruled).rings_high

pub position_of-position-requires : goal.position_of-position-requires
position_of-position-requires c = few_points _ _ (board (goal.at.position_of-position-requires c).In_ok-of_ruled)

pub count_moves-counts-requires : goal.count_moves-counts-requires
count_moves-counts-requires c =
    record { masks = c.masks_of-masks.ensures; placed = (shows (goal.at.count_moves-counts-requires c).After-position_of-position).placed }

pub returns-then-list-count : goal.returns-then-list-count
unfolding moves_call moves_list
returns-then-list-count c =
    let a = c.args in
    let m = length (listed_moves (removable a.edition) a.rings a.board.now) in
    let short = lt-ltb (length a.list.now) m (omega (arith, c.if-list-count.true, counted (goal.at.returns-then-list-count c).After-count_moves-counts (shows (goal.at.returns-then-list-count c).After-position_of-position))) in
    let whole = turned_back _ _ _ _ 7 (λ z. absurd (omega arith))
    (sym (list_decides a.rings a.edition a.board.now (length a.list.now) m c.in_ok-of_ruled.ensures ∙ ap (λ (t : Bool). cond t 7 0) short)) in
    record { answer = whole.0; list = whole.1 }

pub list_moves-requires : goal.list_moves-requires
list_moves-requires c =
    record { playable = record { masks = c.masks_of-masks.ensures; placed = (shows (goal.at.list_moves-requires c).After-position_of-position).placed }; others_value = c.count_moves-counts.ensures.captures.0; position_in_bounds = omega (arith, c.if-list-count.false, counted (goal.at.list_moves-requires c).After-count_moves-counts (shows (goal.at.list_moves-requires c).After-position_of-position), ap length (listed_back (goal.at.list_moves-requires c).After-position_of-position)) }

pub returns : goal.returns
unfolding moves_call moves_list
returns c =
    let a = c.args in
    let m = length (listed_moves (removable a.edition) a.rings a.board.now) in
    let fits = le-ltb (length a.list.now) m (omega (arith, c.if-list-count.false, counted (goal.at.returns c).After-count_moves-counts (shows (goal.at.returns c).After-position_of-position))) in
    let whole = written _ _ _ _ _ _
    (sym (list_decides a.rings a.edition a.board.now (length a.list.now) m c.in_ok-of_ruled.ensures ∙ ap (λ (t : Bool). cond t 7 0) fits))
    (ap (λ (k : ℕ). k ∷ []) (counted (goal.at.returns c).After-count_moves-counts (shows (goal.at.returns c).After-position_of-position)))
    (c.list_moves.ensures ∙ ap (sets a.list.now 0) (listed_back (goal.at.returns c).After-position_of-position)) in
    record { answer = whole.0; list = whole.1 }
