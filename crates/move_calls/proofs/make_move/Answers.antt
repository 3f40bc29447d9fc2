-- `move_calls::make_move` meets its contract: a refusal of the board or the target, then of the move, or the board after it. Assumes nothing.
use mathlib.Core.Path.{◌≡◌, refl, sym, ap, ap₂, subst, ◌∙◌}
use mathlib.Core.Bool.{Bool, true, cond, not}
use mathlib.Core.List.{List}
use Prim.Native.Nat.{ℕ, ◌*◌}
use native.Mathlib.Omega.{arith}
use lib.ListN.{length}
use Rattle.lists.specs.Lists.{member}
use Rattle.lists.proofs.Tests.{member_is}
use Rattle.board.specs.Board.{position_of, board_of}
use Rattle.rules.specs.Ply.{removable, moves, after_ply}
use Rattle.rules.specs.Inner.Making.{Makeable}
use Rattle.rules.proofs.Listed.{removable_takes}
use Rattle.rules.proofs.Leads.{listed_makeable}
use Rattle.move_calls.specs.MakeMoveCall.{make_move_call, make_move_target}
use Rattle.refusals.proofs.Conditions.{Accepted, accepted_target, move_refused, move_decides, few_points}
use Rattle.positions.proofs.Positions.{ShowsBoard, board_shown, after_back}
use Rattle.answers.specs.Answers.{refusal_number}
use Rattle.answers.proofs.Answering.{turned_back, written, refusal_some, handed_on}
use Rattle.move_calls.proofs.make_move.Goals as goal
use Rattle.move_calls.proofs.make_move.Goals.{After-is_move, After-position_of-position, In_ok-of_target}

pub returns-in_err-of_target : goal.returns-in_err-of_target
unfolding make_move_call make_move_target
returns-in_err-of_target c =
    let a = c.args in
    let r = c.in_err-of_target.field-0.0 in
    let whole = turned_back _ _ _ _ (refusal_number r) (refusal_some r)
    (move_refused a.rings a.edition a.board.now (length a.target.now) a.number (refusal_number r) (refusal_some r) c.in_err-of_target.ensures) in
    record { answer = rw (handed_on c.from_residual.result r c.from_residual.ensures.1) whole.0; target = whole.1 }

-- past the first refusals the target has the board's length, the board is accepted, and its position shows it
passed-target : (c : In_ok-of_target) → Accepted c.args.rings c.args.board.now × (length c.args.target.now ≡ 8 * c.args.rings)
passed-target c = let a = c.args in accepted_target a.rings a.edition a.board.now (length a.target.now) (sym c.in_ok-of_target.ensures)

room : (c : In_ok-of_target) → length c.args.target.now ≡ 8 * c.args.rings
room c = (passed-target c).1

board : (c : In_ok-of_target) → Accepted c.args.rings c.args.board.now
board c = (passed-target c).0

shows : (c : After-position_of-position) → ShowsBoard c.args.rings c.args.board.now c.position_of-position.result
shows c =
    let a = c.args in
    board_shown _ _ (accepted_target a.rings a.edition a.board.now (length a.target.now) (sym c.in_ok-of_target.ensures)).0 _
    c.position_of-position.ensures

-- what was tested is whether the board has the move
tested : (c : After-is_move) → ShowsBoard c.args.rings c.args.board.now c.position_of-position.result
    → member c.args.number (moves (removable c.args.edition) c.args.rings c.args.board.now) ≡ c.is_move.result
tested c w =
    let a = c.args in
    sym (c.is_move.ensures ∙ ap (member a.number) (w.moves_back (removable a.edition)))

-- and such a move can be made
makeable : (c : After-is_move) → Accepted c.args.rings c.args.board.now
    → member c.args.number (moves (removable c.args.edition) c.args.rings c.args.board.now) ≡ true
    → Makeable c.args.rings c.args.board.now c.args.number
makeable c w e =
    let a = c.args in
    listed_makeable (removable a.edition) (removable_takes a.edition) a.rings w.rings_high a.board.now w.values w.points a.number
    (member_is a.number (moves (removable a.edition) a.rings a.board.now) e)

pub masks_of-masks-requires : goal.masks_of-masks-requires
masks_of-masks-requires c = (board (goal.at.masks_of-masks-requires c).In_ok-of_target).rings_high

pub position_of-position-requires : goal.position_of-position-requires
position_of-position-requires c = few_points _ _ (board (goal.at.position_of-position-requires c).In_ok-of_target)

pub is_move-requires : goal.is_move-requires
is_move-requires c =
    record { masks = c.masks_of-masks.ensures; placed = (shows (goal.at.is_move-requires c).After-position_of-position).placed }

pub returns-then-not-is_move : goal.returns-then-not-is_move
unfolding make_move_call make_move_target
returns-then-not-is_move c =
    let a = c.args in
    let at = goal.at.returns-then-not-is_move c in
    let whole = turned_back _ _ _ _ 8 (λ z. absurd (omega arith))
    (sym (move_decides a.rings a.edition a.board.now (length a.target.now) a.number c.in_ok-of_target.ensures
    ∙ ap (λ (t : Bool). cond (not t) 8 0) (tested at.After-is_move (shows at.After-position_of-position) ∙ c.if-not-is_move.true))) in
    record { answer = whole.0; target = whole.1 }

pub after_ply-after-requires : goal.after_ply-after-requires
after_ply-after-requires c =
    let a = c.args in
    let at = goal.at.after_ply-after-requires c in
    let w = shows at.After-position_of-position in
    record {
      placed = w.placed;
      makeable = subst (λ (b : List ℕ). Makeable a.rings b a.number) (sym w.back)
          (makeable at.After-is_move (board at.In_ok-of_target) (tested at.After-is_move w ∙ c.if-not-is_move.false));
    }

pub write_board-requires : goal.write_board-requires
write_board-requires c =
    let at = goal.at.write_board-requires c in
    omega (arith, room at.In_ok-of_target, (board at.In_ok-of_target).rings_high)

pub returns : goal.returns
unfolding make_move_call make_move_target
returns c =
    let a = c.args in
    let b : List ℕ = a.board.now in
    let at = goal.at.returns c in
    let w = shows at.After-position_of-position in
    let e : member a.number (moves (removable a.edition) a.rings b) ≡ true = tested at.After-is_move w ∙ c.if-not-is_move.false in
    let d : c.after_ply-after.result ≡ position_of (after_ply b a.number) =
    c.after_ply-after.ensures ∙ ap (λ (l : List ℕ). position_of (after_ply l a.number)) w.back in
    let whole = written _ _ _ _ _ _
    (sym (move_decides a.rings a.edition b (length a.target.now) a.number c.in_ok-of_target.ensures ∙ ap (λ (t : Bool). cond (not t) 8 0) e))
    refl (c.write_board.ensures ∙ ap₂ board_of (room at.In_ok-of_target) d
    ∙ after_back a.rings b (board at.In_ok-of_target) a.number (makeable at.After-is_move (board at.In_ok-of_target) e)) in
    record { answer = whole.0; target = whole.1 }
