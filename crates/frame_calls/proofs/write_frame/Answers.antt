-- `frame_calls::write_frame` meets its contract: a refusal of the board's picks, then of the target, or the frame. Assumes nothing.
use mathlib.Core.Path.{sym, ap, ◌∙◌}
use mathlib.Core.Bool.{Bool, cond}
use mathlib.Core.List.{[], ◌∷◌}
use Prim.Native.Nat.{ℕ}
use native.Mathlib.Omega.{arith}
use lib.ListN.{length}
use borrow.Author.Tests.{lt-ltb, le-ltb}
use Rattle.frames.specs.Frame.{frame_length}
use Rattle.frame_calls.specs.WriteFrameCall.{write_frame_call, write_frame_target}
use Rattle.refusals.proofs.Conditions.{accepted_board, short_refused, short_decides}
use Rattle.answers.specs.Answers.{refusal_number}
use Rattle.answers.proofs.Answering.{turned_back, written, refusal_some, handed_on}
use Rattle.frame_calls.proofs.write_frame.Goals as goal

pub returns-in_err-of_board : goal.returns-in_err-of_board
unfolding write_frame_call write_frame_target
returns-in_err-of_board c =
    let a = c.args in
    let r = c.in_err-of_board.field-0.0 in
    let whole = turned_back _ _ _ _ (refusal_number r) (refusal_some r)
    (short_refused a.rings a.board.now (length a.target.now) (frame_length a.rings) (refusal_number r) (refusal_some r) c.in_err-of_board.ensures) in
    record { answer = rw (handed_on c.from_residual.result r c.from_residual.ensures.1) whole.0; target = whole.1 }

pub returns-then-target-length : goal.returns-then-target-length
unfolding write_frame_call write_frame_target
returns-then-target-length c =
    let a = c.args in
    let n = length a.target.now in
    let short = lt-ltb n (frame_length a.rings) (omega (arith, c.if-target-length.true, c.frame_length-length.ensures)) in
    let whole = turned_back _ _ _ _ 7 (λ z. absurd (omega arith))
    (sym (short_decides a.rings a.board.now n (frame_length a.rings) c.in_ok-of_board.ensures ∙ ap (λ (t : Bool). cond t 7 0) short)) in
    record { answer = whole.0; target = whole.1 }

pub write-requires : goal.write-requires
write-requires c =
    let a = c.args in
    let w = accepted_board a.rings a.board.now (sym c.in_ok-of_board.ensures) in
    (w.rings_high, w.points, w.values, omega (arith, c.if-target-length.false, c.frame_length-length.ensures))

pub returns : goal.returns
unfolding write_frame_call write_frame_target
returns c =
    let a = c.args in
    let n = length a.target.now in
    let fits = le-ltb n (frame_length a.rings) (omega (arith, c.if-target-length.false, c.frame_length-length.ensures)) in
    let whole = written _ _ _ _ _ _
    (sym (short_decides a.rings a.board.now n (frame_length a.rings) c.in_ok-of_board.ensures ∙ ap (λ (t : Bool). cond t 7 0) fits))
    (ap (λ (k : ℕ). k ∷ []) c.frame_length-length.ensures) c.write.ensures in
    record { answer = whole.0; target = whole.1 }
