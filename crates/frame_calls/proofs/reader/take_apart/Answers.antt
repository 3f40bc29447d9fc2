-- `frame_calls::reader::take_apart` meets its contract: the first refusal of the frame's picks, or its position. Assumes nothing.
use mathlib.Core.Path.{sym, ap, ap₂, ◌∙◌}
use mathlib.Core.List.{List, [], ◌∷◌}
use Prim.Native.Nat.{ℕ}
use native.Mathlib.Omega.{arith}
use Rattle.board.specs.Board.{set_of}
use Rattle.frames.specs.Frame.{rings_in, board_in}
use Rattle.refusals.specs.Refusals.{refusal}
use Rattle.refusals.specs.Conditions.{frame_picks}
use Rattle.answers.specs.Answers.{accepted, refusal_number}
use Rattle.frame_calls.specs.ReadFrameCall.{frame_position, taken_apart}
use Rattle.refusals.proofs.FrameConditions.{AcceptedFrame, accepted_frame}
use Rattle.answers.proofs.Answering.{answer_refused, answer_accepted, refusal_some, handed_on}
use Rattle.frame_calls.proofs.reader.take_apart.Goals as goal
use Rattle.frame_calls.proofs.reader.take_apart.Goals.{In_ok-of_frame}

pub returns-in_err-of_frame : goal.returns-in_err-of_frame
unfolding taken_apart
returns-in_err-of_frame c =
    let r = c.in_err-of_frame.field-0.0 in
    rw (handed_on c.from_residual.result r c.from_residual.ensures.1) (answer_refused (refusal_number r) _ _ (refusal_some r) c.in_err-of_frame.ensures)

-- past the refusals, the frame is accepted
frame-accepted : (c : In_ok-of_frame) → AcceptedFrame c.args.frame.now
frame-accepted c = accepted_frame _ (sym c.in_ok-of_frame.ensures)

pub rings_of-requires : goal.rings_of-requires
rings_of-requires c = (frame-accepted (goal.at.rings_of-requires c).In_ok-of_frame).characters

pub points_with-requires : goal.points_with-requires
points_with-requires c =
    let w = frame-accepted (goal.at.points_with-requires c).In_ok-of_frame in
    (w.characters, omega (arith, w.frame_points, w.rings_high))

pub points_with-requires-2 : goal.points_with-requires-2
points_with-requires-2 c =
    let w = frame-accepted (goal.at.points_with-requires-2 c).In_ok-of_frame in
    (w.characters, omega (arith, w.frame_points, w.rings_high))

pub returns : goal.returns
unfolding taken_apart
returns c =
    let f : List ℕ = c.args.frame.now in
    ap₂ (λ (r m : ℕ). accepted (r ∷ m ∷ c.points_with-2.result ∷ [])) c.rings_of.ensures c.points_with.ensures
    ∙ ap (λ (o : ℕ). accepted (rings_in f ∷ set_of 1 (board_in f) ∷ o ∷ [])) c.points_with-2.ensures
    ∙ answer_accepted (refusal (frame_picks f)) (frame_position f) c.in_ok-of_frame.ensures
