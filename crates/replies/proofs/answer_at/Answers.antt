-- `replies::answer_at` meets its contract: the refusal of the frame, 15 for a position that no game reaches, or the line of the board
-- that its sets stand for. Assumes nothing.
use mathlib.Core.Path.{◌≡◌, refl, sym, ap, ◌∙◌}
use Prim.Native.Nat.{◌*◌, ◌≤◌}
use native.Mathlib.Omega.{arith}
use lib.ListN.{length, take, length-take}
use lib.Seq.{length-take-le}
use Rattle.board.proofs.Sides.{length_board}
use Rattle.std.specs.Prelude.{Result, Ok, Err}
use Rattle.answers.specs.Answers.{refused, number, frame_values, frame_read}
use Rattle.answers.proofs.Answering.{number_by}
use Rattle.answers.specs.declared.Frame.{Frame}
use Rattle.answers.specs.declared.Refusal.{Refusal}
use Rattle.text.specs.Text.{refused_line}
use Rattle.replies.specs.Replies.{board_line, answer_of}
use Rattle.replies.proofs.Written.{same_written}
use Rattle.replies.proofs.Reading.{line_refused, few_rings, position_placed, line_unreachable, line_board}
use Rattle.replies.proofs.answer_at.Goals as goal
use Rattle.replies.proofs.answer_at.Goals.{After-board-2-1}

turned_back : (r : Result Frame Refusal) → ((f : Frame) → r ≡ Ok f → ⊥) → frame_read r ≡ refused (number (frame_read r))
turned_back (Ok f) h = absurd (h f refl)
turned_back (Err e) h = refl

pub returns-in_default : goal.returns-in_default
returns-in_default c =
    let a = c.args in
    let q = turned_back c.read_frame-read.result c.in_default.not-Ok in
    let e : refused_line c.number_of.result ≡ answer_of a.tablebase.now a.line.now =
    ap refused_line (number_by frame_values c.read_frame-read.result _ c.number_of.ensures) ∙ line_refused a.tablebase.now a.line.now _ (sym q ∙ c.read_frame-read.ensures) in
    let whole = same_written a.at _ a.out.now _ e (c.put_refused.ensures.place, (c.put_refused.ensures.bound, c.put_refused.ensures.buffer)) in
    record { place = whole.0; bound = whole.1.0; buffer = whole.1.1 }

pub returns-then-unreachable : goal.returns-then-unreachable
returns-then-unreachable c =
    let g = c.in-Ok.frame in
    let a = c.args in
    let e : refused_line c.number.result ≡ answer_of a.tablebase.now a.line.now =
    ap refused_line c.number.ensures ∙ line_unreachable a.tablebase.now a.line.now g.rings g.mover g.opponent (sym (ap frame_read c.in-Ok.is) ∙ c.read_frame-read.ensures)
    (sym c.if-unreachable.true ∙ c.unreachable.ensures) in
    let whole = same_written a.at _ a.out.now _ e (c.put_refused-then-unreachable.ensures.place, (c.put_refused-then-unreachable.ensures.bound, c.put_refused-then-unreachable.ensures.buffer)) in
    record { place = whole.0; bound = whole.1.0; buffer = whole.1.1 }

-- the board has 24 points, and the part in use is one of it
in_use : (c : After-board-2-1)
    → (8 * c.in-Ok.frame.rings ≤ 24) × (length c.write_board.new.target ≡ 24)
in_use c =
    let g = c.in-Ok.frame in
    let a = c.args in
    let e = sym (ap frame_read c.in-Ok.is) ∙ c.read_frame-read.ensures in (
      omega (arith, few_rings a.tablebase.now a.line.now g.rings g.mover g.opponent e),
      ap length c.write_board.ensures ∙ length_board 24 _,
    )

pub slice_bounds-board-end : goal.slice_bounds-board-end
slice_bounds-board-end c = let u = in_use (goal.at.slice_bounds-board-end c).After-board-2-1 in omega arith

pub slice_bounds-put_board-end : goal.slice_bounds-put_board-end
slice_bounds-put_board-end c =
    let u = in_use (goal.at.slice_bounds-put_board-end c).After-board-2-1 in sym (length-take-le _ c.write_board.new.target (omega arith))

pub put_board-requires : goal.put_board-requires
put_board-requires c =
    let u = in_use (goal.at.put_board-requires c).After-board-2-1 in
    let n = 8 * c.in-Ok.frame.rings in record { board_len_bound = omega (arith, length-take n c.write_board.new.target); most_bytes_in_bounds = omega arith }

pub returns : goal.returns
returns c =
    let g = c.in-Ok.frame in
    let a = c.args in
    let e : board_line a.tablebase.now g.rings (take (8 * g.rings) c.write_board.new.target) ≡ answer_of a.tablebase.now a.line.now =
    line_board a.tablebase.now a.line.now g.rings g.mover g.opponent (sym (ap frame_read c.in-Ok.is) ∙ c.read_frame-read.ensures)
    (sym c.if-unreachable.false ∙ c.unreachable.ensures) _ (ap (take (8 * g.rings)) c.write_board.ensures) in
    let whole = same_written a.at _ a.out.now _ e (c.put_board.ensures.place, (c.put_board.ensures.bound, c.put_board.ensures.buffer)) in
    record { place = whole.0; bound = whole.1.0; buffer = whole.1.1 }

pub unreachable-requires : goal.unreachable-requires
unreachable-requires c =
    let g = c.in-Ok.frame in
    let a = c.args in
    position_placed a.tablebase.now a.line.now g.rings g.mover g.opponent (sym (ap frame_read c.in-Ok.is) ∙ c.read_frame-read.ensures)
