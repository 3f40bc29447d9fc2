-- "Frames are read and written; a written board reads back as itself" (document 01): of the definitions, and of the two calls. And a frame that is
-- read is written back as itself. Assumes nothing.
use mathlib.Core.Path.{◌≡◌, refl, sym, ap, ap₂, ◌∙◌}
use mathlib.Core.Bool.{Bool, not, cond}
use mathlib.Core.List.{List, [], ◌∷◌, ◌++◌}
use Prim.Native.Nat.{ℕ, ◌+◌, ◌*◌, ◌≤◌}
use native.Mathlib.Omega.{arith}
use lib.ListN.{length, take, drop}
use lib.Seq.{sets, sets-eq, take_at, drop_at}
use borrow.Author.Tests.{eq-eqb, le-ltb, ltb-false}
use Rattle.board.specs.Board.{set_of, count, board_of}
use Rattle.board.proofs.Sides.{position_sides}
use Rattle.frames.specs.Frame.{frame_length, rings_in, board_in, frame_of}
use Rattle.frames.proofs.RoundTrip.{rings_back, board_back, length_frame, frame_fine, frame_back}
use Rattle.refusals.specs.Refusals.{refusal_table, picked_rows, refusal}
use Rattle.refusals.specs.Conditions.{rings_wrong, value_wrong, counts_wrong, board_picks, read_picks, short_picks}
use Rattle.answers.specs.Answers.{accepted, number}
use Rattle.frame_calls.specs.ReadFrameCall.{frame_position, read_frame_call}
use Rattle.frame_calls.specs.WriteFrameCall.{write_frame_call, write_frame_target}
use Rattle.refusals.proofs.FirstRefusal.{passes, passed}
use Rattle.refusals.proofs.Conditions.{accepted_board, short_decides}
use Rattle.positions.proofs.Positions.{position_back}
use Rattle.refusals.proofs.FrameConditions.{board_accepted}
use Rattle.answers.proofs.Answering.{answer_accepted, target_written, number_none}

module _ (rings : ℕ) (b : List ℕ) (e : refusal (board_picks rings b) ≡ 0) where
  -- the frame of an accepted board has 6, 10 or 14 characters
  pub frame_characters : length (frame_of rings b) ≡ frame_length rings
  frame_characters = let w = accepted_board rings b e in length_frame rings b w.rings_high w.points w.values

  -- and is read as the board's position,
  pub frame_reads : read_frame_call (frame_of rings b) ≡ accepted (rings ∷ set_of 1 b ∷ set_of 2 b ∷ [])
  unfolding read_frame_call
  frame_reads =
      let w = accepted_board rings b e in
      let p = passed (picked_rows refusal_table (board_picks rings b)) refl e in
      let f = frame_of rings b in
      let r : rings_in f ≡ rings = rings_back rings b w.rings_high w.points w.values in
      let c : board_in f ≡ b = board_back rings b w.rings_high w.points w.values in
      let z : 0 ≡ refusal (read_picks f) =
      passes (picked_rows refusal_table (read_picks f)) (
        frame_fine rings b w.rings_high w.points w.values,
        (
          ap rings_wrong r ∙ p.0,
          (
            ap not (eq-eqb (length f) (frame_length (rings_in f)) (frame_characters ∙ ap frame_length (sym r))),
            (
              ap value_wrong c ∙ p.1.1.0,
              (ap₂ (λ (k : ℕ) (l : List ℕ). counts_wrong (8 * k) (count 1 l) (count 2 l)) r c ∙ p.1.1.1.0, tt),
            ),
          ),
        ),
      ) in
      sym (answer_accepted (refusal (read_picks f)) (frame_position f) z)
      ∙ ap₂ (λ (k : ℕ) (l : List ℕ). accepted (k ∷ set_of 1 l ∷ set_of 2 l ∷ [])) r c

  -- which stands for the board
  pub position_board : board_of (8 * rings) (record { mover = set_of 1 b; opponent = set_of 2 b }) ≡ b
  position_board =
      ap (board_of (8 * rings)) (sym (position_sides b)) ∙ position_back rings b (accepted_board rings b e)

-- a board that `write_frame` accepts: the characters that it answers, read from the start of the target, give the board's position; the places
-- beyond them are as they were
pub record Back (rings : ℕ) (b old : List ℕ) : Type 0 where
  pub answers : write_frame_call rings b old ≡ accepted (frame_length rings ∷ [])
  pub reads : read_frame_call (take (frame_length rings) (write_frame_target rings b old)) ≡ accepted (rings ∷ set_of 1 b ∷ set_of 2 b ∷ [])
  pub board : board_of (8 * rings) (record { mover = set_of 1 b; opponent = set_of 2 b }) ≡ b
  pub kept : drop (frame_length rings) (write_frame_target rings b old) ≡ drop (frame_length rings) old

pub write_then_read : (rings : ℕ) (b old : List ℕ) → number (write_frame_call rings b old) ≡ 0 → Back rings b old
unfolding write_frame_call write_frame_target
write_then_read rings b old e =
    let n = number_none (refusal (short_picks rings b (length old) (frame_length rings))) (frame_length rings ∷ []) e in
    let p = passed (picked_rows refusal_table (short_picks rings b (length old) (frame_length rings))) refl n in
    let a : refusal (board_picks rings b) ≡ 0 =
    sym (passes (picked_rows refusal_table (board_picks rings b)) (p.0, (p.1.0, (p.1.1.0, (p.1.1.1.0, tt))))) in
    let room : frame_length rings ≤ length old = ltb-false (length old) (frame_length rings) p.1.1.1.1.0 in
    let f : List ℕ = frame_of rings b in
    let l : length f ≡ frame_length rings = frame_characters rings b a in
    let rest : List ℕ = drop (0 + length f) old in
    let beyond : 0 + length f ≡ frame_length rings = omega (arith, l) in
    let t : write_frame_target rings b old ≡ f ++ rest =
    sym (target_written (refusal (short_picks rings b (length old) (frame_length rings))) (sets old 0 f) old (sym n))
    ∙ sets-eq f old 0 (omega (arith, l, room)) in
    record {
      answers = sym (answer_accepted (refusal (short_picks rings b (length old) (frame_length rings))) (frame_length rings ∷ []) (sym n));
      reads = ap read_frame_call (ap (take (frame_length rings)) t ∙ take_at f rest (frame_length rings) l) ∙ frame_reads rings b a;
      board = position_board rings b a;
      kept = ap (drop (frame_length rings)) t ∙ drop_at f rest (frame_length rings) l ∙ ap (λ (k : ℕ). drop k old) beyond;
    }

-- a frame that `read_frame` accepts: its position stands for its board, and `write_frame` writes the same characters for that
pub record Same (f old : List ℕ) : Type 0 where
  pub board : board_of (8 * rings_in f) (record { mover = set_of 1 (board_in f); opponent = set_of 2 (board_in f) }) ≡ board_in f
  pub answers : write_frame_call (rings_in f) (board_in f) old ≡ accepted (length f ∷ [])
  pub writes : take (length f) (write_frame_target (rings_in f) (board_in f) old) ≡ f

pub read_then_write : (f old : List ℕ) → number (read_frame_call f) ≡ 0 → length f ≤ length old → Same f old
unfolding read_frame_call write_frame_call write_frame_target
read_then_write f old e room =
    let n = number_none (refusal (read_picks f)) (frame_position f) e in
    let p = passed (picked_rows refusal_table (read_picks f)) refl n in
    let a = board_accepted f n in
    let r = rings_in f in
    let b = board_in f in
    let g : frame_of r b ≡ f = frame_back f p.0 in
    let l : length f ≡ frame_length r = ap length (sym g) ∙ frame_characters r b a in
    let z : 0 ≡ refusal (short_picks r b (length old) (frame_length r)) =
    sym (short_decides r b (length old) (frame_length r) (sym a)
    ∙ ap (λ (t : Bool). cond t 7 0) (le-ltb (length old) (frame_length r) (omega (arith, l, room)))) in
    let t : sets old 0 (frame_of r b) ≡ f ++ drop (0 + length f) old = ap (sets old 0) g ∙ sets-eq f old 0 (omega (arith, room)) in
    record {
      board = position_board r b a;
      answers = sym (answer_accepted (refusal (short_picks r b (length old) (frame_length r))) (frame_length r ∷ []) z)
          ∙ ap (λ (k : ℕ). accepted (k ∷ [])) (sym l);
      writes =
          ap (take (length f)) (sym (target_written (refusal (short_picks r b (length old) (frame_length r))) (sets old 0 (frame_of r b)) old z) ∙ t)
          ∙ take_at f (drop (0 + length f) old) (length f) refl;
    }
