-- The answer to a line by what reading it answers: turned back; a position that no game reaches; or the board that the two sets stand for. Assumes
-- nothing.
use mathlib.Core.Path.{◌≡◌, refl, sym, ap, ap₂, subst, ◌∙◌}
use mathlib.Core.Bool.{Bool, true, false, cond}
use mathlib.Core.List.{List, [], ◌∷◌}
use Prim.Native.Nat.{ℕ, zero, suc, ◌*◌, ◌≤◌}
use native.Mathlib.Omega.{arith}
use lib.ListN.{take}
use Rattle.board.specs.declared.Position.{Position}
use Rattle.board.specs.Board.{position_of, board_of}
use Rattle.board.proofs.Sides.{take_board, position_sides}
use Rattle.frames.specs.Frame.{rings_in, board_in}
use Rattle.plies.specs.Inner.Positions.{Placed}
use Rattle.refusals.specs.Refusals.{Picked, refusal_table, picked_rows, refusal}
use Rattle.refusals.specs.Conditions.{position_unreachable, read_picks}
use Rattle.refusals.proofs.FirstRefusal.{first_kept, one_more}
use Rattle.refusals.proofs.Conditions.{Accepted, accepted_board}
use Rattle.refusals.proofs.FrameConditions.{board_accepted}
use Rattle.answers.specs.Answers.{accepted, refused}
use Rattle.frame_calls.specs.ReadFrameCall.{frame_position, read_frame_call}
use Rattle.frame_calls.proofs.Answered.{frame_given, frame_refused}
use Rattle.positions.proofs.Positions.{ShowsBoard, board_shown}
use Rattle.text.specs.Text.{refused_line}
use Rattle.fields.specs.Fields.{desk_edition}
use Rattle.replies.specs.Replies.{board_line, line_picks, frame_line, answer_of}

module _ (tablebase line : List ℕ) where
  abbrev reading : List Picked
  reading = picked_rows refusal_table (read_picks line)

  -- a position that is read: refused with 15 where no game reaches it, else its board's line
  pub read_decides : (vs : List ℕ) → accepted vs ≡ read_frame_call line
      → answer_of tablebase line
      ≡ cond (position_unreachable (rings_in line) desk_edition (board_in line)) (refused_line 15) (board_line tablebase (rings_in line) (board_in line))
  unfolding answer_of
  read_decides vs e =
      ap (frame_line tablebase line)
      (one_more reading (position_unreachable (rings_in line) desk_edition (board_in line)) 15 refl (sym (frame_given line vs e).0))
      ∙ go (position_unreachable (rings_in line) desk_edition (board_in line))
    where
      go : (t : Bool) → frame_line tablebase line (cond t 15 0) ≡ cond t (refused_line 15) (board_line tablebase (rings_in line) (board_in line))
      go true = refl
      go false = refl

  -- turned back
  refused_line_lem : (n : ℕ) → (n ≡ 0 → ⊥) → n ≡ refusal (line_picks line) → refused_line n ≡ answer_of tablebase line
  unfolding answer_of
  refused_line_lem zero z e = absurd (z refl)
  refused_line_lem (suc n) z e = ap (frame_line tablebase line) e

  -- by reading
  pub line_refused : (n : ℕ) → refused n ≡ read_frame_call line → refused_line n ≡ answer_of tablebase line
  line_refused n e =
      let (same, some) = frame_refused line n e in
      refused_line_lem n some
      (first_kept reading (record { holds = position_unreachable (rings_in line) desk_edition (board_in line); number = 15 } ∷ []) n some same)

  -- the rings are few, and the sets stand for the frame's board
  module _ (rings m o : ℕ) (e : accepted (rings ∷ m ∷ o ∷ []) ≡ read_frame_call line) where
    given : (refusal (read_picks line) ≡ 0) × (rings ∷ m ∷ o ∷ [] ≡ frame_position line)
    given = frame_given line (rings ∷ m ∷ o ∷ []) e

    is_board : Accepted (rings_in line) (board_in line)
    is_board = accepted_board (rings_in line) (board_in line) (board_accepted line given.0)

    same_rings : rings ≡ rings_in line
    same_rings = let q = given.1 in cc

    pub few_rings : rings ≤ 3
    few_rings = omega (arith, same_rings, is_board.rings_high)

    abbrev sides : Position
    sides = record { mover = m; opponent = o }

    same_position : sides ≡ position_of (board_in line)
    same_position = let q = given.1 in cc (position_sides (board_in line))

    shown : ShowsBoard (rings_in line) (board_in line) sides
    shown = board_shown (rings_in line) (board_in line) is_board sides same_position

    same_board : board_of (8 * rings) sides ≡ board_in line
    same_board = ap (λ (r : ℕ). board_of (8 * r) sides) same_rings ∙ shown.back

    pub position_placed : Placed rings sides
    position_placed = subst (λ (r : ℕ). Placed r sides) (sym same_rings) shown.placed

    -- what the test says of the sets decides
    decided : (t : Bool) → t ≡ position_unreachable rings desk_edition (board_of (8 * rings) sides)
        → cond t (refused_line 15) (board_line tablebase (rings_in line) (board_in line)) ≡ answer_of tablebase line
    decided t q =
        ap (λ (u : Bool). cond u (refused_line 15) (board_line tablebase (rings_in line) (board_in line)))
        (q ∙ ap₂ (λ (r : ℕ) (b : List ℕ). position_unreachable r desk_edition b) same_rings same_board)
        ∙ sym (read_decides (rings ∷ m ∷ o ∷ []) e)

    pub line_unreachable : true ≡ position_unreachable rings desk_edition (board_of (8 * rings) sides) → refused_line 15 ≡ answer_of tablebase line
    line_unreachable q = decided true q

    pub line_board : false ≡ position_unreachable rings desk_edition (board_of (8 * rings) sides) → (b : List ℕ) → b ≡ take (8 * rings) (board_of 24 sides)
        → board_line tablebase rings b ≡ answer_of tablebase line
    line_board p b q =
        ap₂ (board_line tablebase) same_rings (q ∙ take_board (8 * rings) 24 sides (omega (arith, few_rings)) ∙ same_board) ∙ decided false p
