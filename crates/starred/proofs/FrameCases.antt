-- The frames of document 01's example, by computation: `018526` and `012256` stand for the boards of its starred cases, `0185` is refused.
-- Assumes nothing.
use mathlib.Core.Path.{◌≡◌, refl}
use mathlib.Core.List.{List, [], ◌∷◌, reverse}
use Prim.Native.Nat.{ℕ}
use Rattle.board.specs.Board.{set_of}
use Rattle.frames.specs.Frame.{any_outside, frame_wrong, value_of, character_of, byte_of, bytes_in, points_in, rings_in, board_in, packed, spelled, frame_of}
use Rattle.refusals.specs.Conditions.{value_wrong}
use Rattle.answers.specs.Answers.{accepted, refused}
use Rattle.frame_calls.specs.ReadFrameCall.{read_frame_call}

-- a frame stands for a one-ring board, read from point 7 down
pub record StandsFor (f reading : List ℕ) : Type 0 where
  pub reads : read_frame_call f ≡ accepted (1 ∷ set_of 1 (reverse reading) ∷ set_of 2 (reverse reading) ∷ [])
  pub board : board_in f ≡ reverse reading
  pub written : frame_of 1 (reverse reading) ≡ f

pub win_in_one : StandsFor (48 ∷ 49 ∷ 56 ∷ 53 ∷ 50 ∷ 54 ∷ []) (0 ∷ 2 ∷ 1 ∷ 2 ∷ 2 ∷ 0 ∷ 1 ∷ 1 ∷ [])
unfolding read_frame_call set_of any_outside frame_wrong value_of character_of byte_of bytes_in points_in rings_in board_in packed spelled frame_of value_wrong
win_in_one = record { reads = refl; board = refl; written = refl }

pub loss_in_two : StandsFor (48 ∷ 49 ∷ 50 ∷ 50 ∷ 53 ∷ 54 ∷ []) (1 ∷ 1 ∷ 1 ∷ 2 ∷ 0 ∷ 2 ∷ 0 ∷ 2 ∷ [])
unfolding read_frame_call set_of any_outside frame_wrong value_of character_of byte_of bytes_in points_in rings_in board_in packed spelled frame_of value_wrong
loss_in_two = record { reads = refl; board = refl; written = refl }

pub too_short : read_frame_call (48 ∷ 49 ∷ 56 ∷ 53 ∷ []) ≡ refused 2
unfolding read_frame_call any_outside frame_wrong value_of byte_of bytes_in points_in rings_in board_in value_wrong
too_short = refl
