-- What `read_frame` answers where its frame passes, and where it is turned back, for those who call it and do not open its definition. Assumes
-- nothing.
use mathlib.Core.Path.{◌≡◌, sym}
use mathlib.Core.Bool.{true}
use mathlib.Core.List.{List}
use Prim.Native.Nat.{ℕ}
use native.Mathlib.Omega.{arith}
use Rattle.frames.specs.Frame.{frame_wrong}
use Rattle.refusals.specs.Refusals.{refusal}
use Rattle.refusals.specs.Conditions.{read_picks}
use Rattle.refusals.proofs.FrameConditions.{characters_refused}
use Rattle.answers.specs.Answers.{accepted, refused}
use Rattle.answers.proofs.Answering.{answer_refused, accepted_values, refused_number}
use Rattle.frame_calls.specs.ReadFrameCall.{frame_position, read_frame_call}

-- a frame that is read passes, and gives its position; one that is refused meets that refusal; one of wrong characters meets 14
pub frame_given : (f vs : List ℕ) → accepted vs ≡ read_frame_call f → (refusal (read_picks f) ≡ 0) × (vs ≡ frame_position f)
unfolding read_frame_call
frame_given f vs e = accepted_values vs (frame_position f) (refusal (read_picks f)) e

pub frame_refused : (f : List ℕ) (n : ℕ) → refused n ≡ read_frame_call f → (n ≡ refusal (read_picks f)) × (n ≡ 0 → ⊥)
unfolding read_frame_call
frame_refused f n e = refused_number n (refusal (read_picks f)) (frame_position f) e

pub frame_turned : (f : List ℕ) → frame_wrong f ≡ true → read_frame_call f ≡ refused 14
unfolding read_frame_call
frame_turned f e = sym (answer_refused 14 (refusal (read_picks f)) (frame_position f) (λ z. absurd (omega arith)) (characters_refused f e))
