-- `frame_calls::read_frame` meets its contract: the refusal of the frame taken apart, then that of its stones, or its position. Assumes nothing.
use mathlib.Core.Path.{◌≡◌, refl, sym, ap, ◌∙◌}
use mathlib.Core.Bool.{Bool, true, false, cond}
use mathlib.Core.List.{List, [], ◌∷◌}
use Prim.Native.Nat.{ℕ, ◌*◌}
use native.Mathlib.Omega.{arith}
use Rattle.sets.specs.Sets.{members}
use Rattle.refusals.specs.Refusals.{refusal}
use Rattle.refusals.specs.Conditions.{counts_wrong, frame_picks, read_picks}
use Rattle.std.specs.Prelude.{Result, Ok, Err}
use Rattle.answers.specs.declared.Frame.{Frame}
use Rattle.answers.specs.declared.Refusal.{Refusal}
use Rattle.answers.specs.Answers.{accepted, refused, refusal_number, frame_read}
use Rattle.frame_calls.specs.ReadFrameCall.{frame_position, read_frame_call, taken_apart}
use Rattle.refusals.proofs.FrameConditions.{accepted_frame, frame_refused, stones_are, stones_decide}
use Rattle.answers.proofs.Answering.{answer_refused, answer_accepted, refused_number, accepted_values}
use Rattle.frame_calls.proofs.read_frame.Goals as goal

-- the three ways out: turned back as it was taken apart, for its stones, and accepted
module _ (f : List ℕ) where
  turned_back : (n : ℕ) → refused n ≡ taken_apart f → refused n ≡ read_frame_call f
  unfolding read_frame_call taken_apart
  turned_back n e =
      let w = refused_number n (refusal (frame_picks f)) (frame_position f) e in
      answer_refused n (refusal (read_picks f)) (frame_position f) w.1 (frame_refused f n w.1 w.0)

  module _ (rings m o : ℕ) (e : accepted (rings ∷ m ∷ o ∷ []) ≡ taken_apart f) where
    -- no refusal before the stones are counted, and the position of the frame
    given : (refusal (frame_picks f) ≡ 0) × (rings ∷ m ∷ o ∷ [] ≡ frame_position f)
    unfolding taken_apart
    given = accepted_values (rings ∷ m ∷ o ∷ []) (frame_position f) (refusal (frame_picks f)) e

    -- then the stones decide
    counted : (t : Bool) → t ≡ counts_wrong (8 * rings) (members m 32) (members o 32) → cond t 4 0 ≡ refusal (read_picks f)
    counted t h =
        ap (λ (s : Bool). cond s 4 0) (h ∙ stones_are f (accepted_frame f given.0) rings m o given.1) ∙ sym (stones_decide f (sym given.0))

    stones-turned : true ≡ counts_wrong (8 * rings) (members m 32) (members o 32) → refused 4 ≡ read_frame_call f
    unfolding read_frame_call
    stones-turned h = answer_refused 4 (refusal (read_picks f)) (frame_position f) (λ z. absurd (omega arith)) (counted true h)

    position : false ≡ counts_wrong (8 * rings) (members m 32) (members o 32) → accepted (rings ∷ m ∷ o ∷ []) ≡ read_frame_call f
    unfolding read_frame_call
    position h = ap accepted given.1 ∙ answer_accepted (refusal (read_picks f)) (frame_position f) (counted false h)

left : (f : List ℕ) (r : Result Frame Refusal) → ((p : Frame) → r ≡ Ok p → ⊥) → frame_read r ≡ taken_apart f → frame_read r ≡ read_frame_call f
left f (Ok p) h e = absurd (h p refl)
left f (Err r) h e = turned_back f (refusal_number r) e

pub returns-in_default : goal.returns-in_default
returns-in_default c = left c.args.frame.now c.take_apart-read.result c.in_default.not-Ok c.take_apart-read.ensures

pub returns-then-sides_wrong : goal.returns-then-sides_wrong
returns-then-sides_wrong c =
    let p = c.in-Ok.position in
    stones-turned c.args.frame.now p.rings p.mover p.opponent (sym (ap frame_read c.in-Ok.is) ∙ c.take_apart-read.ensures)
    (sym c.if-sides_wrong.true ∙ c.sides_wrong.ensures)

pub returns : goal.returns
returns c =
    let p = c.in-Ok.position in
    position c.args.frame.now p.rings p.mover p.opponent (sym (ap frame_read c.in-Ok.is) ∙ c.take_apart-read.ensures)
    (sym c.if-sides_wrong.false ∙ c.sides_wrong.ensures)
