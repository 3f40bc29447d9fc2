-- `board_refusals::of_counts` meets its contract: the refusals of rings and counts, then of the target. Assumes nothing.
use mathlib.Core.Path.{◌≡◌, sym, ap, ◌∙◌}
use mathlib.Core.Bool.{Bool, cond, not}
use borrow.Author.Tests.{eq-eqb, ne_eqb}
use Rattle.refusals.specs.Refusals.{refusal}
use Rattle.refusals.specs.Conditions.{counts_picks, length_wrong}
use Rattle.refusals.proofs.Conditions.{stones_refused, room_decides}
use Rattle.answers.specs.Answers.{refusal_number}
use Rattle.answers.proofs.Answering.{refusal_some, handed_on}
use Rattle.board_refusals.proofs.of_counts.Goals as goal
use Rattle.board_refusals.proofs.of_counts.Goals.{In_ok-of_stones}

-- past rings and counts, the target decides
decided : (c : In_ok-of_stones) (t : Bool) → length_wrong c.args.rings c.args.room ≡ t
    → refusal (counts_picks c.args.rings c.args.mover c.args.opponent
    c.args.room) ≡ cond t 6 0
decided c t e =
    let a = c.args in
    room_decides a.rings a.mover a.opponent a.room c.in_ok-of_stones.ensures
    ∙ ap (λ (u : Bool). cond u 6 0) e

pub returns-in_err-of_stones : goal.returns-in_err-of_stones
returns-in_err-of_stones c =
    let a = c.args in
    let r = c.in_err-of_stones.field-0.0 in
    rw (handed_on c.from_residual.result r c.from_residual.ensures.1)
    (stones_refused a.rings a.mover a.opponent a.room (refusal_number r) (refusal_some r) c.in_err-of_stones.ensures)

pub returns-then-room-rings : goal.returns-then-room-rings
returns-then-room-rings c =
    sym (decided (goal.at.returns-then-room-rings c).In_ok-of_stones _ (ap not (ne_eqb _ _ c.if-room-rings.true)))

pub returns : goal.returns
returns c =
    sym (decided (goal.at.returns c).In_ok-of_stones _ (ap not (eq-eqb _ _ c.if-room-rings.false)))
