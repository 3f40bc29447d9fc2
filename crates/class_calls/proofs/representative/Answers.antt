-- `class_calls::representative` meets its contract: the first refusal of the board's picks, or the rank of its representative. Assumes nothing.
use mathlib.Core.Path.{sym, ap, ◌∙◌}
use mathlib.Core.List.{List, [], ◌∷◌}
use Prim.Native.Nat.{ℕ}
use native.Mathlib.Omega.{arith}
use Rattle.symmetry.specs.Representative.{representative}
use Rattle.ranking.specs.Rank.{rank as Rank·rank}
use Rattle.refusals.specs.Refusals.{refusal}
use Rattle.refusals.specs.Conditions.{board_picks}
use Rattle.answers.specs.Answers.{accepted, refusal_number}
use Rattle.class_calls.specs.RepresentativeCall.{representative_call}
use Rattle.refusals.proofs.Conditions.{accepted_board}
use Rattle.answers.proofs.Answering.{answer_refused, answer_accepted, refusal_some, handed_on}
use Rattle.class_calls.proofs.representative.Goals as goal

pub returns-in_err-of_board : goal.returns-in_err-of_board
unfolding representative_call
returns-in_err-of_board c =
    let r = c.in_err-of_board.field-0.0 in
    rw (handed_on c.from_residual.result r c.from_residual.ensures.1) (answer_refused (refusal_number r) _ _ (refusal_some r) c.in_err-of_board.ensures)

pub returns : goal.returns
unfolding representative_call
returns c =
    let a = c.args in
    let b : List ℕ = a.board.now in
    ap (λ (r : ℕ). accepted (r ∷ [])) c.representative_rank.ensures
    ∙ answer_accepted (refusal (board_picks a.rings b)) (Rank·rank (representative a.rings b) ∷ [])
    c.in_ok-of_board.ensures

pub representative_rank-requires : goal.representative_rank-requires
representative_rank-requires c =
    let a = c.args in
    let w = accepted_board a.rings a.board.now (sym c.in_ok-of_board.ensures) in (omega (arith, w.rings_high), omega (arith, w.points), w.values)
