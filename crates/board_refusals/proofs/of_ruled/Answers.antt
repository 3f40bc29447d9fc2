-- `board_refusals::of_ruled` meets its contract: the refusals of rings and edition, then those of the board. Assumes nothing.
use mathlib.Core.Path.{sym, ◌∙◌}
use mathlib.Core.List.{List}
use Prim.Native.Nat.{ℕ}
use Rattle.refusals.specs.Conditions.{board_picks}
use Rattle.refusals.proofs.EditionConditions.{edition_refused, edition_decides}
use Rattle.refusals.proofs.Conditions.{rings_first}
use Rattle.answers.specs.Answers.{refusal_number}
use Rattle.answers.proofs.Answering.{refusal_some, handed_on}
use Rattle.board_refusals.proofs.of_ruled.Goals as goal

pub returns-in_err-of_edition : goal.returns-in_err-of_edition
returns-in_err-of_edition c =
    let a = c.args in
    let b : List ℕ = a.board.now in
    let r = c.in_err-of_edition.field-0.0 in
    rw (handed_on c.from_residual.result r c.from_residual.ensures.1)
    (edition_refused a.rings a.edition (board_picks a.rings b) (rings_first a.rings b) (refusal_number r) (refusal_some r)
    c.in_err-of_edition.ensures)

pub returns : goal.returns
returns c =
    let a = c.args in
    let b : List ℕ = a.board.now in
    c.of_board.ensures
    ∙ sym (edition_decides a.rings a.edition (board_picks a.rings b) (rings_first a.rings b)
    c.in_ok-of_edition.ensures)
