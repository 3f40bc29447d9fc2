-- `entry_calls::lookup` meets its contract: a refusal of rings, edition, board, K or tablebase, then of a void entry, or the entry. Assumes nothing.
use mathlib.Core.Path.{◌≡◌, sym, ap, ◌∙◌}
use mathlib.Core.List.{[], ◌∷◌}
use Prim.Native.Nat.{ℕ}
use lib.ListN.{length}
use borrow.Author.Tests.{eq-eqb, ne_eqb}
use Rattle.outcomes.specs.Places.{entry_at}
use Rattle.refusals.proofs.TablebaseConditions.{AcceptedEntry, accepted_entry, lookup_refused}
use Rattle.refusals.proofs.Conditions.{few_points}
use Rattle.answers.specs.Answers.{accepted, refusal_number}
use Rattle.answers.proofs.Answering.{answer_refused, refusal_some, handed_on}
use Rattle.positions.proofs.Positions.{ShowsBoard, board_shown}
use Rattle.entry_calls.specs.LookupCall.{lookup_call}
use Rattle.entry_calls.proofs.Stands.{stands, void_answer, entry_answer}
use Rattle.entry_calls.proofs.lookup.Goals as goal
use Rattle.entry_calls.proofs.lookup.Goals.{After-entry_of-entry, After-position_of-position, In_ok-of_tablebase}

pub returns-in_err-of_tablebase : goal.returns-in_err-of_tablebase
unfolding lookup_call
returns-in_err-of_tablebase c =
    let a = c.args in
    let r = c.in_err-of_tablebase.field-0.0 in
    rw (handed_on c.from_residual.result r c.from_residual.ensures.1)
    (answer_refused (refusal_number r) _ _ (refusal_some r)
    (lookup_refused a.rings a.edition a.board.now a.k a.tablebase.now (refusal_number r) (refusal_some r) c.in_err-of_tablebase.ensures))

-- past them board and tablebase are accepted, and the position shows the board
known : (c : In_ok-of_tablebase) → AcceptedEntry c.args.rings c.args.board.now c.args.k (length c.args.tablebase.now)
known c = let a = c.args in accepted_entry a.rings a.edition a.board.now a.k (length a.tablebase.now) (sym c.in_ok-of_tablebase.ensures)

shows : (c : After-position_of-position) → ShowsBoard c.args.rings c.args.board.now c.position_of-position.result
shows c =
    let a = c.args in
    board_shown _ _ (accepted_entry a.rings a.edition a.board.now a.k (length a.tablebase.now) (sym c.in_ok-of_tablebase.ensures)).board _
    c.position_of-position.ensures

entry_is : (c : After-entry_of-entry) → ShowsBoard c.args.rings c.args.board.now c.position_of-position.result
    → c.entry_of-entry.result ≡ entry_at c.args.rings c.args.k c.args.tablebase.now c.args.board.now
entry_is c w =
    let a = c.args in
    c.entry_of-entry.ensures ∙ ap (entry_at a.rings a.k a.tablebase.now) w.back

pub position_of-position-requires : goal.position_of-position-requires
position_of-position-requires c = few_points _ _ (known (goal.at.position_of-position-requires c).In_ok-of_tablebase).board

pub entry_of-entry-requires : goal.entry_of-entry-requires
entry_of-entry-requires c =
    let a = c.args in
    stands a.rings a.board.now a.k _ (known (goal.at.entry_of-entry-requires c).In_ok-of_tablebase) (shows (goal.at.entry_of-entry-requires c).After-position_of-position)

pub returns-then-entry : goal.returns-then-entry
returns-then-entry c =
    let a = c.args in
    void_answer a.rings a.edition a.board.now a.k a.tablebase.now c.in_ok-of_tablebase.ensures
    (eq-eqb _ _ (sym (entry_is (goal.at.returns-then-entry c).After-entry_of-entry (shows (goal.at.returns-then-entry c).After-position_of-position)) ∙ c.if-entry.true))

pub returns : goal.returns
returns c =
    let a = c.args in
    ap (λ (e : ℕ). accepted (e ∷ [])) (entry_is (goal.at.returns c).After-entry_of-entry (shows (goal.at.returns c).After-position_of-position))
    ∙ entry_answer a.rings a.edition a.board.now a.k a.tablebase.now c.in_ok-of_tablebase.ensures
    (ne_eqb _ _ (λ e. c.if-entry.false (entry_is (goal.at.returns c).After-entry_of-entry (shows (goal.at.returns c).After-position_of-position) ∙ e)))
