-- `tablebase_refusals::of_pair` meets its contract: the refusals of rings and edition, then of the counts, then those of K, the tablebase and the
-- limit. Assumes nothing.
use mathlib.Core.Path.{◌≡◌, sym, ap, ◌∙◌}
use mathlib.Core.Bool.{Bool}
use mathlib.Core.List.{[]}
use Rattle.refusals.specs.Refusals.{refusal}
use Rattle.refusals.specs.Conditions.{tables_picks, limit_picks, limit_wrong}
use Rattle.refusals.proofs.FirstRefusal.{first_cons}
use Rattle.refusals.proofs.Conditions.{stones_rings}
use Rattle.refusals.proofs.TablebaseConditions.{ruled_refused, tables_refused, tables_decides, limit_refused, limit_decides}
use Rattle.answers.specs.Answers.{refusal_number}
use Rattle.answers.proofs.Answering.{refusal_some, handed_on}
use Rattle.tablebase_refusals.proofs.of_pair.Goals as goal
use Rattle.tablebase_refusals.proofs.of_pair.Goals.{In_ok-of_stones}

pub returns-in_err-of_edition : goal.returns-in_err-of_edition
returns-in_err-of_edition c =
    let a = c.args in
    let r = c.in_err-of_edition.field-0.0 in
    rw (handed_on c.from_residual.result r c.from_residual.ensures.1)
    (ruled_refused a.rings a.edition a.mover a.opponent a.k a.limit a.length (refusal_number r) (refusal_some r) c.in_err-of_edition.ensures)

pub returns-in_err-of_stones : goal.returns-in_err-of_stones
returns-in_err-of_stones c =
    let a = c.args in
    let r = c.in_err-of_stones.field-0.0 in
    rw (handed_on c.from_residual-in_err-of_stones.result r c.from_residual-in_err-of_stones.ensures.1)
    (tables_refused a.rings a.edition a.mover a.opponent a.k a.limit a.length c.in_ok-of_edition.ensures (refusal_number r) (refusal_some r)
    c.in_err-of_stones.ensures)

pub of_largest-requires : goal.of_largest-requires
of_largest-requires c =
    stones_rings c.args.rings c.args.mover c.args.opponent c.in_ok-of_stones.ensures

-- past them, K, the tablebase and the limit decide
later : (c : In_ok-of_stones) → refusal (tables_picks c.args.rings c.args.edition c.args.mover c.args.opponent c.args.k c.args.limit c.args.length)
    ≡ refusal (limit_picks c.args.rings c.args.k c.count_above-above.result c.args.limit c.args.length)
later c =
    let a = c.args in
    tables_decides a.rings a.edition a.mover a.opponent a.k a.limit a.length c.in_ok-of_edition.ensures c.in_ok-of_stones.ensures
    ∙ sym (ap (λ (t : Bool). refusal (limit_picks a.rings a.k t a.limit a.length)) c.count_above-above.ensures)

pub returns-in_err-of_largest : goal.returns-in_err-of_largest
returns-in_err-of_largest c =
    let a = c.args in
    let r = c.in_err-of_largest.field-0.0 in
    rw (handed_on c.from_residual-in_err-of_largest.result r c.from_residual-in_err-of_largest.ensures.1)
    (limit_refused a.rings a.k c.count_above-above.result a.limit a.length (refusal_number r) (refusal_some r) c.in_err-of_largest.ensures
    ∙ sym (later (goal.at.returns-in_err-of_largest c).In_ok-of_stones))

pub returns : goal.returns
returns c =
    let a = c.args in
    c.of_limit.ensures ∙ first_cons (limit_wrong a.limit) 10 []
    ∙ sym (later (goal.at.returns c).In_ok-of_stones
    ∙ limit_decides a.rings a.k c.count_above-above.result a.limit a.length c.in_ok-of_largest.ensures)
