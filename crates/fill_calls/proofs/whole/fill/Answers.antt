-- `fill_calls::whole::fill` meets its contract: turned back with the tablebase as it was, or what the solver leaves. Assumes nothing.
use mathlib.Core.Path.{ap, ◌≡◌, sym}
use mathlib.Core.Bool.{Bool, true, false, cond}
use mathlib.Core.List.{[]}
use native.Mathlib.Omega.{arith}
use lib.ListN.{length}
use Rattle.answers.specs.Answers.{answer, refusal_number}
use Rattle.answers.proofs.Answering.{refusal_some, handed_on}
use Rattle.fill_calls.specs.Fills.{FillCall}
use Rattle.refusals.proofs.TablebaseConditions.{AcceptedFill, accepted_fill}
use Rattle.filling.specs.Inner.Solve.{deep_of}
use Rattle.filling.proofs.Deep.{is_filled, is_deep}
use Rattle.fill_calls.proofs.Promised.{fill_refused, fill_kept}
use Rattle.fill_calls.proofs.whole.fill.Goals as goal
use Rattle.fill_calls.proofs.whole.fill.Goals.{After-solve_all, In_ok-of_fill}

pub returns-in_err-of_fill : goal.returns-in_err-of_fill
returns-in_err-of_fill c =
    let a = c.args in
    let r = c.in_err-of_fill.field-0.0 in
    rw (handed_on c.from_residual.result r c.from_residual.ensures.1)
    (fill_refused a.rings a.edition a.k a.limit a.tablebase.now (refusal_number r) (refusal_some r) c.in_err-of_fill.ensures)

-- past the refusals
known : (c : In_ok-of_fill) → AcceptedFill c.args.rings c.args.edition c.args.k c.args.limit
    (length c.args.tablebase.now)
known c = accepted_fill _ _ _ _ _ (sym c.in_ok-of_fill.ensures)

kept : (c : After-solve_all) (deep : Bool) → deep_of c.solve_all.result ≡ deep
    → FillCall c.args.rings c.args.edition c.args.k
    c.args.limit
    c.args.tablebase.now c.solve_all.new.tablebase (answer (cond deep 13 0) [])
kept c deep d =
    let a = c.args in
    fill_kept a.rings a.edition a.k a.limit a.tablebase.now c.solve_all.new.tablebase (deep_of c.solve_all.result) deep c.in_ok-of_fill.ensures
    c.solve_all.ensures d

pub masks_of-masks-requires : goal.masks_of-masks-requires
masks_of-masks-requires c = (known (goal.at.masks_of-masks-requires c).In_ok-of_fill).tablebase.rings_high

pub overflow_cast-limit : goal.overflow_cast-limit
overflow_cast-limit c = omega (arith, (known (goal.at.overflow_cast-limit c).In_ok-of_fill).limit_high)

pub solve_all-requires : goal.solve_all-requires
solve_all-requires c =
    let w = known (goal.at.solve_all-requires c).In_ok-of_fill in
    record {
      masks = c.masks_of-masks.ensures;
      all_given = record {
        some = w.tablebase.largest_low;
        few = w.tablebase.largest_high;
        room = w.tablebase.exact;
        limit_low = omega (arith, w.limit_high);
      };
    }

pub returns-in-Err : goal.returns-in-Err
returns-in-Err c = kept (goal.at.returns-in-Err c).After-solve_all true (is_deep c.in-Err.is)

pub returns-in-Ok : goal.returns-in-Ok
returns-in-Ok c = kept (goal.at.returns-in-Ok c).After-solve_all false (is_filled c.in-Ok.is)
