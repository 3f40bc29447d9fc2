-- `fill_calls::pair::fill_pair` meets its contract: turned back with the tablebase as it was, or what the solver leaves. Assumes nothing.
use mathlib.Core.Path.{◌≡◌, sym, ap, ◌∙◌}
use mathlib.Core.Bool.{Bool, true, false, cond}
use mathlib.Core.List.{[]}
use native.Mathlib.Omega.{arith}
use lib.ListN.{length}
use Rattle.outcomes.specs.Places.{lower_void}
use Rattle.outcomes.specs.Pair.{Pair}
use Rattle.outcomes.proofs.Voids.{void_free}
use Rattle.refusals.specs.Refusals.{refusal}
use Rattle.refusals.specs.Conditions.{pair_picks}
use Rattle.answers.specs.Answers.{answer, refusal_number}
use Rattle.answers.proofs.Answering.{refusal_some, handed_on}
use Rattle.fill_calls.specs.Fills.{FillPairCall}
use Rattle.refusals.proofs.TablebaseConditions.{AcceptedPair, accepted_pair, pair_refused, pair_decides}
use Rattle.filling.specs.Inner.Solve.{deep_of}
use Rattle.filling.proofs.Deep.{is_filled, is_deep}
use Rattle.fill_calls.proofs.Promised.{pair_turned, pair_kept}
use Rattle.fill_calls.proofs.pair.fill_pair.Goals as goal
use Rattle.fill_calls.proofs.pair.fill_pair.Goals.{After-solve_given, In_ok-of_pair}

pub returns-in_err-of_pair : goal.returns-in_err-of_pair
returns-in_err-of_pair c =
    let a = c.args in
    let r = c.in_err-of_pair.field-0.0 in
    rw (handed_on c.from_residual.result r c.from_residual.ensures.1)
    (pair_turned a.rings a.edition a.k a.limit a.tablebase.now a.mover a.opponent (refusal_number r) (refusal_some r)
    (pair_refused a.rings a.edition a.mover a.opponent a.k a.limit a.tablebase.now (refusal_number r) (refusal_some r) c.in_err-of_pair.ensures))

-- past the first refusals
known : (c : In_ok-of_pair) → AcceptedPair c.args.rings c.args.edition c.args.mover c.args.opponent
    c.args.k c.args.limit (length c.args.tablebase.now)
known c = accepted_pair _ _ _ _ _ _ _ (sym c.in_ok-of_pair.ensures)

is-pair : (c : In_ok-of_pair) → Pair c.args.rings c.args.k c.args.mover c.args.opponent
is-pair c =
    let w = known c in
    record {
      small = w.tablebase.rings_high;
      mover_low = w.is_table.mover_low;
      mover_high = w.is_table.mover_high;
      opponent_low = w.is_table.opponent_low;
      opponent_high = w.is_table.opponent_high;
    }

-- whether a lower entry is void decides
decided : (c : In_ok-of_pair) (t : Bool) → lower_void c.args.rings c.args.k c.args.tablebase.now c.args.mover
    c.args.opponent ≡ t
    → refusal (pair_picks c.args.rings c.args.edition c.args.mover c.args.opponent c.args.k
    c.args.limit
    c.args.tablebase.now) ≡ cond t 12 0
decided c t e =
    let a = c.args in
    pair_decides a.rings a.edition a.mover a.opponent a.k a.limit a.tablebase.now c.in_ok-of_pair.ensures ∙ ap (λ (u : Bool). cond u 12 0) e

kept : (c : After-solve_given) (deep : Bool) → deep_of c.solve_given.result ≡ deep
    → FillPairCall c.args.rings c.args.edition c.args.mover
    c.args.opponent
    c.args.k c.args.limit c.args.tablebase.now c.solve_given.new.tablebase
    (answer (cond deep 13 0) [])
kept c deep d =
    let a = c.args in
    pair_kept a.rings a.edition a.k a.limit a.tablebase.now a.mover a.opponent c.solve_given.new.tablebase
    (deep_of c.solve_given.result) deep
    (sym (pair_decides a.rings a.edition a.mover a.opponent a.k a.limit a.tablebase.now c.in_ok-of_pair.ensures
    ∙ ap (λ (u : Bool). cond u 12 0) (sym c.lower_void.ensures ∙ c.if-lower_void.false))) c.solve_given.ensures d

pub lower_void-requires : goal.lower_void-requires
lower_void-requires c =
    let w = known (goal.at.lower_void-requires c).In_ok-of_pair in
    (is-pair (goal.at.lower_void-requires c).In_ok-of_pair, w.tablebase.largest_high, w.tablebase.exact)

pub returns-then-lower_void : goal.returns-then-lower_void
returns-then-lower_void c =
    let a = c.args in
    pair_turned a.rings a.edition a.k a.limit a.tablebase.now a.mover a.opponent 12 (λ z. absurd (omega arith))
    (sym (decided (goal.at.returns-then-lower_void c).In_ok-of_pair true (sym c.lower_void.ensures ∙ c.if-lower_void.true)))

pub masks_of-masks-requires : goal.masks_of-masks-requires
masks_of-masks-requires c = (known (goal.at.masks_of-masks-requires c).In_ok-of_pair).tablebase.rings_high

pub overflow_cast-limit : goal.overflow_cast-limit
overflow_cast-limit c = omega (arith, (known (goal.at.overflow_cast-limit c).In_ok-of_pair).limit_high)

pub solve_given-requires : goal.solve_given-requires
solve_given-requires c =
    let a = c.args in
    let w = known (goal.at.solve_given-requires c).In_ok-of_pair in
    record {
      masks = c.masks_of-masks.ensures;
      pair_given = record {
        pair = is-pair (goal.at.solve_given-requires c).In_ok-of_pair;
        few = w.tablebase.largest_high;
        room = w.tablebase.exact;
        valid = void_free a.rings a.k a.tablebase.now w.tablebase.exact
            (λ i. omega (arith, c.slice_known-1.given i)) a.mover a.opponent (is-pair (goal.at.solve_given-requires c).In_ok-of_pair)
            (sym c.lower_void.ensures ∙ c.if-lower_void.false);
        limit_low = omega (arith, w.limit_high);
      };
    }

pub returns-in-Err : goal.returns-in-Err
returns-in-Err c = kept (goal.at.returns-in-Err c).After-solve_given true (is_deep c.in-Err.is)

pub returns-in-Ok : goal.returns-in-Ok
returns-in-Ok c = kept (goal.at.returns-in-Ok c).After-solve_given false (is_filled c.in-Ok.is)
