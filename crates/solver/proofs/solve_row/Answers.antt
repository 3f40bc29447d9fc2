-- `solver::solve_row` meets its contract. The invariant: the pairs before (m, o) are filled. Assumes nothing.
use mathlib.Core.Path.{◌≡◌, sym, subst, ◌∙◌}
use Prim.Native.Nat.{ℕ, ◌+◌, ◌≤◌}
use native.Mathlib.Omega.{arith}
use Rattle.rules.specs.Ply.{removable}
use Rattle.rules.proofs.Listed.{removable_takes}
use Rattle.outcomes.specs.Pair.{Pair}
use Rattle.outcomes.specs.Inner.Done.{TrueOn, DoneBefore}
use Rattle.outcomes.proofs.PairTrue.{lower_valid}
use Rattle.outcomes.proofs.Order.{done_lower, done_pair, deep_whole, done_row}
use Rattle.invariance.proofs.Groups.{group_of}
use Rattle.invariance.proofs.TrueSymmetric.{lower_true_symmetric}
use Rattle.invariance.proofs.Plies.{removable_commutes}
use Rattle.filling.specs.Inner.Solve.{PairFill}
use Rattle.solver.specs.Inner.Solve.{PairsFilled}
use Rattle.filling.proofs.Deep.{deep_error}
use Rattle.solver.proofs.solve_row.Goals as goal
use Rattle.solver.proofs.solve_row.Goals.{At-loop-o}

-- the next pair
pair_in : (x : At-loop-o) → x.loop-o.o ≤ x.args.m
    → Pair x.args.bounds.rings x.args.bounds.k x.args.m x.loop-o.o
pair_in x h =
    let p = x.requires.row_given.pair in
    record {
      small = p.small;
      mover_low = p.mover_low;
      mover_high = p.mover_high;
      opponent_low = omega arith;
      opponent_high = omega (arith, p.mover_high);
    }

pub solve_pair-requires : goal.solve_pair-requires
solve_pair-requires c =
    let a = c.args in
    let g = c.requires.row_given in
    let p = pair_in (goal.at.solve_pair-requires c).At-loop-o (omega (arith, c.loop-o-test.true)) in
    let d = done_lower (removable a.bounds.edition) (removable_takes a.bounds.edition) a.bounds.rings a.bounds.k a.m c.loop-o.o p
    (omega (arith, c.loop-o-test.true)) a.bounds.limit
    c.loop-o.tablebase
    c.loop-o.tablebase c.loop-o.invariant in record {
      masks = c.requires.masks;
      pair_given = (
        record {
          pair = p;
          few = g.few;
          room = c.loop-o.auto.tablebase ∙ g.room;
          valid = lower_valid (removable a.bounds.edition) a.bounds.rings a.bounds.k a.m c.loop-o.o c.loop-o.tablebase d;
          limit_low = g.limit_low;
        },
        g.used,
        lower_true_symmetric (removable a.bounds.edition) (removable_takes a.bounds.edition) (removable_commutes a.bounds.edition)
            a.bounds.rings a.bounds.k a.m c.loop-o.o p.small c.loop-o.tablebase d a.maps (group_of a.maps
            g.used),
      );
    }

pub shape_of-tablebase-in_err-solve_pair : goal.shape_of-tablebase-in_err-solve_pair
shape_of-tablebase-in_err-solve_pair c = c.in_err-solve_pair.ensures.kept.same_length ∙ c.loop-o.auto.tablebase

pub returns-in_err-solve_pair : goal.returns-in_err-solve_pair
returns-in_err-solve_pair c =
    let a = c.args in
    let h : c.loop-o.o ≤ a.m = omega (arith, c.loop-o-test.true) in (
      shape_of-tablebase-in_err-solve_pair c,
      subst (PairsFilled (removable a.bounds.edition) a.bounds.rings a.bounds.k a.bounds.limit (a.m + 1) 3 c.solve_pair.new.tablebase)
          (sym (deep_error c.from_residual.result c.from_residual.ensures.0))
          (deep_whole (removable a.bounds.edition) (removable_takes a.bounds.edition) a.bounds.rings a.bounds.k a.m c.loop-o.o
          (pair_in (goal.at.returns-in_err-solve_pair c).At-loop-o h) h a.bounds.limit c.loop-o.tablebase c.solve_pair.new.tablebase
          c.loop-o.invariant c.in_err-solve_pair.ensures),
    )

pub loop-o-preserved : goal.loop-o-preserved
loop-o-preserved c =
    let h : c.loop-o.o ≤ c.args.m = omega (arith, c.loop-o-test.true) in
    done_pair (removable c.args.bounds.edition) (removable_takes c.args.bounds.edition) c.args.bounds.rings c.args.bounds.k
    c.args.m c.loop-o.o (pair_in (goal.at.loop-o-preserved c).At-loop-o h) h c.args.bounds.limit
    c.loop-o.tablebase c.solve_pair.new.tablebase c.loop-o.invariant c.in_ok-solve_pair.ensures

pub returns : goal.returns
returns c =
    let e : c.loop-o.o ≡ c.args.m + 1 = omega (arith, c.requires.row_given.pair.mover_low) in (
      c.loop-o.auto.tablebase,
      done_row (removable c.args.bounds.edition) c.args.bounds.rings c.args.bounds.k
          c.args.bounds.limit c.loop-o.tablebase c.args.m
          (subst (λ (o : ℕ). TrueOn (removable c.args.bounds.edition) c.args.bounds.rings c.args.bounds.k c.args.bounds.limit
          (DoneBefore c.args.m o)
          c.loop-o.tablebase) e c.loop-o.invariant),
    )
