-- `solver::solve_all` meets its contract. The invariant: the rows before m are filled. Assumes nothing.
use mathlib.Core.Path.{◌≡◌, ap, subst, ◌∙◌}
use mathlib.Core.Bool.{Bool, true, false}
use mathlib.Core.List.{List}
use Prim.Native.Nat.{ℕ, ◌+◌, ◌<◌}
use native.Mathlib.Omega.{arith}
use lib.ListN.{length, get_or}
use Rattle.game.specs.Game.{void_entry}
use Rattle.outcomes.proofs.TrueTables.{true_whole, deep_void}
use Rattle.outcomes.proofs.Order.{done_first, done_all}
use Rattle.parts.proofs.Filling.{filled_length, filled_in}
use Rattle.solver.specs.Inner.Solve.{PairsFilled}
use Rattle.rules.specs.Ply.{removable}
use Rattle.filling.specs.Inner.Solve.{deep_of}
use Rattle.filling.proofs.Deep.{is_filled, is_deep}
use Rattle.solver.proofs.solve_all.Goals as goal
use Rattle.solver.proofs.solve_all.Goals.{After-solve_row, After-fill_table}

pub loop-m-init : goal.loop-m-init
loop-m-init c =
    done_first (removable c.args.bounds.edition) c.args.bounds.rings c.args.bounds.k c.args.bounds.limit c.args.tablebase.now

pub solve_row-requires : goal.solve_row-requires
solve_row-requires c =
    let h = c.requires.all_given in
    record {
      masks = c.requires.masks;
      row_given = record {
        pair = record {
          small = c.requires.masks.small;
          mover_low = omega arith;
          mover_high = omega arith;
          opponent_low = omega arith;
          opponent_high = omega arith;
        };
        few = h.few;
        room = c.loop-m.auto.tablebase ∙ h.room;
        done = c.loop-m.invariant;
        limit_low = h.limit_low;
        used = c.all_maps-maps.ensures;
      };
    }

-- what solving the row says, once its answer is known
row : (c : After-solve_row) (b : Bool) → deep_of c.solve_row.result ≡ b
    → PairsFilled (removable c.args.bounds.edition) c.args.bounds.rings c.args.bounds.k c.args.bounds.limit (c.loop-m.m + 1) 3 c.solve_row.new.tablebase b
row c b e =
    let a = c.args.bounds in
    subst (PairsFilled (removable a.edition) a.rings a.k a.limit (c.loop-m.m + 1) 3 c.solve_row.new.tablebase) e c.solve_row.ensures.1

pub loop-m-preserved : goal.loop-m-preserved
loop-m-preserved c = row (goal.at.loop-m-preserved c).After-solve_row false (is_filled c.in_default.is)

pub fill_table-requires : goal.fill_table-requires
fill_table-requires c = (omega arith, omega arith)

voided : (c : After-fill_table)
    → (length c.fill_table.new.tablebase ≡ length c.solve_row.new.tablebase)
    × ((j : ℕ) → j < length c.fill_table.new.tablebase → get_or c.fill_table.new.tablebase j 0 ≡ void_entry)
voided c =
    let l = c.solve_row.new.tablebase in
    let e = c.fill_table.ensures in
    let n = filled_length 0 (length l) void_entry l (omega arith) (omega arith) in (
      ap length e ∙ n,
      λ j h. ap (λ (z : List ℕ). get_or z j 0) e
          ∙ filled_in 0 (length l) void_entry l (omega arith) (omega arith) j (omega arith) (subst (λ (i : ℕ). j < i) (ap length e ∙ n) h),
    )

pub returns-in-Err : goal.returns-in-Err
returns-in-Err c =
    let a = c.args.bounds in
    let v = voided (goal.at.returns-in-Err c).After-fill_table in
    deep_void (removable a.edition) a.rings a.k a.limit c.args.tablebase.now c.fill_table.new.tablebase c.requires.all_given.room
    (v.0 ∙ c.solve_row.ensures.0 ∙ c.loop-m.auto.tablebase)
    (row (goal.at.returns-in-Err c).After-solve_row true (is_deep c.in-Err.is)) v.1

pub returns : goal.returns
returns c =
    let a = c.args.bounds in
    true_whole (removable a.edition) a.rings a.k a.limit c.args.tablebase.now c.loop-m.tablebase c.requires.all_given.room
    c.loop-m.auto.tablebase (done_all (removable a.edition) a.rings a.k a.limit c.loop-m.tablebase c.loop-m.m (omega arith) c.loop-m.invariant)
