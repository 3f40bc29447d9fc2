-- `checking::check_row` meets its contract. The invariant: the tables passed have right entries. Assumes nothing.
use mathlib.Core.Path.{◌≡◌, ap}
use mathlib.Core.Bool.{Bool}
use mathlib.Core.List.{List}
use Prim.Native.Nat.{ℕ, ◌+◌, ◌*◌, ◌≤◌}
use native.Mathlib.Omega.{arith}
use lib.ListN.{length}
use Rattle.lists.specs.Lists.{each}
use Rattle.layout.specs.Layout.{row, table}
use Rattle.layout.proofs.OneToOne.{row_within}
use Rattle.rules.specs.Ply.{removable}
use Rattle.certificate.specs.Certificate.{boards_of, entry_right}
use Rattle.certificate.proofs.Passing.{going_none}
use Rattle.certificate.proofs.Boards.{all_tables, boards_length}
use Rattle.checking.specs.Inner.Checking.{count_of}
use Rattle.checking.proofs.Steps.{step_passed, step_failed, step_room, steps_done}
use Rattle.checking.proofs.check_row.Goals as goal
use Rattle.checking.proofs.check_row.Goals.{Start, After-check_table}

-- what is tested, and its parts
abbrev test : (s : Start) → List ℕ → Bool
test s = let a = s.args in entry_right (removable a.kind.edition) a.kind.rings a.kind.k a.tablebase.now

abbrev tested : (s : Start) → List (List ℕ)
tested s = let a = s.args in each (λ t. boards_of (8 * a.kind.rings) t) (row a.kind.k a.m)

abbrev part : (s : Start) → ℕ → List (List ℕ)
part s i = let a = s.args in boards_of (8 * a.kind.rings) (table a.m i)

pub returns-in-Err : goal.returns-in-Err
returns-in-Err c =
    step_failed (part (goal.at.returns-in-Err c).Start) (test (goal.at.returns-in-Err c).Start) (tested (goal.at.returns-in-Err c).Start) c.loop-o.count c.loop-o.o (c.args.kind.k + 1) c.loop-o.invariant
    (omega (arith, c.loop-o-test.true)) c.check_table.result c.check_table.ensures c.in-Err.n c.in-Err.is

pub returns : goal.returns
returns c =
    steps_done (part (goal.at.returns c).Start) (test (goal.at.returns c).Start) (tested (goal.at.returns c).Start) c.loop-o.count c.loop-o.o (c.args.kind.k + 1) c.loop-o.invariant (omega (arith, c.loop-o-test.false))

pub loop-o-init : goal.loop-o-init
loop-o-init c =
    let a = c.args in
    going_none (test (goal.at.loop-o-init c).Start) (tested (goal.at.loop-o-init c).Start) _ (all_tables (8 * a.kind.rings) a.kind.k a.m c.requires.whole.0.largest_low)

pub loop-o-preserved : goal.loop-o-preserved
loop-o-preserved c =
    step_passed (part (goal.at.loop-o-preserved c).Start) (test (goal.at.loop-o-preserved c).Start) (tested (goal.at.loop-o-preserved c).Start) c.loop-o.count c.loop-o.o (c.args.kind.k + 1) c.loop-o.invariant
    (omega (arith, c.loop-o-test.true)) c.check_table.result c.check_table.ensures c.in-Ok.n c.in-Ok.is

pub check_table-requires : goal.check_table-requires
check_table-requires c =
    let p = c.requires in record { masks = p.masks; whole = (p.whole.0, p.whole.1, p.whole.2, omega arith, omega (arith, c.loop-o-test.true)) }

-- the entries of a row are no more than those of the tablebase
within : (c : After-check_table) (n : ℕ) → count_of c.check_table.result ≡ n → c.loop-o.count + n ≤ length c.args.tablebase.now
within c n e =
    let a = c.args in
    let w = c.requires.whole in
    omega (
      arith,
      step_room (λ i. boards_of (8 * a.kind.rings) (table a.m i)) (entry_right (removable a.kind.edition) a.kind.rings a.kind.k a.tablebase.now)
          (each (λ t. boards_of (8 * a.kind.rings) t) (row a.kind.k a.m)) c.loop-o.count c.loop-o.o (a.kind.k + 1) c.loop-o.invariant
          (omega (arith, c.loop-o-test.true)) c.check_table.result c.check_table.ensures n e,
      boards_length (8 * a.kind.rings) (row a.kind.k a.m),
      row_within (8 * a.kind.rings) a.kind.k a.m w.1 w.2,
      w.0.exact,
    )

pub overflow_add-count : goal.overflow_add-count
overflow_add-count c = omega (arith, within (goal.at.overflow_add-count c).After-check_table c.in-Ok.n (ap count_of c.in-Ok.is))

pub overflow_add-result : goal.overflow_add-result
overflow_add-result c = omega (arith, within (goal.at.overflow_add-result c).After-check_table c.in-Err.n (ap count_of c.in-Err.is))
