-- `checking::check_all` meets its contract. The invariant: the rows passed have right entries. Assumes nothing.
use mathlib.Core.Path.{◌≡◌, ap}
use mathlib.Core.Bool.{Bool}
use mathlib.Core.List.{List}
use Prim.Native.Nat.{ℕ, ◌+◌, ◌*◌, ◌≤◌}
use native.Mathlib.Omega.{arith}
use lib.ListN.{length}
use Rattle.lists.specs.Lists.{each}
use Rattle.layout.specs.Layout.{row}
use Rattle.rules.specs.Ply.{removable}
use Rattle.certificate.specs.Certificate.{boards_of, boards, entry_right}
use Rattle.certificate.proofs.Passing.{going_none}
use Rattle.certificate.proofs.Boards.{all_rows, boards_all}
use Rattle.checking.specs.Inner.Checking.{count_of}
use Rattle.checking.proofs.Steps.{step_passed, step_failed, step_room, steps_done}
use Rattle.checking.proofs.check_all.Goals as goal
use Rattle.checking.proofs.check_all.Goals.{Start, After-check_row}

-- what is tested, and its parts
abbrev test : (s : Start) → List ℕ → Bool
test s = let a = s.args in entry_right (removable a.kind.edition) a.kind.rings a.kind.k a.tablebase.now

abbrev tested : (s : Start) → List (List ℕ)
tested s = let a = s.args in boards (8 * a.kind.rings) a.kind.k

abbrev part : (s : Start) → ℕ → List (List ℕ)
part s i = let a = s.args in each (λ t. boards_of (8 * a.kind.rings) t) (row a.kind.k i)

pub returns-in-Err : goal.returns-in-Err
returns-in-Err c =
    step_failed (part (goal.at.returns-in-Err c).Start) (test (goal.at.returns-in-Err c).Start) (tested (goal.at.returns-in-Err c).Start) c.loop-m.passed c.loop-m.m (c.args.kind.k + 1) c.loop-m.invariant
    (omega (arith, c.loop-m-test.true)) c.check_row.result c.check_row.ensures c.in-Err.n c.in-Err.is

pub returns : goal.returns
returns c =
    steps_done (part (goal.at.returns c).Start) (test (goal.at.returns c).Start) (tested (goal.at.returns c).Start) c.loop-m.passed c.loop-m.m (c.args.kind.k + 1) c.loop-m.invariant (omega (arith, c.loop-m-test.false))

pub loop-m-init : goal.loop-m-init
loop-m-init c =
    let a = c.args in
    going_none (test (goal.at.loop-m-init c).Start) (tested (goal.at.loop-m-init c).Start) _ (all_rows (8 * a.kind.rings) a.kind.k c.requires.whole.largest_low)

pub loop-m-preserved : goal.loop-m-preserved
loop-m-preserved c =
    step_passed (part (goal.at.loop-m-preserved c).Start) (test (goal.at.loop-m-preserved c).Start) (tested (goal.at.loop-m-preserved c).Start) c.loop-m.passed c.loop-m.m (c.args.kind.k + 1) c.loop-m.invariant
    (omega (arith, c.loop-m-test.true)) c.check_row.result c.check_row.ensures c.in-Ok.n c.in-Ok.is

pub check_row-requires : goal.check_row-requires
check_row-requires c =
    let p = c.requires in record { masks = p.masks; whole = (p.whole, omega arith, omega (arith, c.loop-m-test.true)) }

-- there are as many boards as entries
within : (c : After-check_row) (n : ℕ) → count_of c.check_row.result ≡ n → c.loop-m.passed + n ≤ length c.args.tablebase.now
within c n e =
    let a = c.args in
    let w = c.requires.whole in
    omega (
      arith,
      step_room (λ i. each (λ t. boards_of (8 * a.kind.rings) t) (row a.kind.k i)) (entry_right (removable a.kind.edition) a.kind.rings a.kind.k a.tablebase.now)
          (boards (8 * a.kind.rings) a.kind.k) c.loop-m.passed c.loop-m.m (a.kind.k + 1) c.loop-m.invariant
          (omega (arith, c.loop-m-test.true)) c.check_row.result c.check_row.ensures n e,
      boards_all (8 * a.kind.rings) a.kind.k,
      w.exact,
    )

pub overflow_add-passed : goal.overflow_add-passed
overflow_add-passed c = omega (arith, within (goal.at.overflow_add-passed c).After-check_row c.in-Ok.n (ap count_of c.in-Ok.is))

pub overflow_add-result : goal.overflow_add-result
overflow_add-result c = omega (arith, within (goal.at.overflow_add-result c).After-check_row c.in-Err.n (ap count_of c.in-Err.is))
