-- `board_refusals::of_board` meets its contract: each return is a row of the board's picks, with the rows before it passed. Assumes nothing.
use mathlib.Core.Path.{◌≡◌, sym, ap, ◌∙◌}
use mathlib.Core.Bool.{false, not}
use mathlib.Core.List.{List}
use native.Mathlib.Omega.{arith}
use lib.ListN.{length}
use borrow.Author.Tests.{eq-eqb, ne_eqb}
use Rattle.refusals.specs.Refusals.{Picked, refusal_table, picked_rows}
use Rattle.refusals.specs.Conditions.{board_picks, rings_wrong, length_wrong, value_wrong}
use Rattle.refusals.proofs.FirstRefusal.{meets, passes}
use Rattle.refusals.proofs.Conditions.{rings_right}
use Rattle.board_refusals.proofs.of_board.Goals as goal
use Rattle.board_refusals.proofs.of_board.Goals.{Else-board-points, Else-rings_wrong, Else-value_wrong, Start}

-- the rows that the call picks
rows : (s : Start) → List Picked
rows s = picked_rows refusal_table (board_picks s.args.rings s.args.board.now)

-- what each test passed says
rings-passed : (c : Else-rings_wrong) → rings_wrong c.args.rings ≡ false
rings-passed c = sym c.rings_wrong.ensures ∙ c.if-rings_wrong.false

length-passed : (c : Else-board-points)
    → length_wrong c.args.rings (length c.args.board.now) ≡ false
length-passed c = ap not (eq-eqb _ _ c.if-board-points.false)

value-passed : (c : Else-value_wrong) → value_wrong c.args.board.now ≡ false
value-passed c = sym c.value_wrong.ensures ∙ c.if-value_wrong.false

pub returns-then-rings_wrong : goal.returns-then-rings_wrong
unfolding rows
returns-then-rings_wrong c =
    meets (rows (goal.at.returns-then-rings_wrong c).Start) 0 tt (sym c.rings_wrong.ensures ∙ c.if-rings_wrong.true)

pub overflow_mul-points : goal.overflow_mul-points
overflow_mul-points c =
    omega (arith, rings_right c.args.rings (rings-passed (goal.at.overflow_mul-points c).Else-rings_wrong))

pub returns-then-board-points : goal.returns-then-board-points
unfolding rows
returns-then-board-points c =
    meets (rows (goal.at.returns-then-board-points c).Start) 1 (rings-passed (goal.at.returns-then-board-points c).Else-rings_wrong, tt) (ap not (ne_eqb _ _ c.if-board-points.true))

pub returns-then-value_wrong : goal.returns-then-value_wrong
unfolding rows
returns-then-value_wrong c =
    meets (rows (goal.at.returns-then-value_wrong c).Start) 2 (rings-passed (goal.at.returns-then-value_wrong c).Else-rings_wrong, (length-passed (goal.at.returns-then-value_wrong c).Else-board-points, tt))
    (sym c.value_wrong.ensures ∙ c.if-value_wrong.true)

pub stones_wrong-requires : goal.stones_wrong-requires
stones_wrong-requires c =
    omega (arith, rings_right c.args.rings (rings-passed (goal.at.stones_wrong-requires c).Else-rings_wrong))

pub returns-then-stones_wrong : goal.returns-then-stones_wrong
unfolding rows
returns-then-stones_wrong c =
    meets (rows (goal.at.returns-then-stones_wrong c).Start) 3 (rings-passed (goal.at.returns-then-stones_wrong c).Else-rings_wrong, (length-passed (goal.at.returns-then-stones_wrong c).Else-board-points, (value-passed (goal.at.returns-then-stones_wrong c).Else-value_wrong, tt)))
    (sym c.stones_wrong.ensures ∙ c.if-stones_wrong.true)

pub returns : goal.returns
unfolding rows
returns c =
    passes (rows (goal.at.returns c).Start)
    (rings-passed (goal.at.returns c).Else-rings_wrong, (length-passed (goal.at.returns c).Else-board-points, (value-passed (goal.at.returns c).Else-value_wrong, (sym c.stones_wrong.ensures ∙ c.if-stones_wrong.false, tt))))
