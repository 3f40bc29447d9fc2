-- `tablebase_refusals::of_largest` meets its contract: each return is a row of the picks, with the row before it passed. Assumes nothing.
use mathlib.Core.Path.{◌≡◌, sym, ◌∙◌}
use mathlib.Core.Bool.{false}
use mathlib.Core.List.{List}
use native.Mathlib.Omega.{arith}
use Rattle.refusals.specs.Refusals.{Picked, refusal_table, picked_rows}
use Rattle.refusals.specs.Conditions.{largest_wrong, largest_picks}
use Rattle.refusals.proofs.FirstRefusal.{meets, passes}
use Rattle.refusals.proofs.TablebaseConditions.{largest_right}
use Rattle.tablebase_refusals.proofs.of_largest.Goals as goal
use Rattle.tablebase_refusals.proofs.of_largest.Goals.{Else-largest_wrong, Start}

-- the rows that are picked
rows : (s : Start) → List Picked
rows s = picked_rows refusal_table (largest_picks s.args.rings s.args.k s.args.above s.args.length)

largest-passed : (c : Else-largest_wrong) → largest_wrong c.args.k c.args.above ≡ false
largest-passed c = sym c.largest_wrong.ensures ∙ c.if-largest_wrong.false

pub returns-then-largest_wrong : goal.returns-then-largest_wrong
unfolding rows
returns-then-largest_wrong c =
    meets (rows (goal.at.returns-then-largest_wrong c).Start) 0 tt (sym c.largest_wrong.ensures ∙ c.if-largest_wrong.true)

pub tablebase_wrong-requires : goal.tablebase_wrong-requires
tablebase_wrong-requires c =
    let l = largest_right c.args.k c.args.above (largest-passed (goal.at.tablebase_wrong-requires c).Else-largest_wrong) in omega (arith, c.requires, l)

pub returns-then-tablebase_wrong : goal.returns-then-tablebase_wrong
unfolding rows
returns-then-tablebase_wrong c =
    meets (rows (goal.at.returns-then-tablebase_wrong c).Start) 1 (largest-passed (goal.at.returns-then-tablebase_wrong c).Else-largest_wrong, tt) (sym c.tablebase_wrong.ensures ∙ c.if-tablebase_wrong.true)

pub returns : goal.returns
unfolding rows
returns c =
    passes (rows (goal.at.returns c).Start) (largest-passed (goal.at.returns c).Else-largest_wrong, (sym c.tablebase_wrong.ensures ∙ c.if-tablebase_wrong.false, tt))
