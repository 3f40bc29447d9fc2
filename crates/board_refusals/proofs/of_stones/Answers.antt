-- `board_refusals::of_stones` meets its contract: each return is a row of the counts' picks, with the rows before it passed. Assumes nothing.
use mathlib.Core.Path.{◌≡◌, sym, ◌∙◌}
use mathlib.Core.Bool.{false}
use mathlib.Core.List.{List}
use Rattle.refusals.specs.Refusals.{Picked, refusal_table, picked_rows}
use Rattle.refusals.specs.Conditions.{stones_picks, rings_wrong}
use Rattle.refusals.proofs.FirstRefusal.{meets, passes}
use Rattle.board_refusals.proofs.of_stones.Goals as goal
use Rattle.board_refusals.proofs.of_stones.Goals.{Else-rings_wrong, Start}

-- the rows that the call picks
rows : (s : Start) → List Picked
rows s = picked_rows refusal_table (stones_picks s.args.rings s.args.mover s.args.opponent)

rings-passed : (c : Else-rings_wrong) → rings_wrong c.args.rings ≡ false
rings-passed c = sym c.rings_wrong.ensures ∙ c.if-rings_wrong.false

pub returns-then-rings_wrong : goal.returns-then-rings_wrong
unfolding rows
returns-then-rings_wrong c =
    meets (rows (goal.at.returns-then-rings_wrong c).Start) 0 tt (sym c.rings_wrong.ensures ∙ c.if-rings_wrong.true)

pub returns-then-counts_wrong : goal.returns-then-counts_wrong
unfolding rows
returns-then-counts_wrong c =
    meets (rows (goal.at.returns-then-counts_wrong c).Start) 1 (rings-passed (goal.at.returns-then-counts_wrong c).Else-rings_wrong, tt) (sym c.counts_wrong.ensures ∙ c.if-counts_wrong.true)

pub returns : goal.returns
unfolding rows
returns c =
    passes (rows (goal.at.returns c).Start) (rings-passed (goal.at.returns c).Else-rings_wrong, (sym c.counts_wrong.ensures ∙ c.if-counts_wrong.false, tt))
