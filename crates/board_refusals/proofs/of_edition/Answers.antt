-- `board_refusals::of_edition` meets its contract: each return is a row of the picks, with the row before it passed. Assumes nothing.
use mathlib.Core.Path.{◌≡◌, sym, ◌∙◌}
use mathlib.Core.Bool.{false}
use mathlib.Core.List.{List}
use Rattle.refusals.specs.Refusals.{Picked, refusal_table, picked_rows}
use Rattle.refusals.specs.Conditions.{rings_wrong, edition_picks}
use Rattle.refusals.proofs.FirstRefusal.{meets, passes}
use Rattle.board_refusals.proofs.of_edition.Goals as goal
use Rattle.board_refusals.proofs.of_edition.Goals.{Else-rings_wrong, Start}

-- the rows that are picked
rows : (s : Start) → List Picked
rows s = picked_rows refusal_table (edition_picks s.args.rings s.args.edition)

rings-passed : (c : Else-rings_wrong) → rings_wrong c.args.rings ≡ false
rings-passed c = sym c.rings_wrong.ensures ∙ c.if-rings_wrong.false

pub returns-then-rings_wrong : goal.returns-then-rings_wrong
unfolding rows
returns-then-rings_wrong c =
    meets (rows (goal.at.returns-then-rings_wrong c).Start) 0 tt (sym c.rings_wrong.ensures ∙ c.if-rings_wrong.true)

pub returns-then-edition_wrong : goal.returns-then-edition_wrong
unfolding rows
returns-then-edition_wrong c =
    meets (rows (goal.at.returns-then-edition_wrong c).Start) 1 (rings-passed (goal.at.returns-then-edition_wrong c).Else-rings_wrong, tt) (sym c.edition_wrong.ensures ∙ c.if-edition_wrong.true)

pub returns : goal.returns
unfolding rows
returns c =
    passes (rows (goal.at.returns c).Start) (rings-passed (goal.at.returns c).Else-rings_wrong, (sym c.edition_wrong.ensures ∙ c.if-edition_wrong.false, tt))
