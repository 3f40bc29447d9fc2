-- `reachability::unreachable` meets its contract: under edition 1 and on three rings, one side or the other has nine stones against a mill. Assumes
-- nothing.
use mathlib.Core.Path.{sym, ◌∙◌}
use native.Mathlib.Omega.{arith}
use Rattle.refusals.proofs.ReachableConditions.{other_edition, few_reached}
use Rattle.reachability.proofs.OnPositions.{none_nine, first_side, second_side}
use Rattle.reachability.proofs.unreachable.Goals as goal

pub returns-then-edition-ne-EDITION : goal.returns-then-edition-ne-EDITION
returns-then-edition-ne-EDITION c =
    let a = c.args in sym (other_edition a.rings a.edition _ (λ z. omega (arith, c.if-edition-ne-EDITION.true)))

pub returns-then-rings-ne3 : goal.returns-then-rings-ne3
returns-then-rings-ne3 c =
    let a = c.args in sym (few_reached a.rings a.edition _ (λ z. omega (arith, c.if-rings-ne3.true)))

pub returns-then-none_has_nine : goal.returns-then-none_has_nine
returns-then-none_has_nine c =
    let a = c.args in
    none_nine a.rings a.edition a.position c.requires (omega (arith, c.if-edition-ne-EDITION.false)) (omega (arith, c.if-rings-ne3.false))
    (sym c.none_has_nine.ensures ∙ c.if-none_has_nine.true)

pub returns-then-nine_against_mill : goal.returns-then-nine_against_mill
returns-then-nine_against_mill c =
    let a = c.args in
    c.if-nine_against_mill.true
    ∙ first_side a.rings a.edition a.position c.requires (omega (arith, c.if-edition-ne-EDITION.false)) (omega (arith, c.if-rings-ne3.false))
    (sym c.nine_against_mill.ensures ∙ c.if-nine_against_mill.true)

pub returns-else-nine_against_mill : goal.returns-else-nine_against_mill
returns-else-nine_against_mill c =
    let a = c.args in
    c.nine_against_mill-else-nine_against_mill.ensures
    ∙ second_side a.rings a.edition a.position c.requires (omega (arith, c.if-edition-ne-EDITION.false)) (omega (arith, c.if-rings-ne3.false))
    (sym c.nine_against_mill.ensures ∙ c.if-nine_against_mill.false)
