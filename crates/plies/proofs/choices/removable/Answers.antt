-- `plies::choices::removable` meets its contract. Assumes nothing.
use mathlib.Core.Path.{sym, ◌∙◌}
use Rattle.plies.proofs.OnPositions.{opponent_small, removable_free, removable_nothing, removable_all}
use Rattle.plies.proofs.choices.removable.Goals as goal

pub unshielded-free-requires : goal.unshielded-free-requires
unshielded-free-requires c =
    record { masks = c.requires.masks; side_bound = opponent_small c.args.rings c.args.position c.requires.placed }

pub returns-then-edition-eq2 : goal.returns-then-edition-eq2
returns-then-edition-eq2 c =
    sym (removable_nothing c.args.rings c.args.position c.requires.placed c.args.edition
    (sym c.unshielded-free.ensures ∙ c.if-free-eq0.true)
    c.if-edition-eq2.true)

pub returns-then-free-eq0 : goal.returns-then-free-eq0
returns-then-free-eq0 c =
    sym (removable_all c.args.rings c.args.position c.requires.placed c.args.edition
    (sym c.unshielded-free.ensures ∙ c.if-free-eq0.true) c.if-edition-eq2.false)

pub returns : goal.returns
returns c =
    let e = c.unshielded-free.ensures in
    e ∙ sym (removable_free c.args.rings c.args.position c.requires.placed c.args.edition (λ z. c.if-free-eq0.false (e ∙ z)))
