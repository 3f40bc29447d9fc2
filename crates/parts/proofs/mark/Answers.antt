-- `parts::mark` meets its contract. Assumes nothing.
use mathlib.Core.Path.{sym, ap}
use mathlib.Core.Bool.{Bool, true, false}
use lib.ListN.{get_or, set}
use borrow.Author.Tests.{eq-eqb, ne_eqb}
use Rattle.game.specs.Game.{draw_entry, void_entry}
use Rattle.parts.proofs.mark.Goals as goal

pub returns-then-part-r : goal.returns-then-part-r
returns-then-part-r c =
    let a = c.args in
    ap (λ (t : Bool). elim t [ true ↦ set a.part.now a.r void_entry | false ↦ a.part.now ])
    (sym (eq-eqb (get_or a.part.now a.r 0) draw_entry c.if-part-r.true))

pub returns-else-part-r : goal.returns-else-part-r
returns-else-part-r c =
    let a = c.args in
    ap (λ (t : Bool). elim t [ true ↦ set a.part.now a.r void_entry | false ↦ a.part.now ])
    (sym (ne_eqb (get_or a.part.now a.r 0) draw_entry c.if-part-r.false))
