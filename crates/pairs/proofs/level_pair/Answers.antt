-- `pairs::level_pair` meets its contract. Assumes nothing.
use mathlib.Core.Path.{sym, ap, subst, ◌∙◌}
use Prim.Native.Nat.{ℕ}
use lib.ListN.{length}
use Rattle.rules.specs.Ply.{removable}
use Rattle.deciding.specs.Inner.Fits.{Fits}
use Rattle.classing.specs.Inner.Classes.{least_of_class}
use Rattle.sweeping.proofs.Steps.{level_length}
use Rattle.pairs.proofs.PairSteps.{level_once, level_twice}
use borrow.Author.Rules.{rules}
use Rattle.pairs.proofs.level_pair.Goals as goal

pub returns-then-first : goal.returns-then-first
returns-then-first c =
    let a = c.args in
    c.level_table-then-first.ensures
    ∙ level_twice (removable a.edition) a.maps.rings a.tables.first a.tables.second a.tablebase.now c.level_table.new.tablebase
    a.level a.maps.count
    (least_of_class a.maps.rings a.maps.count) c.level_table.ensures
    c.if-first.true

pub returns-else-first : goal.returns-else-first
returns-else-first c =
    let a = c.args in
    level_once (removable a.edition) a.maps.rings a.tables.first a.tables.second a.tablebase.now c.level_table.new.tablebase
    a.level a.maps.count (least_of_class a.maps.rings a.maps.count)
    c.level_table.ensures c.if-first.false

pub level_table-requires : goal.level_table-requires
level_table-requires c =
    let p = c.requires.pair_sweeping in record { masks = c.requires.masks; sweeping = (record { few = p.few; fits = p.first_fits; level_low = p.level_low }, p.first_counted, p.above) }

pub level_table-requires-then-first : goal.level_table-requires-then-first
level_table-requires-then-first c =
    let a = c.args in
    let p = c.requires.pair_sweeping in
    let e = ap length c.level_table.ensures
    ∙ level_length (removable a.edition) a.maps.rings a.tables.first a.tables.second.own.start a.level a.maps.count
    (least_of_class a.maps.rings a.maps.count) a.tablebase.now in
    let f = subst (λ (n : ℕ). Fits n a.maps.rings a.tables.second a.tables.first.own.start) (sym e) p.second_fits in record { masks = c.requires.masks; sweeping = (record { few = p.few; fits = f; level_low = p.level_low }, p.second_counted, p.above) }
