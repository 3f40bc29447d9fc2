-- `checking::check_table` meets its contract. The invariant: the ranks passed have right entries. Assumes nothing.
use mathlib.Core.Path.{◌≡◌}
use mathlib.Core.List.{[], ◌∷◌}
use Prim.Native.Nat.{◌*◌}
use Rattle.sizes.specs.Size.{size as size_of}
use Rattle.ranking.specs.Unrank.{unrank}
use Rattle.layout.specs.Layout.{table as table_of}
use Rattle.rules.specs.Ply.{removable}
use Rattle.seeking.specs.Inner.Cursors.{Stands}
use Rattle.certificate.specs.Certificate.{boards_of, entry_right}
use Rattle.certificate.proofs.Passing.{Going, parts_from}
use Rattle.checking.proofs.check_table.Given as goal

abbrev pub invariant-loop-r : goal.invariant-loop-r
invariant-loop-r l =
    (l.size ≡ size_of (8 * l.kind.rings) l.m l.o) × Stands l.kind.rings l.m l.o l.size l.at
    × Going (entry_right (removable l.kind.edition) l.kind.rings l.kind.k l.tablebase) (boards_of (8 * l.kind.rings) (table_of l.m l.o)) l.r
    (parts_from (λ i. unrank (8 * l.kind.rings) l.m l.o i ∷ []) l.r l.size)
