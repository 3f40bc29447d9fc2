-- `checking::check_row` meets its contract. The invariant: the tables passed have right entries. Assumes nothing.
use Prim.Native.Nat.{◌+◌, ◌*◌}
use Rattle.lists.specs.Lists.{each}
use Rattle.layout.specs.Layout.{row, table}
use Rattle.rules.specs.Ply.{removable}
use Rattle.certificate.specs.Certificate.{boards_of, entry_right}
use Rattle.certificate.proofs.Passing.{Going, parts_from}
use Rattle.checking.proofs.check_row.Given as goal

abbrev pub invariant-loop-o : goal.invariant-loop-o
invariant-loop-o l =
    Going (entry_right (removable l.kind.edition) l.kind.rings l.kind.k l.tablebase) (each (λ t. boards_of (8 * l.kind.rings) t) (row l.kind.k l.m)) l.count
    (parts_from (λ i. boards_of (8 * l.kind.rings) (table l.m i)) l.o (l.kind.k + 1))
