-- `checking::check_all` meets its contract. The invariant: the rows passed have right entries. Assumes nothing.
use Prim.Native.Nat.{◌+◌, ◌*◌}
use Rattle.lists.specs.Lists.{each}
use Rattle.layout.specs.Layout.{row}
use Rattle.rules.specs.Ply.{removable}
use Rattle.certificate.specs.Certificate.{boards_of, boards, entry_right}
use Rattle.certificate.proofs.Passing.{Going, parts_from}
use Rattle.checking.proofs.check_all.Given as goal

abbrev pub invariant-loop-m : goal.invariant-loop-m
invariant-loop-m l =
    Going (entry_right (removable l.kind.edition) l.kind.rings l.kind.k l.tablebase) (boards (8 * l.kind.rings) l.kind.k) l.passed
    (parts_from (λ i. each (λ t. boards_of (8 * l.kind.rings) t) (row l.kind.k i)) l.m (l.kind.k + 1))
