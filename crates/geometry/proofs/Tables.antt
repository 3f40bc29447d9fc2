-- The fixed tables hold their rules: the rule's values, listed by computation, are the table. Assumes nothing.
use Prim.Native.Nat.{ℕ}
use lib.ListN.{length, get_or}
use Rattle.geometry.specs.declared.TheConstants.{NEIGHBOURS, DEGREES, MILLS}
use Rattle.geometry.specs.Geometry.{points, follows, inward, adjoin, neighbours, ring_mills, cross_mills, mills}
use Rattle.geometry.specs.Tables.{mill_point, NeighbourTable, DegreeTable, MillTable}
use Rattle.lists.proofs.Table.{rule, rule_rows}

pub neighbour_table : NeighbourTable NEIGHBOURS
unfolding neighbours points adjoin follows inward
neighbour_table = record { at = rule_rows (λ p j. get_or (neighbours 3 p) j 0) 4 24 }

listed : ℕ → ℕ
listed p = length (neighbours 3 p)

pub degree_table : DegreeTable DEGREES
unfolding listed neighbours points adjoin follows inward
degree_table = record { at = rule listed 24 }

pub mill_table : MillTable MILLS
unfolding mill_point mills ring_mills cross_mills
mill_table = record { at = rule_rows (λ i j. mill_point i j) 3 16 }
