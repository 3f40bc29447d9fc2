-- `finding::least_from` meets its contract. The invariant: the least among the entries passed, by its difference from `low`. Assumes nothing.
use Rattle.std.proofs.Common.{◌≡◌, ℕ, ◌+◌, List, ◌++◌}
use Rattle.std.specs.Slice.Iter.{iter_rest}
use Rattle.std.specs.Iterator.Adapters.{rev_source}
use Rattle.finding.specs.Inner.Finding.{least_from}
use Rattle.finding.proofs.least_from.Given as goal

abbrev pub invariant-loop-e : goal.invariant-loop-e
invariant-loop-e l = (p : List ℕ) × (l.part ≡ iter_rest (rev_source l.e-iterator) ++ p) × (l.low + l.above ≡ least_from l.low p)
