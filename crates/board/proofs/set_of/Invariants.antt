-- `board::set_of` meets its contract. The invariant: the set of the bytes passed, from the highest point down. Assumes nothing.
use Rattle.std.proofs.Common.{◌≡◌, ◌++◌, List, ℕ}
use Rattle.std.specs.Slice.Iter.{iter_rest}
use Rattle.std.specs.Iterator.Adapters.{rev_source}
use Rattle.board.specs.Board.{set_of}
use Rattle.board.proofs.set_of.Given as goal

abbrev pub invariant-loop-x : goal.invariant-loop-x
invariant-loop-x l = (p : List ℕ) × (l.board ≡ iter_rest (rev_source l.x-iterator) ++ p) × (l.s ≡ set_of l.v p)
