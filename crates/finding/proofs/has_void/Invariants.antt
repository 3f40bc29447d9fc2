-- `finding::has_void` meets its contract. The invariant: what the entries passed say, and those that are left. Assumes nothing.
use Rattle.std.proofs.Common.{◌≡◌, ◌||◌, eqb, drop}
use Rattle.lists.specs.Lists.{any}
use Rattle.game.specs.Game.{void_entry}
use Rattle.finding.proofs.has_void.Given as goal

abbrev pub invariant-loop-e : goal.invariant-loop-e
invariant-loop-e l = (l.found || any (λ e. eqb e void_entry) (drop l.e-index l.part)) ≡ any (λ e. eqb e void_entry) l.part
