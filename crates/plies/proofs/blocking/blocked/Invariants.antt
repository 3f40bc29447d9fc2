-- `plies::blocking::blocked` meets its contract. Assumes nothing.
use mathlib.Core.Path.{◌≡◌, refl, ap, ◌∙◌}
use mathlib.Core.Bool.{true, false}
use Prim.Native.Nat.{ℕ}
use Rattle.sets.specs.Sets.{bit, without}
use Rattle.sets.specs.Inner.Taken.{Taken}
use Rattle.sets.proofs.Least.{taken}
use Rattle.sets.proofs.Elements.{bit_low}
use Rattle.sets.proofs.Passing.{Sought, sought_none, sought_more, sought_found, sought_all}
use Rattle.plies.proofs.Movable.{movable, stone_stuck, stone_free, none_movable}
use Rattle.plies.proofs.OnPositions.{mover_small}
use Rattle.plies.proofs.StoneMoves.{mover_fits}
use Rattle.plies.proofs.blocking.blocked.Given as goal

abbrev pub invariant-loop-left : goal.invariant-loop-left
invariant-loop-left l = Sought (λ from. movable l.rings l.position from) l.position.mover l.left

abbrev pub decreases-loop-left : goal.decreases-loop-left
decreases-loop-left l = l.left
