-- `masks::place` meets its contract. Assumes nothing.
use mathlib.Core.Path.{refl}
use mathlib.Core.Bool.{not}
use Prim.Native.Nat.{◌+◌, ◌*◌, ◌<◌}
use native.Mathlib.Omega.{arith}
use lib.Dec.{eqb}
use lib.ListN.{get_or}
use Rattle.board.specs.Board.{digit}
use Rattle.board.proofs.Sides.{digit_lt}
use Rattle.masks.specs.Inner.Placing.{placed}
use Rattle.masks.proofs.place.Goals as goal
use Rattle.masks.proofs.place.Goals.{After-taken-1}

-- one place further or none
few : (c : After-taken-1) → digit (not (eqb (get_or c.args.masks.now (24 + 2 * c.args.p) 0) 0)) < 2
few c = digit_lt (not (eqb (get_or c.args.masks.now (24 + 2 * c.args.p) 0) 0))

pub overflow_add-masks : goal.overflow_add-masks
overflow_add-masks c = omega (arith, few (goal.at.overflow_add-masks c).After-taken-1)

pub bounds-masks-first-2 : goal.bounds-masks-first-2
bounds-masks-first-2 c = omega (arith, few (goal.at.bounds-masks-first-2 c).After-taken-1)

pub returns : goal.returns
unfolding placed
returns c = refl
