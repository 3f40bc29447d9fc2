-- `frame_reading::four_set` meets its contract: a digit for each of the four points. Assumes nothing.
use mathlib.Core.Path.{refl}
use Prim.Native.Nat.{◌<◌}
use native.Mathlib.Omega.{arith}
use Rattle.board.specs.Board.{digit}
use Rattle.board.proofs.Sides.{digit_lt}
use Rattle.frame_reading.proofs.four_set.Goals as goal
use Rattle.frame_reading.proofs.four_set.Goals.{Start}

-- the four digits
record Four (s : Start) : Type 0 where
  pub lowest : digit s.args.a < 2
  pub second : digit s.args.b < 2
  pub third : digit s.args.c < 2
  pub highest : digit s.args.d < 2

four : (s : Start) → Four s
four s = record { lowest = digit_lt s.args.a; second = digit_lt s.args.b; third = digit_lt s.args.c; highest = digit_lt s.args.d }

pub overflow_mul-result : goal.overflow_mul-result
overflow_mul-result c = omega (arith, four (goal.at.overflow_mul-result c).Start)

pub overflow_add-result : goal.overflow_add-result
overflow_add-result c = omega (arith, four (goal.at.overflow_add-result c).Start)

pub overflow_mul-result-2 : goal.overflow_mul-result-2
overflow_mul-result-2 c = omega (arith, four (goal.at.overflow_mul-result-2 c).Start)

pub overflow_add-result-2 : goal.overflow_add-result-2
overflow_add-result-2 c = omega (arith, four (goal.at.overflow_add-result-2 c).Start)

pub overflow_mul-result-3 : goal.overflow_mul-result-3
overflow_mul-result-3 c = omega (arith, four (goal.at.overflow_mul-result-3 c).Start)

pub overflow_add-result-3 : goal.overflow_add-result-3
overflow_add-result-3 c = omega (arith, four (goal.at.overflow_add-result-3 c).Start)

pub returns : goal.returns
returns c = (refl, omega (arith, four (goal.at.returns c).Start))
