-- `board::value_at` meets its contract. Assumes nothing.
use mathlib.Core.Path.{ap₂}
use mathlib.Core.Bool.{Bool}
use Prim.Native.Nat.{◌+◌, ◌*◌}
use native.Mathlib.Omega.{arith}
use Rattle.board.specs.Board.{digit, value_at}
use Rattle.board.proofs.Sides.{digit_lt}
use Rattle.board.proofs.value_at.Goals as goal

pub overflow_mul-result : goal.overflow_mul-result
overflow_mul-result c = omega (arith, digit_lt c.has-2.result)

pub overflow_add-result : goal.overflow_add-result
overflow_add-result c = omega (arith, digit_lt c.has.result, digit_lt c.has-2.result)

pub returns : goal.returns
unfolding value_at
returns c = ap₂ (λ (s t : Bool). digit s + 2 * digit t) c.has.ensures c.has-2.ensures
