-- `reachability::none_has_nine` meets its contract: both sides are counted. Assumes nothing.
use mathlib.Core.Path.{ap₂}
use mathlib.Core.Bool.{not, ◌&&◌}
use Prim.Native.Nat.{ℕ}
use lib.Dec.{eqb}
use Rattle.reachability.proofs.none_has_nine.Goals as goal

pub returns : goal.returns
returns c = ap₂ (λ (m o : ℕ). not (eqb m 9) && not (eqb o 9)) c.count.ensures c.count-2.ensures
