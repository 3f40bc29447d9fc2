-- `sets::share_three` meets its contract. Assumes nothing.
use mathlib.Core.Path.{ap}
use Prim.Native.Nat.{ℕ}
use lib.Dec.{eqb}
use Rattle.sets.proofs.share_three.Goals as goal

pub returns : goal.returns
returns c = ap (λ (n : ℕ). eqb n 3) c.count.ensures
