-- `tablebase_refusals::tablebase_wrong` meets its contract: the length is held to that of the tables. Assumes nothing.
use mathlib.Core.Path.{ap}
use mathlib.Core.Bool.{not}
use Prim.Native.Nat.{ℕ}
use lib.Dec.{eqb}
use Rattle.tablebase_refusals.proofs.tablebase_wrong.Goals as goal

pub returns : goal.returns
returns c = ap (λ (n : ℕ). not (eqb c.args.length n)) c.tablebase_length.ensures.0
