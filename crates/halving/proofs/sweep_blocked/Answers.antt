-- `halving::sweep_blocked` meets its contract. Assumes nothing.
use mathlib.Core.Path.{sym, ◌∙◌}
use Prim.Native.Nat.{◌*◌}
use native.Mathlib.Omega.{arith}
use Rattle.sizes.specs.Size.{size}
use Rattle.ending.proofs.Blocked.{free_none}
use Rattle.halving.proofs.sweep_blocked.Goals as goal

pub returns-then-all_free : goal.returns-then-all_free
returns-then-all_free c =
    let a = c.args in
    free_none a.rings a.table a.tablebase.now (sym c.all_free.ensures ∙ c.if-all_free.true)
    (size (8 * a.rings) a.table.mover a.table.opponent) (omega arith)
