-- `board_refusals::sides_wrong` meets its contract: the members of each set are its stones. Assumes nothing.
use mathlib.Core.Path.{ap₂, ◌∙◌}
use Prim.Native.Nat.{ℕ}
use native.Mathlib.Omega.{arith}
use Rattle.sets.proofs.Laws.{members_le}
use Rattle.refusals.specs.Conditions.{counts_wrong}
use Rattle.board_refusals.proofs.sides_wrong.Goals as goal

pub counts_wrong-requires : goal.counts_wrong-requires
counts_wrong-requires c =
    let a = c.args in
    omega (arith, c.count.ensures, c.count-2.ensures, members_le a.mover 32, members_le a.opponent 32)

pub returns : goal.returns
returns c =
    let a = c.args in
    c.counts_wrong.ensures ∙ ap₂ (λ (m o : ℕ). counts_wrong a.points m o) c.count.ensures c.count-2.ensures
