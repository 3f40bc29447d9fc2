-- `board_refusals::stones_wrong` meets its contract: the members of each side's set are its stones. Assumes nothing.
use mathlib.Core.Path.{ap₂, ◌∙◌}
use mathlib.Core.List.{List}
use Prim.Native.Nat.{ℕ}
use Rattle.refusals.specs.Conditions.{counts_wrong}
use Rattle.board.proofs.Sides.{mover_stones, opponent_stones}
use Rattle.board_refusals.proofs.stones_wrong.Goals as goal

pub returns : goal.returns
returns c =
    let b : List ℕ = c.args.board.now in
    let e = c.position_of-position.ensures in
    c.sides_wrong.ensures
    ∙ ap₂ (λ (m o : ℕ). counts_wrong c.args.points m o) (mover_stones b _ e c.requires) (opponent_stones b _ e c.requires)
