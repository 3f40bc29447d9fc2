-- `entries::entry_of` meets its contract: the table of the position's counts lies in the tablebase, and its entry stands there. Assumes nothing.
use mathlib.Core.Path.{◌≡◌, ap₂, ◌∙◌}
use Prim.Native.Nat.{ℕ, ◌*◌}
use native.Mathlib.Omega.{arith}
use Rattle.board.specs.Board.{board_of, count}
use Rattle.board.proofs.OneToOne.{mover_count, opponent_count}
use Rattle.layout.specs.Layout.{start}
use Rattle.entries.proofs.Standing.{table_room, entry_there}
use Rattle.entries.proofs.entry_of.Goals as goal
use Rattle.entries.proofs.entry_of.Goals.{After-count-opponent, After-start-start}

mover_is : (c : After-count-opponent) → c.count-mover.result ≡ count 1 (board_of (8 * c.args.rings) c.args.position)
mover_is c =
    c.count-mover.ensures ∙ mover_count (8 * c.args.rings) c.args.position c.requires.placed.on (omega (arith, c.requires.placed.small))

opponent_is : (c : After-count-opponent) → c.count-opponent.result ≡ count 2 (board_of (8 * c.args.rings) c.args.position)
opponent_is c =
    c.count-opponent.ensures ∙ opponent_count (8 * c.args.rings) c.args.position c.requires.placed.on (omega (arith, c.requires.placed.small))

-- where the table starts
start_is : (c : After-start-start)
    → c.start-start.result
    ≡ start (8 * c.args.rings) c.args.k
    (count 1 (board_of (8 * c.args.rings) c.args.position))
    (count 2 (board_of (8 * c.args.rings) c.args.position))
start_is c =
    let a = c.args in
    c.start-start.ensures.0 ∙ ap₂ (λ (m o : ℕ). start (8 * a.rings) a.k m o) (mover_is (goal.at.entry_in-requires c).After-count-opponent) (opponent_is (goal.at.entry_in-requires c).After-count-opponent)

pub start-start-requires : goal.start-start-requires
start-start-requires c =
    let w = c.requires in omega (arith, w, w.placed.small, mover_is (goal.at.start-start-requires c).After-count-opponent, opponent_is (goal.at.start-start-requires c).After-count-opponent)

pub entry_in-requires : goal.entry_in-requires
entry_in-requires c =
    record { placed = c.requires.placed; position_in_bounds = table_room c.args.rings c.args.k c.args.position c.requires _ (start_is (goal.at.entry_in-requires c).After-start-start) }

pub returns : goal.returns
returns c =
    c.entry_in.ensures ∙ entry_there c.args.rings c.args.k c.args.position c.requires _ _ (start_is (goal.at.returns c).After-start-start)
