-- `tables::starts_of` meets its contract: the stones counted are the board's. Assumes nothing.
use mathlib.Core.Path.{◌≡◌, ap₂, ◌∙◌}
use Prim.Native.Nat.{ℕ, ◌*◌}
use native.Mathlib.Omega.{arith}
use Rattle.board.specs.Board.{count, board_of}
use Rattle.board.proofs.OneToOne.{mover_count, opponent_count}
use Rattle.layout.specs.Layout.{start}
use Rattle.tables.specs.Inner.Tables.{lower_start}
use borrow.Author.Rules.{rules}
use Rattle.tables.proofs.starts_of.Goals as goal
use Rattle.tables.proofs.starts_of.Goals.{After-count-o}

mover_is : (c : After-count-o)
    → c.count-m.result ≡ count 1 (board_of (8 * c.args.rings) c.args.position)
mover_is c =
    c.count-m.ensures ∙ mover_count (8 * c.args.rings) c.args.position c.requires.placed.on (omega (arith, c.requires.placed.small))

opponent_is : (c : After-count-o) → c.count-o.result ≡ count 2 (board_of (8 * c.args.rings) c.args.position)
opponent_is c =
    c.count-o.ensures ∙ opponent_count (8 * c.args.rings) c.args.position c.requires.placed.on (omega (arith, c.requires.placed.small))

pub table_of-table-requires : goal.table_of-table-requires
table_of-table-requires c =
    omega (arith, c.requires.placed.small, c.requires.k_bound, mover_is (goal.at.table_of-table-requires c).After-count-o, opponent_is (goal.at.table_of-table-requires c).After-count-o)

pub start-requires : goal.start-requires
start-requires c =
    omega (arith, c.requires.placed.small, c.requires.k_bound, mover_is (goal.at.start-requires c).After-count-o, opponent_is (goal.at.start-requires c).After-count-o)

pub returns : goal.returns
returns c =
    let a = c.args in record { same = c.start.ensures.0 ∙ ap₂ (λ (o m : ℕ). start (8 * a.rings) a.k o m) (opponent_is (goal.at.returns c).After-count-o) (mover_is (goal.at.returns c).After-count-o); fewer = c.table_of-table.ensures.lower_start_is ∙ ap₂ (λ (m o : ℕ). lower_start (8 * a.rings) a.k m o) (mover_is (goal.at.returns c).After-count-o) (opponent_is (goal.at.returns c).After-count-o) }
