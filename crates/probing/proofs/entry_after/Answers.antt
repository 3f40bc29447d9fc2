-- `probing::entry_after` meets its contract: the stones counted are the board's. Assumes nothing.
use mathlib.Core.Path.{◌≡◌, sym, ◌∙◌}
use Prim.Native.Nat.{◌*◌}
use native.Mathlib.Omega.{arith}
use Rattle.board.specs.Board.{count, board_of}
use Rattle.board.proofs.OneToOne.{mover_count}
use Rattle.probing.proofs.Reading.{probe_same, probe_two, probe_fewer, same_within, fewer_within}
use borrow.Author.Rules.{rules}
use Rattle.probing.proofs.entry_after.Goals as goal
use Rattle.probing.proofs.entry_after.Goals.{After-count-stones}

-- the mover's stones
stones : (c : After-count-stones) → c.count-stones.result ≡ count 1 (board_of (8 * c.args.rings) c.args.position)
stones c =
    c.count-stones.ensures ∙ mover_count (8 * c.args.rings) c.args.position c.requires.placed.on (omega (arith, c.requires.placed.small))

pub returns-then-stones-opponent : goal.returns-then-stones-opponent
returns-then-stones-opponent c =
    let a = c.args in
    c.entry_in.ensures
    ∙ sym (probe_same a.tablebase.now a.starts.same a.starts.fewer a.opponent (board_of (8 * a.rings) a.position) (sym (stones (goal.at.returns-then-stones-opponent c).After-count-stones) ∙ c.if-stones-opponent.true))

pub entry_in-requires : goal.entry_in-requires
entry_in-requires c =
    record { placed = c.requires.placed; position_in_bounds = same_within c.requires.reads _ (sym (stones (goal.at.entry_in-requires c).After-count-stones) ∙ c.if-stones-opponent.true) }

pub returns-then-stones-lt3 : goal.returns-then-stones-lt3
returns-then-stones-lt3 c =
    let a = c.args in
    sym (probe_two a.tablebase.now a.starts.same a.starts.fewer a.opponent (board_of (8 * a.rings) a.position) (λ q. c.if-stones-opponent.false (stones (goal.at.returns-then-stones-lt3 c).After-count-stones ∙ q))
    (omega (arith, stones (goal.at.returns-then-stones-lt3 c).After-count-stones, c.if-stones-lt3.true)))

pub entry_in-requires-2 : goal.entry_in-requires-2
entry_in-requires-2 c =
    record { placed = c.requires.placed; position_in_bounds = fewer_within c.requires.reads _ c.requires.left (λ q. c.if-stones-opponent.false (stones (goal.at.entry_in-requires-2 c).After-count-stones ∙ q)) (omega (arith, stones (goal.at.entry_in-requires-2 c).After-count-stones, c.if-stones-lt3.false)) }

pub returns : goal.returns
returns c =
    let a = c.args in
    c.entry_in-2.ensures
    ∙ sym (probe_fewer a.tablebase.now a.starts.same a.starts.fewer a.opponent (board_of (8 * a.rings) a.position) (λ q. c.if-stones-opponent.false (stones (goal.at.returns c).After-count-stones ∙ q))
    (omega (arith, stones (goal.at.returns c).After-count-stones, c.if-stones-lt3.false)))
