-- `probing::entry_after_move` meets its contract: the position after the move stands for the board after it. Assumes nothing.
use mathlib.Core.Path.{◌≡◌, sym, ap, ap₂, subst, ◌∙◌}
use Prim.Native.Nat.{◌*◌}
use native.Mathlib.Omega.{arith}
use Rattle.board.specs.Board.{count, board_of}
use Rattle.board.proofs.OneToOne.{opponent_count}
use Rattle.rules.specs.Ply.{after_ply}
use Rattle.plies.specs.Inner.Positions.{Placed}
use Rattle.making.proofs.After.{after_leads, after_placed, after_board}
use Rattle.probing.specs.Inner.Probes.{probe}
use Rattle.probing.proofs.Reading.{left_of}
use borrow.Author.Rules.{rules}
use Rattle.probing.proofs.entry_after_move.Goals as goal
use Rattle.probing.proofs.entry_after_move.Goals.{After-after_ply-after, After-count-opponent}

-- the opponent's stones
stones : (c : After-count-opponent) → c.count-opponent.result ≡ count 2 (board_of (8 * c.args.rings) c.args.position)
stones c =
    c.count-opponent.ensures ∙ opponent_count (8 * c.args.rings) c.args.position c.requires.probing.placed.on (omega (arith, c.requires.probing.placed.small))

-- the board after the move
reached : (c : After-after_ply-after)
    → board_of (8 * c.args.rings) c.after_ply-after.result
    ≡ after_ply (board_of (8 * c.args.rings) c.args.position) c.args.number
reached c =
    let a = c.args in
    ap (board_of (8 * a.rings)) c.after_ply-after.ensures ∙ after_board a.rings a.position c.requires.probing.placed a.number c.requires.makeable

pub entry_after-requires : goal.entry_after-requires
entry_after-requires c =
    let a = c.args in
    let l = after_leads a.rings a.position c.requires.probing.placed a.number c.requires.makeable in
    record {
      placed = subst (Placed a.rings) (sym c.after_ply-after.ensures) (after_placed a.rings a.position c.requires.probing.placed a.number c.requires.makeable);
      left = rw (reached (goal.at.entry_after-requires c).After-after_ply-after, stones (goal.at.entry_after-requires c).After-count-opponent) (left_of l);
      reads = rw (reached (goal.at.entry_after-requires c).After-after_ply-after, stones (goal.at.entry_after-requires c).After-count-opponent, l.opponent) c.requires.probing.reads;
    }

pub returns : goal.returns
returns c =
    let a = c.args in
    c.entry_after.ensures ∙ ap₂ (probe a.tablebase.now a.starts.same a.starts.fewer) (stones (goal.at.returns c).After-count-opponent) (reached (goal.at.returns c).After-after_ply-after)
