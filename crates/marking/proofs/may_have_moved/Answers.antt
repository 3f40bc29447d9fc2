-- `marking::may_have_moved` meets its contract. Assumes nothing.
use mathlib.Core.Path.{sym, ap, ◌∙◌}
use mathlib.Core.Bool.{Bool}
use Prim.Native.Nat.{◌*◌}
use Rattle.board.specs.Board.{board_of}
use Rattle.marking.specs.Inner.Stones.{may_have_moved}
use Rattle.marking.proofs.Origins.{moved_any, moved_mill}
use borrow.Author.Rules.{rules}
use Rattle.marking.proofs.may_have_moved.Goals as goal

pub returns-then-capture : goal.returns-then-capture
returns-then-capture c =
    let a = c.args in
    c.in_mill.ensures ∙ sym (moved_mill a.rings a.position c.requires.0.placed a.to)
    ∙ ap (λ (b : Bool). may_have_moved b a.rings (board_of (8 * a.rings) a.position) a.to) (sym c.if-capture.true)

pub returns : goal.returns
returns c =
    let a = c.args in
    sym (moved_any a.rings a.position c.requires.0.placed a.to)
    ∙ ap (λ (b : Bool). may_have_moved b a.rings (board_of (8 * a.rings) a.position) a.to) (sym c.if-capture.false)
