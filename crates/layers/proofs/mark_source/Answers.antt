-- `layers::mark_source` meets its contract. Assumes nothing.
use mathlib.Core.Path.{sym, ◌∙◌}
use Prim.Native.Nat.{◌*◌}
use Rattle.board.specs.Board.{board_of}
use Rattle.classing.specs.Inner.Classes.{least_of_class}
use Rattle.layers.proofs.Marked.{gone_picked, gone_passed}
use borrow.Author.Rules.{rules}
use Rattle.layers.proofs.mark_source.Goals as goal

pub returns-then-is_least : goal.returns-then-is_least
returns-then-is_least c =
    let a = c.args in
    c.mark_before.ensures
    ∙ gone_picked a.maps.rings a.back.part.start a.back.capture (least_of_class a.maps.rings a.maps.count) (board_of
    (8 * a.maps.rings) a.position) a.tablebase.now
    (sym c.is_least.ensures ∙ c.if-is_least.true)

pub returns-else-is_least : goal.returns-else-is_least
returns-else-is_least c =
    let a = c.args in
    gone_passed a.maps.rings a.back.part.start a.back.capture (least_of_class a.maps.rings a.maps.count) (board_of
    (8 * a.maps.rings) a.position) a.tablebase.now
    (sym c.is_least.ensures ∙ c.if-is_least.false)
