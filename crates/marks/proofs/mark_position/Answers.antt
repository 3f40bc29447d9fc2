-- `marks::mark_position` meets its contract. Assumes nothing.
use mathlib.Core.Path.{sym, ap, subst, ◌∙◌}
use mathlib.Core.List.{List}
use Prim.Native.Nat.{ℕ, ◌+◌, ◌*◌, ◌<◌}
use native.Mathlib.Omega.{arith}
use Rattle.board.specs.Board.{count, board_of}
use Rattle.board.proofs.Sides.{length_board, board_values}
use Rattle.sizes.specs.Size.{size}
use Rattle.ranking.specs.Rank.{rank}
use Rattle.ranking.proofs.Inverse.{rank_low}
use Rattle.marks.specs.Inner.Marks.{mark_at}
use Rattle.marks.proofs.Marks.{mark_is}
use borrow.Author.Rules.{rules}
use Rattle.marks.proofs.mark_position.Goals as goal

pub mark_entry-requires : goal.mark_entry-requires
mark_entry-requires c =
    let a = c.args in
    let n : ℕ = 8 * a.rings in
    let b : List ℕ = board_of n a.position in
    let l : rank b < size n (count 1 b) (count 2 b) =
    subst (λ (k : ℕ). rank b < size k (count 1 b) (count 2 b)) (length_board n a.position)
    (rank_low b (board_values n a.position c.requires.placed.on)) in
    (omega (arith, c.rank-r.ensures, l, c.requires.room.whole), c.requires.room.within)

pub returns : goal.returns
returns c =
    let a = c.args in
    c.mark_entry.ensures
    ∙ sym (mark_is (a.part.start + c.rank-r.result) a.tablebase.now)
    ∙ ap (λ (i : ℕ). mark_at (a.part.start + i) a.tablebase.now) c.rank-r.ensures
