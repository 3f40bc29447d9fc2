-- `judging::void_after` meets its contract. Assumes nothing.
use mathlib.Core.Path.{◌∙◌}
use mathlib.Core.List.{List}
use Prim.Native.Nat.{ℕ, ◌*◌}
use native.Mathlib.Omega.{arith}
use Rattle.board.specs.Board.{count, board_of}
use Rattle.rules.specs.Ply.{removable, successors}
use Rattle.judging.proofs.Asked.{some_void}
use borrow.Author.Rules.{rules}
use Rattle.judging.proofs.void_after.Goals as goal

pub returns : goal.returns
returns c =
    let a = c.args in
    let b : List ℕ = board_of (8 * a.rings) a.position in
    c.some_successor.ensures
    ∙ some_void a.tablebase.now (λ i. omega (arith, c.shared_slice_known-1.given i)) a.starts.same a.starts.fewer (count 2 b)
    (successors (removable a.edition) a.rings b)
