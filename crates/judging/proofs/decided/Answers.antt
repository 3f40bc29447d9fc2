-- `judging::decided` meets its contract. Assumes nothing.
use mathlib.Core.Path.{◌≡◌, sym, ap, ap₂, ◌∙◌}
use mathlib.Core.Bool.{Bool, not, ◌||◌}
use mathlib.Core.List.{List}
use Prim.Native.Nat.{ℕ, ◌*◌}
use native.Mathlib.Omega.{arith}
use Rattle.lists.specs.Lists.{any, all}
use Rattle.board.specs.Board.{count, board_of}
use Rattle.rules.specs.Ply.{removable, successors}
use Rattle.game.specs.Judgement.{is_lost, is_won}
use Rattle.game.proofs.Entries.{decided_is}
use Rattle.probing.specs.Inner.Probes.{probe}
use Rattle.judging.proofs.Asked.{some_lost, all_won}
use borrow.Author.Rules.{rules}
use Rattle.judging.proofs.decided.Goals as goal
use Rattle.judging.proofs.decided.Goals.{After-some_successor}

-- what the first question finds
lost : (c : After-some_successor)
    → c.some_successor.result ≡ any (λ b. is_lost (probe c.args.tablebase.now c.args.starts.same c.args.starts.fewer
    (count 2 (board_of (8 * c.args.rings) c.args.position)) b))
    (successors (removable c.args.edition) c.args.rings
    (board_of (8 * c.args.rings) c.args.position))
lost c =
    let a = c.args in
    let b : List ℕ = board_of (8 * a.rings) a.position in
    c.some_successor.ensures
    ∙ some_lost a.tablebase.now (λ i. omega (arith, c.shared_slice_known-1.given i)) a.starts.same a.starts.fewer (count 2 b)
    (successors (removable a.edition) a.rings b)

pub returns-then-some_successor : goal.returns-then-some_successor
returns-then-some_successor c =
    let a = c.args in
    let b : List ℕ = board_of (8 * a.rings) a.position in
    let t : List ℕ → ℕ = λ d. probe a.tablebase.now a.starts.same a.starts.fewer (count 2 b) d in
    sym (decided_is (successors (removable a.edition) a.rings) t b
    ∙ ap (λ (x : Bool). x || all (λ d. is_won (t d)) (successors (removable a.edition) a.rings b)) (sym (lost (goal.at.returns-then-some_successor c).After-some_successor) ∙ c.if-some_successor.true))

pub returns : goal.returns
returns c =
    let a = c.args in
    let b : List ℕ = board_of (8 * a.rings) a.position in
    let t : List ℕ → ℕ = λ d. probe a.tablebase.now a.starts.same a.starts.fewer (count 2 b) d in
    ap not c.some_successor-2.ensures
    ∙ sym (decided_is (successors (removable a.edition) a.rings) t b
    ∙ ap₂ ◌||◌ (sym (lost (goal.at.returns c).After-some_successor) ∙ c.if-some_successor.false)
    (all_won a.tablebase.now (λ i. omega (arith, c.shared_slice_known-1.given i)) a.starts.same a.starts.fewer (count 2 b)
    (successors (removable a.edition) a.rings b)))
