-- `certifying::depth_right` meets its contract. Assumes nothing.
use mathlib.Core.Path.{◌≡◌, sym, ap₂, ◌∙◌}
use mathlib.Core.Bool.{Bool, not, ◌&&◌}
use mathlib.Core.List.{List}
use Prim.Native.Nat.{ℕ, ◌*◌, ◌<◌, ◌%◌}
use native.Mathlib.Omega.{arith}
use borrow.Author.Tests.{not-true, not-false}
use Rattle.lists.proofs.Tests.{untrue, clash}
use Rattle.board.specs.Board.{count, board_of}
use Rattle.rules.specs.Ply.{removable, successors}
use Rattle.probing.specs.Inner.Probes.{probe}
use Rattle.judging.proofs.Asked.{some_quicker, some_slowest}
use Rattle.certificate.proofs.Questions.{right_hits, right_few, right_odd, right_even}
use borrow.Author.Rules.{rules}
use Rattle.certifying.proofs.depth_right.Goals as goal
use Rattle.certifying.proofs.depth_right.Goals.{After-hits}

-- the position's board, and the entries of its successors, seen from where a level has been asked for
abbrev board : (c : After-hits) → List ℕ
board c = let a = c.args in board_of (8 * a.rings) a.position

abbrev next : (c : After-hits) → List ℕ → List (List ℕ)
next c = let a = c.args in successors (removable a.edition) a.rings

abbrev entry : (c : After-hits) → List ℕ → ℕ
entry c b = let a = c.args in probe a.tablebase.now a.starts.same a.starts.fewer (count 2 (board c)) b

pub returns-then-not-hits : goal.returns-then-not-hits
returns-then-not-hits c =
    untrue _ (λ t. clash (c.hits.ensures ∙ right_hits (next (goal.at.returns-then-not-hits c).After-hits) (entry (goal.at.returns-then-not-hits c).After-hits) (board (goal.at.returns-then-not-hits c).After-hits) c.args.depth c.requires.masks.1 t) c.if-not-hits.true)

pub returns-then-depth-lt2 : goal.returns-then-depth-lt2
returns-then-depth-lt2 c =
    sym (right_few (next (goal.at.returns-then-depth-lt2 c).After-hits) (entry (goal.at.returns-then-depth-lt2 c).After-hits) (board (goal.at.returns-then-depth-lt2 c).After-hits) c.args.depth (omega (arith, c.if-depth-lt2.true)) ∙ sym c.hits.ensures ∙ c.if-not-hits.false)

-- past the first question, the depth is right if the second says so
pub returns-then-depth-eq1 : goal.returns-then-depth-eq1
returns-then-depth-eq1 c =
    let a = c.args in
    let odd : a.depth % 2 ≡ 1 = c.if-depth-eq1.true in
    ap₂ (λ (x y : Bool). x && not y) (sym c.if-not-hits.false ∙ c.hits.ensures)
    (c.some_successor.ensures
    ∙ some_quicker a.tablebase.now (λ i. omega (arith, c.shared_slice_known-1.given i)) a.starts.same a.starts.fewer (count 2 (board (goal.at.returns-then-depth-eq1 c).After-hits))
    (next (goal.at.returns-then-depth-eq1 c).After-hits (board (goal.at.returns-then-depth-eq1 c).After-hits)) a.depth odd c.requires.masks.1)
    ∙ sym (right_odd (next (goal.at.returns-then-depth-eq1 c).After-hits) (entry (goal.at.returns-then-depth-eq1 c).After-hits) (board (goal.at.returns-then-depth-eq1 c).After-hits) a.depth c.requires.masks.1 odd)

pub returns : goal.returns
returns c =
    let a = c.args in
    let even : a.depth % 2 ≡ 0 = omega (arith, c.if-depth-eq1.false) in
    let some : 0 < a.depth = omega (arith, c.if-depth-lt2.false) in
    ap₂ (λ (x y : Bool). x && y) (sym c.if-not-hits.false ∙ c.hits.ensures)
    (c.some_successor-2.ensures
    ∙ some_slowest a.tablebase.now (λ i. omega (arith, c.shared_slice_known-1.given i)) a.starts.same a.starts.fewer (count 2 (board (goal.at.returns c).After-hits))
    (next (goal.at.returns c).After-hits (board (goal.at.returns c).After-hits)) a.depth even some c.requires.masks.1)
    ∙ sym (right_even (next (goal.at.returns c).After-hits) (entry (goal.at.returns c).After-hits) (board (goal.at.returns c).After-hits) a.depth c.requires.masks.1 even some)
