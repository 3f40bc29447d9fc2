-- `judging::hits` meets its contract. Assumes nothing.
use mathlib.Core.Path.{◌≡◌, sym, ap, ◌∙◌}
use mathlib.Core.Bool.{not}
use mathlib.Core.List.{List}
use Prim.Native.Nat.{ℕ, ◌*◌, ◌%◌}
use native.Mathlib.Omega.{arith}
use Rattle.board.specs.Board.{count, board_of}
use Rattle.rules.specs.Ply.{removable, successors}
use Rattle.game.proofs.Hits.{hit_odd, hit_even}
use Rattle.probing.specs.Inner.Probes.{probe}
use Rattle.judging.proofs.Asked.{some_before, all_below}
use borrow.Author.Rules.{rules}
use Rattle.judging.proofs.hits.Goals as goal

pub some_successor-requires : goal.some_successor-requires
some_successor-requires c = let p = c.requires in record { probing = p.probing; masks = p.masks.0 }

pub returns-then-level-eq1 : goal.returns-then-level-eq1
returns-then-level-eq1 c =
    let a = c.args in
    let b : List ℕ = board_of (8 * a.rings) a.position in
    let odd : a.level % 2 ≡ 1 = c.if-level-eq1.true in
    c.some_successor.ensures
    ∙ some_before a.tablebase.now (λ i. omega (arith, c.shared_slice_known-1.given i)) a.starts.same a.starts.fewer (count 2 b)
    (successors (removable a.edition) a.rings b) a.level odd c.requires.masks.1
    ∙ sym (hit_odd (successors (removable a.edition) a.rings)
    (λ d. probe a.tablebase.now a.starts.same a.starts.fewer (count 2 b) d) a.level b odd)

pub some_successor-requires-2 : goal.some_successor-requires-2
some_successor-requires-2 c = let p = c.requires in record { probing = p.probing; masks = p.masks.0 }

pub returns : goal.returns
returns c =
    let a = c.args in
    let b : List ℕ = board_of (8 * a.rings) a.position in
    let even : a.level % 2 ≡ 0 = omega (arith, c.if-level-eq1.false) in
    ap not c.some_successor-2.ensures
    ∙ sym (hit_even (successors (removable a.edition) a.rings)
    (λ d. probe a.tablebase.now a.starts.same a.starts.fewer (count 2 b) d) a.level b even
    ∙ all_below a.tablebase.now (λ i. omega (arith, c.shared_slice_known-1.given i)) a.starts.same a.starts.fewer (count 2 b)
    (successors (removable a.edition) a.rings b) a.level (omega (arith, c.requires.masks.1)))
