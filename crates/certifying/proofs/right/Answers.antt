-- `certifying::right` meets its contract. Assumes nothing.
use mathlib.Core.Path.{sym, ap, ◌∙◌}
use mathlib.Core.Bool.{not}
use mathlib.Core.List.{List, map}
use Prim.Native.Nat.{ℕ, ◌*◌}
use Rattle.board.specs.Board.{count, board_of}
use Rattle.rules.specs.Ply.{removable, successors}
use Rattle.probing.specs.Inner.Probes.{probe}
use Rattle.certificate.specs.Right.{right}
use Rattle.certificate.proofs.Questions.{right_void, right_draw}
use borrow.Author.Rules.{rules}
use Rattle.certifying.proofs.right.Goals as goal
use Rattle.certifying.proofs.right.Goals.{Start}

-- the position's board, and the entries of its successors
abbrev board : (s : Start) → List ℕ
board s = board_of (8 * s.args.rings) s.args.position

abbrev next : (s : Start) → List ℕ → List (List ℕ)
next s = successors (removable s.args.edition) s.args.rings

abbrev entry : (s : Start) → List ℕ → ℕ
entry s b = probe s.args.tablebase.now s.args.starts.same s.args.starts.fewer (count 2 (board s)) b

pub returns-then-entry-eq-DRAW : goal.returns-then-entry-eq-DRAW
returns-then-entry-eq-DRAW c =
    ap not c.decided.ensures ∙ sym (right_draw (next (goal.at.returns-then-entry-eq-DRAW c).Start) (entry (goal.at.returns-then-entry-eq-DRAW c).Start) (board (goal.at.returns-then-entry-eq-DRAW c).Start))
    ∙ ap (λ (e : ℕ). right e (map (entry (goal.at.returns-then-entry-eq-DRAW c).Start) (next (goal.at.returns-then-entry-eq-DRAW c).Start (board (goal.at.returns-then-entry-eq-DRAW c).Start)))) (sym c.if-entry-eq-DRAW.true)

pub returns-then-entry-eq-VOID : goal.returns-then-entry-eq-VOID
returns-then-entry-eq-VOID c =
    right_void (next (goal.at.returns-then-entry-eq-VOID c).Start) (entry (goal.at.returns-then-entry-eq-VOID c).Start) (board (goal.at.returns-then-entry-eq-VOID c).Start) ∙ ap (λ (e : ℕ). right e (map (entry (goal.at.returns-then-entry-eq-VOID c).Start) (next (goal.at.returns-then-entry-eq-VOID c).Start (board (goal.at.returns-then-entry-eq-VOID c).Start)))) (sym c.if-entry-eq-VOID.true)
