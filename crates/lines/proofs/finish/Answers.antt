-- `lines::finish` meets its contract: nothing, or the answer to the last line. Assumes nothing.
use mathlib.Core.Path.{◌≡◌, sym, ap, ◌∙◌}
use mathlib.Core.List.{[]}
use Prim.Native.Nat.{ℕ, ◌≤◌}
use native.Mathlib.Omega.{arith}
use lib.ListN.{length, take}
use lib.Seq.{sets, length-sets, length-take-le}
use Rattle.lines.specs.Lines.{last}
use Rattle.replies.specs.Replies.{answer_of, answers}
use Rattle.lines.proofs.Blocks.{last_none, last_some, answers_none, answers_one}
use Rattle.lines.proofs.finish.Goals as goal

pub returns-then-kept-eq0 : goal.returns-then-kept-eq0
returns-then-kept-eq0 c =
    let a = c.args in
    let t = a.tablebase.now in
    let l = a.held.now in
    let e : [] ≡ answers t (last (take a.kept l)) =
    sym (ap (λ (n : ℕ). answers t (last (take n l))) c.if-kept-eq0.true ∙ ap (answers t) (last_none l) ∙ answers_none t) in record { place = ap length e; bound = (omega arith, omega arith); buffer = ap (sets a.out.now 0) e }

pub slice_bounds-answer_at-end : goal.slice_bounds-answer_at-end
slice_bounds-answer_at-end c = sym (length-take-le c.args.kept c.args.held.now (omega arith))

pub returns : goal.returns
returns c =
    let a = c.args in
    let t = a.tablebase.now in
    let k = take a.kept a.held.now in
    let e : answer_of t k ≡ answers t (last k) =
    sym (ap (answers t) (last_some a.held.now a.kept c.if-kept-eq0.false (omega arith)) ∙ answers_one t k) in
    let p = c.answer_at.ensures in
    let l : c.answer_at.result ≤ length c.answer_at.new.out =
    omega (arith, p.bound, ap length p.buffer, length-sets a.out.now 0 (answer_of t k)) in record { place = omega (arith, p.place, ap length e); bound = (l, sym (length-take-le _ _ l)); buffer = p.buffer ∙ ap (sets a.out.now 0) e }
