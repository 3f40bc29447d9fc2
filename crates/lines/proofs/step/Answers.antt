-- `lines::step` meets its contract: a line feed has the line answered, another byte is kept. Assumes nothing.
use mathlib.Core.Path.{◌≡◌, refl, sym, ap, ◌∙◌}
use mathlib.Core.List.{[], ◌∷◌}
use native.Mathlib.Nat.{add-zero}
use native.Mathlib.Omega.{arith}
use lib.ListN.{take}
use lib.Seq.{length-take-le}
use Rattle.lines.specs.Lines.{ended_lines}
use Rattle.replies.specs.Replies.{answer_of, answers}
use Rattle.replies.proofs.Written.{same_written}
use Rattle.lines.proofs.Blocks.{byte_ends, byte_kept, answers_one, answers_none}
use Rattle.lines.proofs.step.Goals as goal

pub slice_bounds-answer_at-end-then-c-eq10 : goal.slice_bounds-answer_at-end-then-c-eq10
slice_bounds-answer_at-end-then-c-eq10 c = sym (length-take-le c.args.kept c.args.held.now (omega arith))

pub returns-then-c-eq10 : goal.returns-then-c-eq10
returns-then-c-eq10 c =
    let a = c.args in
    let k = take a.kept a.held.now in
    let f = byte_ends k a.c c.if-c-eq10.true in
    let e : answer_of a.tablebase.now k ≡ answers a.tablebase.now (ended_lines k (a.c ∷ [])) =
    sym (ap (answers a.tablebase.now) f.0 ∙ answers_one a.tablebase.now k) in
    let p = c.answer_at-next.ensures in
    let w = same_written a.used _ a.out.now _ e (p.place, (p.bound, p.buffer)) in
    record { held = (c.requires.held_len.0, omega arith); kept = sym f.1; place = w.0; bound = w.1.0; buffer = w.1.1 }

pub returns : goal.returns
returns c =
    let a = c.args in
    let k = take a.kept a.held.now in
    let f = byte_kept k a.c c.if-c-eq10.false in
    let e : [] ≡ answers a.tablebase.now (ended_lines k (a.c ∷ [])) = sym (ap (answers a.tablebase.now) f.0 ∙ answers_none a.tablebase.now) in
    let p = c.keep_byte-more.ensures in
    let w = same_written a.used a.used a.out.now a.out.now e (sym (add-zero a.used), (omega arith, refl)) in
    record { held = p.held; kept = p.kept ∙ sym f.1; place = w.0; bound = w.1.0; buffer = w.1.1 }
