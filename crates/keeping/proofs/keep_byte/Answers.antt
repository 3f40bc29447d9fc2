-- `keeping::keep_byte` meets its contract: the byte in its place, or dropped. Assumes nothing.
use mathlib.Core.Path.{◌∙◌}
use native.Mathlib.Omega.{arith}
use lib.ListN.{length-set}
use Rattle.keeping.proofs.Kept.{keep_room, keep_full}
use Rattle.keeping.proofs.keep_byte.Goals as goal

pub returns-then-kept-lt-MOST_KEPT : goal.returns-then-kept-lt-MOST_KEPT
returns-then-kept-lt-MOST_KEPT c =
    let a = c.args in
    let p = c.requires.0 in record { held = (length-set a.held.now a.kept a.c ∙ p, omega arith); kept = keep_room a.held.now a.kept a.c c.if-kept-lt-MOST_KEPT.true p }

pub returns : goal.returns
returns c =
    let a = c.args in record { held = (c.requires.0, omega arith); kept = keep_full a.held.now a.kept a.c (omega arith) c.requires.0 }
