-- `ranking::top_value` meets its contract: each way out is a case of the definition. Assumes nothing.
use mathlib.Core.Path.{sym}
use native.Mathlib.Omega.{arith}
use Rattle.ranking.proofs.Inverse.{top_zero, top_one, top_two}
use Rattle.ranking.proofs.top_value.Goals as goal

pub returns-then-r-below : goal.returns-then-r-below
returns-then-r-below c =
    let a = c.args in
    sym (top_zero a.n a.m a.o a.r (omega (arith, c.below.ensures)))

pub returns-then-r-below-2 : goal.returns-then-r-below-2
returns-then-r-below-2 c =
    let a = c.args in
    sym (top_one a.n a.m a.o a.r (omega (arith, c.below.ensures)) (omega (arith, c.below-2.ensures)))

pub returns : goal.returns
returns c =
    let a = c.args in
    sym (top_two a.n a.m a.o a.r (omega (arith, c.below-2.ensures)))
