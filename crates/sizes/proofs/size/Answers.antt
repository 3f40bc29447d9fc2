-- `sizes::size` meets its contract: a size is the product of two binomials. Assumes nothing.
use mathlib.Core.Path.{◌≡◌, sym, ap₂, ◌∙◌}
use Prim.Native.Nat.{◌*◌}
use native.Mathlib.Omega.{arith}
use Rattle.sizes.specs.Size.{size}
use Rattle.sizes.proofs.Multinomials.{size_ways, size_over, size_small}
use Rattle.sizes.proofs.size.Goals as goal
use Rattle.sizes.proofs.size.Goals.{After-binomial-2}

pub returns-then-points-m : goal.returns-then-points-m
returns-then-points-m c = let a = c.args in sym (size_over a.points a.m a.o (omega arith))

product : (c : After-binomial-2)
    → c.binomial.result * c.binomial-2.result
    ≡ size c.args.points c.args.m c.args.o
product c =
    let a = c.args in
    ap₂ ◌*◌ c.binomial.ensures c.binomial-2.ensures ∙ sym (size_ways a.points a.m a.o)

pub overflow_mul-result : goal.overflow_mul-result
overflow_mul-result c =
    omega (arith, product (goal.at.overflow_mul-result c).After-binomial-2, size_small c.args.points c.args.m c.args.o c.requires.0)

pub returns : goal.returns
returns c = product (goal.at.returns c).After-binomial-2
