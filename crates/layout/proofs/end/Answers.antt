-- `layout::end` meets its contract: the start and the size. Assumes nothing.
use mathlib.Core.Path.{ap₂}
use Prim.Native.Nat.{◌+◌, ◌^◌, ◌≤◌}
use native.Mathlib.Omega.{arith}
use Rattle.sizes.proofs.Multinomials.{size_small}
use Rattle.layout.specs.Layout.{end}
use Rattle.layout.proofs.end.Goals as goal
use Rattle.layout.proofs.end.Goals.{After-size}

small : (c : After-size) → c.start.result + c.size.result ≤ 2 ^ 55
small c =
    omega (arith, c.size.ensures, size_small c.args.points c.args.m c.args.o c.requires.0)

pub overflow_add-result : goal.overflow_add-result
overflow_add-result c = omega (arith, small (goal.at.overflow_add-result c).After-size)

pub returns : goal.returns
unfolding end
returns c = (ap₂ ◌+◌ c.start.ensures.0 c.size.ensures, small (goal.at.returns c).After-size)
