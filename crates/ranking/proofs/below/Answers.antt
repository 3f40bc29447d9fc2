-- `ranking::below` meets its contract. Assumes nothing.
use mathlib.Core.Path.{◌≡◌, sym, ap, ap₂, ◌∙◌}
use Prim.Native.Nat.{ℕ, ◌+◌}
use native.Mathlib.Omega.{arith}
use Rattle.sizes.specs.Size.{size_with_one}
use Rattle.ranking.specs.Unrank.{below}
use Rattle.ranking.proofs.Steps.{below_two, below_small, with_one}
use Rattle.ranking.proofs.below.Goals as goal
use Rattle.ranking.proofs.below.Goals.{After-size}

pub returns-then-x-eq1 : goal.returns-then-x-eq1
returns-then-x-eq1 c =
    let a = c.args in
    c.size-vacant.ensures ∙ ap (λ (x : ℕ). below x a.n a.m a.o) (sym c.if-x-eq1.true)

pub returns-then-m-eq0 : goal.returns-then-m-eq0
returns-then-m-eq0 c =
    let a = c.args in
    let z : size_with_one a.n a.m a.o ≡ 0 = ap (λ (m : ℕ). size_with_one a.n m a.o) c.if-m-eq0.true in
    omega (arith, c.size-vacant.ensures, z, below_two a.x a.n a.m a.o c.if-x-eq0.false c.if-x-eq1.false)

sum : (c : After-size)
    → c.size-vacant.result + c.size.result
    ≡ below c.args.x c.args.n
    c.args.m c.args.o
sum c =
    let a = c.args in
    ap₂ ◌+◌ c.size-vacant.ensures (c.size.ensures ∙ sym (with_one a.n a.m a.o c.if-m-eq0.false))
    ∙ sym (below_two a.x a.n a.m a.o c.if-x-eq0.false c.if-x-eq1.false)

pub overflow_add-result : goal.overflow_add-result
overflow_add-result c =
    omega (arith, sum (goal.at.overflow_add-result c).After-size, below_small c.args.x c.args.n c.args.m c.args.o (omega arith))

pub returns : goal.returns
returns c = sum (goal.at.returns c).After-size
