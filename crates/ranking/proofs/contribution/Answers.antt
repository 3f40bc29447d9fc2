-- `ranking::contribution` meets its contract: each factor is a binomial of few points. Assumes nothing.
use mathlib.Core.Path.{ap, ap₂, ◌∙◌}
use Prim.Native.Nat.{ℕ, ◌+◌, ◌-◌, ◌*◌, ◌^◌, ◌≤◌}
use native.Mathlib.Nat.{mul-le-mul}
use native.Mathlib.Omega.{arith}
use Rattle.sizes.specs.Inner.Binomial.{binomial}
use Rattle.sizes.proofs.Binomials.{binomial_small}
use Rattle.ranking.proofs.StoneRanks.{below_stone, cond_le}
use Rattle.ranking.proofs.contribution.Goals as goal
use Rattle.ranking.proofs.contribution.Goals.{After-choose, After-choose-2}

-- the factors' column and row
column-low : (c : After-choose) → c.choose.result ≤ 24
column-low c =
    let a = c.args in
    omega (arith, c.choose.ensures, cond_le a.theirs a.o a.stones 24 (omega arith) (omega arith))

pub binomial-requires : goal.binomial-requires
binomial-requires c =
    omega (arith, column-low (goal.at.binomial-requires c).After-choose)

row_low : (c : After-choose-2) → c.choose-2.result ≤ 24
row_low c =
    let a = c.args in
    omega (arith, c.choose-2.ensures, cond_le a.theirs (a.p + 1 - a.o) a.stones 24 (omega arith) (omega arith))

pub binomial-requires-2 : goal.binomial-requires-2
binomial-requires-2 c =
    omega (arith, row_low (goal.at.binomial-requires-2 c).After-choose-2)

pub overflow_mul-result : goal.overflow_mul-result
overflow_mul-result c =
    let a = c.args in
    let h : c.binomial.result ≤ 2 ^ 24 = omega (arith, c.binomial.ensures, binomial_small a.p c.choose.result (omega arith)) in
    let l : c.binomial-2.result ≤ 2 ^ 24 =
    omega (arith, c.binomial-2.ensures, binomial_small c.choose-2.result (a.stones - a.o) (row_low (goal.at.overflow_mul-result c).After-choose-2)) in
    omega (arith, mul-le-mul h l)

pub returns : goal.returns
returns c =
    let a = c.args in
    ap₂ ◌*◌ (c.binomial.ensures ∙ ap (binomial a.p) c.choose.ensures)
    (c.binomial-2.ensures ∙ ap (λ (n : ℕ). binomial n (a.stones - a.o)) c.choose-2.ensures)
    ∙ below_stone a.theirs a.p a.stones a.o (omega arith)
