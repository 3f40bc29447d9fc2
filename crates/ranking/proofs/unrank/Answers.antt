-- `ranking::unrank` meets its contract. The invariant: the sets of the points passed, and the board of what is left. Assumes nothing.
use mathlib.Core.Path.{◌≡◌, sym, ap, subst}
use mathlib.Core.List.{List}
use Prim.Native.Nat.{ℕ, ◌+◌, ◌-◌, ◌^◌, ◌≤◌, ◌<◌}
use native.Mathlib.Omega.{arith}
use lib.Dec.{eqb}
use lib.ListN.{length}
use Rattle.board.proofs.Sides.{digit_lt, set_small, position_sides}
use Rattle.ranking.specs.Unrank.{below, unrank as Unrank·unrank}
use Rattle.sizes.proofs.Multinomials.{stones_few}
use Rattle.ranking.proofs.Inverse.{Rest}
use Rattle.ranking.proofs.Steps.{unranking_none, unranking_more, rest_at, length_unrank}
use Rattle.ranking.proofs.unrank.Goals as goal
use Rattle.ranking.proofs.unrank.Goals.{After-below-r, At-loop-i}

pub loop-i-init : goal.loop-i-init
loop-i-init c =
    let a = c.args in unranking_none a.points a.mover a.opponent a.rank c.requires.1

-- few stones are left, and the sets are small
few : (c : At-loop-i) → c.loop-i.m + c.loop-i.o ≤ c.loop-i.i
few c = stones_few c.loop-i.i c.loop-i.m c.loop-i.o c.loop-i.r c.loop-i.invariant.rank_low

small : (c : At-loop-i) → (c.loop-i.first < 2 ^ 24) × (c.loop-i.second < 2 ^ 24)
small c =
    let a = c.args in
    let b : List ℕ = Unrank·unrank a.points a.mover a.opponent a.rank in
    let l : length b ≤ 24 = omega (arith, length_unrank a.points a.mover a.opponent a.rank, c.requires.0) in (
      subst (λ (s : ℕ). s < 2 ^ 24) (sym c.loop-i.invariant.mover) (set_small 1 c.loop-i.i b l),
      subst (λ (s : ℕ). s < 2 ^ 24) (sym c.loop-i.invariant.opponent) (set_small 2 c.loop-i.i b l),
    )

pub top_value-x-requires : goal.top_value-x-requires
top_value-x-requires c =
    omega (arith, few (goal.at.top_value-x-requires c).At-loop-i)

pub below-r-requires : goal.below-r-requires
below-r-requires c =
    omega (arith, few (goal.at.below-r-requires c).At-loop-i)

-- the step's laws, at the value that the code has
stepped : (c : After-below-r)
    → Rest (c.loop-i.i - 1) c.loop-i.m c.loop-i.o
    c.loop-i.r c.top_value-x.result
stepped c =
    rest_at c.loop-i.i c.loop-i.m c.loop-i.o c.loop-i.r c.top_value-x.result c.loop-i-test.true
    c.loop-i.invariant.rank_low c.top_value-x.ensures

pub overflow_sub-r : goal.overflow_sub-r
overflow_sub-r c =
    omega (arith, c.below-r.ensures, (stepped (goal.at.overflow_sub-r c).After-below-r).rank_left)

pub overflow_sub-m : goal.overflow_sub-m
overflow_sub-m c = (stepped (goal.at.overflow_sub-m c).After-below-r).mover_left

pub overflow_sub-o : goal.overflow_sub-o
overflow_sub-o c = (stepped (goal.at.overflow_sub-o c).After-below-r).opponent_left

pub overflow_mul-first : goal.overflow_mul-first
overflow_mul-first c = omega (arith, (small (goal.at.overflow_mul-first c).At-loop-i).0)

pub overflow_add-first : goal.overflow_add-first
overflow_add-first c =
    omega (arith, (small (goal.at.overflow_add-first c).At-loop-i).0, digit_lt (eqb c.top_value-x.result 1))

pub overflow_mul-second : goal.overflow_mul-second
overflow_mul-second c = omega (arith, (small (goal.at.overflow_mul-second c).At-loop-i).1)

pub overflow_add-second : goal.overflow_add-second
overflow_add-second c =
    omega (arith, (small (goal.at.overflow_add-second c).At-loop-i).1, digit_lt (eqb c.top_value-x.result 2))

pub loop-i-preserved : goal.loop-i-preserved
loop-i-preserved c =
    let v : ℕ = c.top_value-x.result in
    let e : c.loop-i.r - c.below-r.result ≡ c.loop-i.r - below v (c.loop-i.i - 1) c.loop-i.m c.loop-i.o = ap (λ (k : ℕ). c.loop-i.r - k)
    c.below-r.ensures in
    rw e (unranking_more v c.loop-i.invariant c.loop-i-test.true c.top_value-x.ensures)

pub returns : goal.returns
returns c =
    let e : c.loop-i.i ≡ 0 = omega arith in
    rw (c.loop-i.invariant.mover, c.loop-i.invariant.opponent, e) (sym (position_sides _))
