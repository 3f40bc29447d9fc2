-- `ranking::rank` meets its contract. The invariant: the counts and the rank of the points passed, and the stones that are left. Assumes nothing.
use Prim.Native.Nat.{ℕ, suc, ◌+◌, ◌-◌}
use native.Mathlib.Omega.{arith}
use Rattle.board.specs.Board.{digit}
use Rattle.board.proofs.Sides.{digit_lt}
use Rattle.ranking.proofs.Steps.{below_small}
use Rattle.ranking.proofs.OnSets.{passing_none, Here, passing_here, passing_more, passing_all}
use Rattle.ranking.proofs.rank.Goals as goal
use Rattle.ranking.proofs.rank.Goals.{After-take_lowest-p}

here : (c : After-take_lowest-p)
    → Here c.args.points c.take_lowest-p.result.lowest c.loop-left.stones c.loop-left.o
    c.loop-left.r
here c =
    passing_here c.args.points c.args.position c.requires.few c.requires.on c.loop-left.stones c.loop-left.o c.loop-left.r c.loop-left.left
    c.take_lowest-p.result.lowest c.take_lowest-p.result.rest c.loop-left.invariant c.take_lowest-p.ensures

pub loop-left-init : goal.loop-left-init
loop-left-init c = passing_none c.args.points c.args.position c.requires.few c.requires.on

pub take_lowest-p-requires : goal.take_lowest-p-requires
take_lowest-p-requires c = c.loop-left-test.true

pub has-theirs-requires : goal.has-theirs-requires
has-theirs-requires c = c.take_lowest-p.ensures.low

pub overflow_add-stones : goal.overflow_add-stones
overflow_add-stones c =
    omega (arith, (here (goal.at.overflow_add-stones c).After-take_lowest-p).few, c.take_lowest-p.ensures.low)

pub overflow_add-o : goal.overflow_add-o
overflow_add-o c =
    omega (arith, c.loop-left.invariant.some, (here (goal.at.overflow_add-o c).After-take_lowest-p).few, c.take_lowest-p.ensures.low, digit_lt c.has-theirs.result)

pub contribution-r-requires : goal.contribution-r-requires
contribution-r-requires c =
    let h = here (goal.at.contribution-r-requires c).After-take_lowest-p in omega (arith, h.low, h.few, c.requires.few, c.loop-left.invariant.some, digit_lt c.has-theirs.result)

pub overflow_add-r : goal.overflow_add-r
overflow_add-r c =
    let d : ℕ = digit c.has-theirs.result in
    let h = here (goal.at.overflow_add-r c).After-take_lowest-p in
    omega (
      arith,
      h.rank_low,
      c.contribution-r.ensures,
      below_small (suc d) c.take_lowest-p.result.lowest (c.loop-left.stones + 1 - (c.loop-left.o + d)) (c.loop-left.o + d) (omega (arith, h.low, c.requires.few)),
    )

pub loop-left-smaller : goal.loop-left-smaller
loop-left-smaller c = omega (arith, c.take_lowest-p.ensures.less)

pub loop-left-preserved : goal.loop-left-preserved
loop-left-preserved c =
    passing_more c.args.points c.args.position c.requires.few c.requires.on c.loop-left.stones c.loop-left.o c.loop-left.r c.loop-left.left
    c.take_lowest-p.result.lowest c.take_lowest-p.result.rest c.loop-left.invariant c.take_lowest-p.ensures c.has-theirs.result
    c.contribution-r.result c.has-theirs.ensures c.contribution-r.ensures

pub returns : goal.returns
returns c =
    passing_all c.args.points c.args.position c.requires.few c.requires.on c.loop-left.stones c.loop-left.o c.loop-left.r c.loop-left.left
    c.loop-left.invariant c.loop-left-test.false
