-- `stepping::next` meets its contract: what it computes is the next position by its two sides. Assumes nothing.
use mathlib.Core.Path.{refl, sym, ap, ap₂, ◌∙◌}
use Prim.Native.Nat.{ℕ, ◌-◌, ◌*◌, ◌^◌, ◌≤◌, ◌<◌}
use native.Mathlib.Nat.{lt_of_lt_of_le}
use native.Mathlib.Omega.{arith}
use lib.Bits.{or_lt}
use lib.Dec.{ltb}
use lib.Pow.{pow_mono}
use Rattle.sets.specs.Sets.{lowest}
use Rattle.board.specs.declared.Position.{Position}
use Rattle.board.specs.Board.{digit, OnBoard}
use Rattle.board.proofs.Sides.{digit_lt}
use Rattle.ranking.proofs.Digits.{stones}
use Rattle.stepping.proofs.Descents.{Descent, descent, drops_any}
use Rattle.stepping.proofs.Runs.{Runs, runs, stones_any, with_any}
use Rattle.stepping.proofs.NextPosition.{Stepped, stepped, sides}
use Rattle.stepping.proofs.next.Goals as goal
use Rattle.stepping.proofs.next.Goals.{After-has-was, After-lowest, After-lowest-p, Start}

-- the sides are small
record Small (position : Position) : Type 0 where
  pub mover : position.mover < 2 ^ 24
  pub opponent : position.opponent < 2 ^ 24
  pub both : stones position < 2 ^ 24

small : (points : ℕ) (position : Position) → points ≤ 24 → OnBoard points position → Small position
small points position h w =
    let k : 2 ^ points ≤ 2 ^ 24 = pow_mono {i = points} {j = 24} h in
    let m : position.mover < 2 ^ 24 = lt_of_lt_of_le w.mover_within k in
    let o : position.opponent < 2 ^ 24 = lt_of_lt_of_le w.opponent_within k in
    record { mover = m; opponent = o; both = or_lt 24 position.mover position.opponent m o }

small_at : (s : Start) → Small s.args.position
small_at s = small s.args.points s.args.position s.requires.points_bound.0 s.requires.points_bound.1

-- the descent that was found
found : (c : After-lowest-p)
    → Descent c.args.points c.args.position c.lowest-p.result
found c =
    descent c.args.points c.args.position c.requires.points_bound.1 c.ends.result c.ends-2.result
    c.ends.ensures c.ends-2.ensures c.requires.b_bound c.lowest-p.result c.lowest-p.ensures.0

-- the stones below it
below : (c : After-lowest)
    → Runs c.args.position
    c.lowest-p.result c.lowest-t.result c.lowest.result
below c =
    runs c.args.points c.args.position c.lowest-p.result c.lowest-t.result c.lowest.result c.requires.points_bound.1 (found c.before.before.before)
    c.requires.points_bound.0 (small_at c.before.before.before.before.before.before.before).both (small_at c.before.before.before.before.before.before.before).opponent (c.lowest-t.ensures.0 ∙ ap lowest c.with.ensures)
    c.lowest.ensures.0

-- and what is to be put there
step : (c : After-has-was)
    → Stepped c.args.points
    c.args.position
    c.lowest-p.result (digit c.has-was.result)
    (c.lowest-t.result - c.lowest.result)
    (c.lowest-p.result - c.lowest-t.result)
    ((1 - digit c.has-was.result) * digit (ltb 0 (c.lowest-t.result - c.lowest.result)))
step c =
    let m : ℕ = c.lowest-t.result - c.lowest.result in
    stepped c.args.points c.args.position c.lowest-p.result (digit c.has-was.result) m (c.lowest-p.result - c.lowest-t.result)
    ((1 - digit c.has-was.result) * digit (ltb 0 m)) c.requires.points_bound.1 (found c.before.before.before.before) (ap digit c.has-was.ensures) (sym (below c.before).mover)
    (sym (below c.before).opponent) refl

pub returns : goal.returns
returns c =
    ap₂ sides c.side.ensures c.side-2.ensures ∙ (step (goal.at.returns c).After-has-was).is_next

pub ends-requires : goal.ends-requires
ends-requires c = (small_at (goal.at.ends-requires c).Start).opponent

pub ends-requires-2 : goal.ends-requires-2
ends-requires-2 c = (small_at (goal.at.ends-requires-2 c).Start).both

pub lowest-p-requires : goal.lowest-p-requires
lowest-p-requires c =
    drops_any c.args.points c.args.position c.requires.points_bound.1 c.ends.result c.ends-2.result c.ends.ensures
    c.ends-2.ensures c.requires.b_bound

pub lowest-t-requires : goal.lowest-t-requires
lowest-t-requires c e = with_any c.args.position.opponent c.lowest-p.result (sym c.with.ensures ∙ e)

pub lowest-requires : goal.lowest-requires
lowest-requires c =
    stones_any c.args.points c.args.position c.lowest-p.result (found (goal.at.lowest-requires c).After-lowest-p)

pub overflow_sub-m : goal.overflow_sub-m
overflow_sub-m c = (below (goal.at.overflow_sub-m c).After-lowest).mover_from

pub overflow_sub-o : goal.overflow_sub-o
overflow_sub-o c = (below (goal.at.overflow_sub-o c).After-lowest).opponent_from

pub overflow_sub-one : goal.overflow_sub-one
overflow_sub-one c = omega (arith, digit_lt c.has-was.result)

pub overflow_mul-one : goal.overflow_mul-one
overflow_mul-one c = omega (arith, (step (goal.at.overflow_mul-one c).After-has-was).one_le)

pub overflow_add-mover : goal.overflow_add-mover
overflow_add-mover c = omega (arith, c.lowest-t.ensures.1, digit_lt c.has-was.result)

pub overflow_sub-mover : goal.overflow_sub-mover
overflow_sub-mover c = (step (goal.at.overflow_sub-mover c).After-has-was).mover_left

pub overflow_add-opponent : goal.overflow_add-opponent
overflow_add-opponent c =
    omega (arith, c.lowest-p.ensures.1, (step (goal.at.overflow_add-opponent c).After-has-was).one_le)

pub overflow_sub-opponent : goal.overflow_sub-opponent
overflow_sub-opponent c = (step (goal.at.overflow_sub-opponent c).After-has-was).opponent_left

pub side-requires : goal.side-requires
side-requires c =
    ((small_at (goal.at.side-requires c).Start).mover, omega (arith, (found (goal.at.side-requires c).After-lowest-p).low, c.requires.points_bound.0), (step (goal.at.side-requires c).After-has-was).one_le, (step (goal.at.side-requires c).After-has-was).few)

pub overflow_sub-one-2 : goal.overflow_sub-one-2
overflow_sub-one-2 c = (step (goal.at.overflow_sub-one-2 c).After-has-was).one_le

pub side-requires-2 : goal.side-requires-2
side-requires-2 c =
    ((small_at (goal.at.side-requires-2 c).Start).opponent, omega (arith, (found (goal.at.side-requires-2 c).After-lowest-p).low, c.requires.points_bound.0), omega arith, omega (arith, (step (goal.at.side-requires-2 c).After-has-was).few))
