-- `inserting::rank_at` meets its contract. Assumes nothing.
use Prim.Native.Nat.{ℕ, suc, ◌+◌, ◌-◌, ◌≤◌}
use native.Mathlib.Omega.{arith}
use lib.ListN.{length}
use Rattle.board.specs.Board.{digit, board_of}
use Rattle.board.proofs.Sides.{digit_lt, length_board, board_values}
use Rattle.ranking.proofs.Steps.{below_small}
use Rattle.inserting.proofs.Puts.{vacant_low}
use Rattle.inserting.proofs.Insertions.{Low, inserting_low, inserting_rank}
use Rattle.inserting.proofs.rank_at.Goals as goal
use Rattle.inserting.proofs.rank_at.Goals.{Start}

short : (s : Start) → length (board_of s.args.points s.args.position) ≤ 24
short s = omega (arith, length_board s.args.points s.args.position, s.requires.rankable.few)

-- the walk's numbers
low : (s : Start)
    → Low (board_of s.args.points s.args.position) (board_values s.args.points s.args.position s.requires.rankable.on) (short s)
    s.args.theirs s.args.walk
low s =
    let a = s.args in
    inserting_low (board_of a.points a.position) (board_values a.points a.position s.requires.rankable.on) (short s) a.theirs a.walk s.requires.vacant.1

at_low : (s : Start) → suc s.args.walk.at ≤ 24
at_low s =
    let a = s.args in
    omega (arith, vacant_low a.points a.position s.requires.rankable.on a.walk.at s.requires.vacant.0, s.requires.rankable.few)

pub overflow_add-walk : goal.overflow_add-walk
overflow_add-walk c =
    omega (arith, (low (goal.at.overflow_add-walk c).Start).few, at_low (goal.at.overflow_add-walk c).Start)

pub overflow_add-walk-2 : goal.overflow_add-walk-2
overflow_add-walk-2 c =
    omega (arith, (low (goal.at.overflow_add-walk-2 c).Start).few, (low (goal.at.overflow_add-walk-2 c).Start).some, at_low (goal.at.overflow_add-walk-2 c).Start, digit_lt c.args.theirs)

pub contribution-requires : goal.contribution-requires
contribution-requires c =
    omega (arith, (low (goal.at.contribution-requires c).Start).few, (low (goal.at.contribution-requires c).Start).some, at_low (goal.at.contribution-requires c).Start, digit_lt c.args.theirs)

pub overflow_add-result : goal.overflow_add-result
overflow_add-result c =
    let a = c.args in
    let d : ℕ = digit a.theirs in
    omega (
      arith,
      (low (goal.at.overflow_add-result c).Start).gain_low,
      c.contribution.ensures,
      below_small (suc d) a.walk.at (a.walk.stones + 1 - (a.walk.o + d)) (a.walk.o + d) (omega (arith, at_low (goal.at.overflow_add-result c).Start)),
    )

pub returns : goal.returns
returns c =
    let a = c.args in
    omega (
      arith,
      c.contribution.ensures,
      inserting_rank (board_of a.points a.position) (board_values a.points a.position c.requires.rankable.on) (short (goal.at.returns c).Start) a.theirs a.walk
          c.requires.vacant.1 c.requires.vacant.0,
    )
