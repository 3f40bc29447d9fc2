-- `board::vacant` meets its contract: the three sets of a board together are all its points. Assumes nothing.
use mathlib.Core.Path.{◌≡◌}
use Prim.Native.Nat.{ℕ, ◌-◌, ◌*◌, ◌%◌, ◌^◌, ◌≤◌}
use native.Mathlib.Omega.{arith}
use Rattle.sets.proofs.Laws.{shl_one}
use Rattle.board.specs.Board.{set_of, board_of}
use Rattle.board.proofs.OneToOne.{vacant_sum}
use Rattle.board.proofs.vacant.Goals as goal
use Rattle.board.proofs.vacant.Goals.{Start}

record Sum (points m o v : ℕ) : Type 0 where
  pub one : 1 ≤ 1 * 2 ^ points % 4294967296
  pub mover : m ≤ 1 * 2 ^ points % 4294967296 - 1
  pub opponent : o ≤ 1 * 2 ^ points % 4294967296 - 1 - m
  pub rest : 1 * 2 ^ points % 4294967296 - 1 - m - o ≡ v

sum : (c : Start)
    → Sum c.args.points c.args.position.mover c.args.position.opponent (set_of 0 (board_of c.args.points c.args.position))
sum c =
    let a = c.args in
    let e = vacant_sum a.points a.position c.requires.1 in
    let s = shl_one a.points (omega (arith, c.requires.0)) in
    record { one = omega arith; mover = omega arith; opponent = omega arith; rest = omega arith }

pub overflow_sub-result : goal.overflow_sub-result
overflow_sub-result c = (sum (goal.at.overflow_sub-result c).Start).one

pub overflow_sub-result-2 : goal.overflow_sub-result-2
overflow_sub-result-2 c = (sum (goal.at.overflow_sub-result-2 c).Start).mover

pub overflow_sub-result-3 : goal.overflow_sub-result-3
overflow_sub-result-3 c = (sum (goal.at.overflow_sub-result-3 c).Start).opponent

pub returns : goal.returns
returns c = (sum (goal.at.returns c).Start).rest
