-- `inserting::pass` meets its contract: a vacant point changes nothing, and a stone adds what it adds below the new one. Assumes nothing.
use mathlib.Core.Path.{◌≡◌, refl, sym, ap, ◌∙◌}
use mathlib.Core.Bool.{Bool}
use Prim.Native.Nat.{ℕ, suc, ◌+◌, ◌-◌, ◌≤◌, ◌<◌}
use native.Mathlib.Omega.{arith}
use lib.ListN.{length, get_or}
use Rattle.board.specs.Board.{Values, digit, board_of}
use Rattle.board.proofs.Sides.{digit_lt, length_board, board_values}
use Rattle.inserting.specs.Inner.Inserting.{Inserting}
use Rattle.ranking.proofs.Steps.{below_small}
use Rattle.ranking.proofs.Digits.{vacant_value, stone_value}
use Rattle.inserting.proofs.Insertions.{Low, inserting_low, passed_vacant, stone_room, passed_stone}
use Rattle.inserting.proofs.pass.Goals as goal
use Rattle.inserting.proofs.pass.Goals.{After-contribution-new, After-has-x, Start}

module _ (s : Start) where
  values : Values (board_of s.args.points s.args.position)
  values = board_values s.args.points s.args.position s.requires.rankable.on

  short : length (board_of s.args.points s.args.position) ≤ 24
  short = omega (arith, length_board s.args.points s.args.position, s.requires.rankable.few)

  at_low : s.args.walk.at < length (board_of s.args.points s.args.position)
  at_low = omega (arith, length_board s.args.points s.args.position, s.requires.at_lt_points.0)

  -- the walk's numbers
  low : Low (board_of s.args.points s.args.position) values short s.args.theirs s.args.walk
  low = inserting_low (board_of s.args.points s.args.position) values short s.args.theirs s.args.walk s.requires.at_lt_points.1

-- the stone at the point
stone : (c : After-has-x)
    → get_or (board_of c.args.points c.args.position)
    c.args.walk.at 0 ≡ suc (digit c.has-x.result)
stone c =
    let a = c.args in
    stone_value a.points a.position c.requires.rankable.on a.walk.at c.requires.at_lt_points.0 (sym c.has.ensures ∙ c.if-has.true)
    ∙ ap (λ (y : Bool). suc (digit y)) (sym c.has-x.ensures)

room : (c : After-has-x) → c.args.walk.stones < c.args.walk.at
room c =
    let a = c.args in
    stone_room (board_of a.points a.position) (values c.before.before.before.before) (short c.before.before.before.before) a.theirs a.walk c.requires.at_lt_points.1 (at_low c.before.before.before.before) c.has-x.result (stone c)

pub overflow_add-o : goal.overflow_add-o
overflow_add-o c =
    omega (arith, (low (goal.at.overflow_add-o c).Start).few, (low (goal.at.overflow_add-o c).Start).some, at_low (goal.at.overflow_add-o c).Start, short (goal.at.overflow_add-o c).Start, digit_lt c.has-x.result)

pub overflow_add-o-then-has : goal.overflow_add-o-then-has
overflow_add-o-then-has c =
    omega (arith, (low (goal.at.overflow_add-o-then-has c).Start).few, (low (goal.at.overflow_add-o-then-has c).Start).some, at_low (goal.at.overflow_add-o-then-has c).Start, short (goal.at.overflow_add-o-then-has c).Start, digit_lt c.has-x.result, digit_lt c.args.theirs)

pub contribution-old-requires : goal.contribution-old-requires
contribution-old-requires c =
    omega (arith, room (goal.at.contribution-old-requires c).After-has-x, (low (goal.at.contribution-old-requires c).Start).some, at_low (goal.at.contribution-old-requires c).Start, short (goal.at.contribution-old-requires c).Start, digit_lt c.has-x.result, digit_lt c.args.theirs)

pub contribution-new-requires : goal.contribution-new-requires
contribution-new-requires c =
    omega (arith, room (goal.at.contribution-new-requires c).After-has-x, (low (goal.at.contribution-new-requires c).Start).some, at_low (goal.at.contribution-new-requires c).Start, short (goal.at.contribution-new-requires c).Start, digit_lt c.has-x.result)

pub overflow_add-result-then-has : goal.overflow_add-result-then-has
overflow_add-result-then-has c =
    let w = c.args.walk in
    let d : ℕ = digit c.has-x.result in
    omega (
      arith,
      (low (goal.at.overflow_add-result-then-has c).Start).gain_low,
      c.contribution-new.ensures,
      below_small (suc d) w.at (w.stones + 1 - (w.o + d)) (w.o + d) (omega (arith, at_low (goal.at.overflow_add-result-then-has c).Start, short (goal.at.overflow_add-result-then-has c).Start)),
    )

-- the walk with the stone passed
next : (c : After-contribution-new)
    → (c.contribution-old.result ≤ c.args.walk.gain + c.contribution-new.result)
    × Inserting
    (board_of c.args.points
    c.args.position)
    c.args.theirs record {
      at = c.args.walk.at + 1;
      stones = c.args.walk.stones + 1;
      o = c.args.walk.o + digit c.has-x.result;
      gain = c.args.walk.gain + c.contribution-new.result - c.contribution-old.result;
    }
next c =
    let a = c.args in
    passed_stone (board_of a.points a.position) (values c.before.before.before.before.before.before.before.before) (short c.before.before.before.before.before.before.before.before) a.theirs a.walk c.requires.at_lt_points.1 (at_low c.before.before.before.before.before.before.before.before) c.has-x.result
    c.contribution-new.result c.contribution-old.result (stone c.before.before.before.before) c.contribution-new.ensures c.contribution-old.ensures

pub overflow_sub-result : goal.overflow_sub-result
overflow_sub-result c = (next (goal.at.overflow_sub-result c).After-contribution-new).0

pub returns-then-has : goal.returns-then-has
returns-then-has c = (refl, (next (goal.at.returns-then-has c).After-contribution-new).1)

pub returns : goal.returns
returns c =
    let a = c.args in (
      refl,
      passed_vacant (board_of a.points a.position) (values (goal.at.returns c).Start) (short (goal.at.returns c).Start) a.theirs a.walk c.requires.at_lt_points.1 (at_low (goal.at.returns c).Start)
          (vacant_value a.points a.position c.requires.rankable.on a.walk.at c.requires.at_lt_points.0 (sym c.has.ensures ∙ c.if-has.false)),
    )
