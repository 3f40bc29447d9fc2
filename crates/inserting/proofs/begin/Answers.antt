-- `inserting::begin` meets its contract. Assumes nothing.
use mathlib.Core.Path.{◌≡◌, refl, sym, ap, ap₂, subst, ◌∙◌}
use Prim.Native.Nat.{ℕ, ◌+◌, ◌-◌, ◌≤◌, ◌<◌}
use native.Mathlib.Omega.{arith}
use lib.ListN.{length, take}
use Rattle.sets.specs.Sets.{members}
use Rattle.board.specs.declared.Position.{Position}
use Rattle.board.specs.Board.{Values, count, board_of, OnBoard}
use Rattle.board.proofs.Sides.{digit_lt, length_board, board_values}
use Rattle.board.proofs.OneToOne.{mover_set_lem, opponent_set}
use Rattle.ranking.specs.Rank.{rank}
use Rattle.inserting.specs.Inner.Inserting.{Inserting}
use Rattle.board.proofs.Counts.{count_members}
use Rattle.inserting.proofs.Puts.{vacant_low, put_stone_on, put_stone_board}
use Rattle.inserting.proofs.Insertions.{stones_few, inserting_first}
use Rattle.inserting.proofs.begin.Goals as goal
use Rattle.inserting.proofs.begin.Goals.{After-contribution-here, After-count_below, Start}

module _ (s : Start) where
  at_low : s.args.at < 24
  at_low = omega (arith, vacant_low s.args.points s.args.position s.requires.rankable.on s.args.at s.requires.vacant, s.requires.rankable.few)

  values : Values (board_of s.args.points s.args.position)
  values = board_values s.args.points s.args.position s.requires.rankable.on

  short : length (board_of s.args.points s.args.position) ≤ 24
  short = omega (arith, length_board s.args.points s.args.position, s.requires.rankable.few)

  -- the stones below the point
  mover : (m : ℕ) → m ≡ members s.args.position.mover s.args.at
      → m ≡ count 1 (take s.args.at (board_of s.args.points s.args.position))
  mover m e =
      let a = s.args in
      sym (count_members 1 (board_of a.points a.position) a.at (omega (arith, s.requires.vacant.low))
      ∙ ap (λ (k : ℕ). members k a.at) (mover_set_lem a.points a.position s.requires.rankable.on) ∙ sym e)

  opponent : (o : ℕ) → o ≡ members s.args.position.opponent s.args.at
      → o ≡ count 2 (take s.args.at (board_of s.args.points s.args.position))
  opponent o e =
      let a = s.args in
      sym (count_members 2 (board_of a.points a.position) a.at (omega (arith, s.requires.vacant.low))
      ∙ ap (λ (k : ℕ). members k a.at) (opponent_set a.points a.position s.requires.rankable.on) ∙ sym e)

pub put_stone-requires : goal.put_stone-requires
put_stone-requires c = omega (arith, at_low (goal.at.put_stone-requires c).Start)

pub rank-whole-requires : goal.rank-whole-requires
rank-whole-requires c =
    let a = c.args in
    record {
      few = c.requires.rankable.few;
      on = subst (λ (p : Position). OnBoard a.points p) (sym c.put_stone.ensures)
          (put_stone_on a.points a.position c.requires.rankable.on a.at c.requires.vacant a.theirs);
    }

pub count_below-o-requires : goal.count_below-o-requires
count_below-o-requires c = omega (arith, at_low (goal.at.count_below-o-requires c).Start)

pub count_below-requires : goal.count_below-requires
count_below-requires c = omega (arith, at_low (goal.at.count_below-requires c).Start)

-- few stones are below the point
few : (c : After-count_below) → c.count_below.result + c.count_below-o.result ≤ c.args.at
few c =
    let a = c.args in
    omega (
      arith,
      mover c.before.before.before.before c.count_below.result c.count_below.ensures,
      opponent c.before.before.before.before c.count_below-o.result c.count_below-o.ensures,
      stones_few (board_of a.points a.position) (values c.before.before.before.before) (short c.before.before.before.before) a.at (omega (arith, c.requires.vacant.low)),
    )

pub overflow_add-stones : goal.overflow_add-stones
overflow_add-stones c =
    omega (arith, few (goal.at.overflow_add-stones c).After-count_below, at_low (goal.at.overflow_add-stones c).Start)

pub overflow_add-stones-2 : goal.overflow_add-stones-2
overflow_add-stones-2 c =
    omega (arith, few (goal.at.overflow_add-stones-2 c).After-count_below, at_low (goal.at.overflow_add-stones-2 c).Start)

pub overflow_add-o : goal.overflow_add-o
overflow_add-o c =
    omega (arith, few (goal.at.overflow_add-o c).After-count_below, at_low (goal.at.overflow_add-o c).Start, digit_lt c.args.theirs)

pub contribution-here-requires : goal.contribution-here-requires
contribution-here-requires c =
    omega (arith, few (goal.at.contribution-here-requires c).After-count_below, at_low (goal.at.contribution-here-requires c).Start, digit_lt c.args.theirs)

-- the walk begun
begun : (c : After-contribution-here)
    → (c.contribution-here.result ≤ c.rank-whole.result)
    × Inserting (board_of c.args.points c.args.position)
    c.args.theirs record {
      at = c.args.at;
      stones = c.count_below.result + c.count_below-o.result;
      o = c.count_below-o.result;
      gain = c.rank-whole.result - c.contribution-here.result;
    }
begun c =
    let a = c.args in
    let b = board_of a.points a.position in
    let o = opponent c.before.before.before.before.before c.count_below-o.result c.count_below-o.ensures in
    inserting_first b (values c.before.before.before.before.before) (short c.before.before.before.before.before) a.theirs a.at (c.count_below.result + c.count_below-o.result) c.count_below-o.result
    c.contribution-here.result c.rank-whole.result c.requires.vacant (ap₂ ◌+◌ (mover c.before.before.before.before.before c.count_below.result c.count_below.ensures) o) o
    c.contribution-here.ensures
    (c.rank-whole.ensures ∙ ap (λ (p : Position). rank (board_of a.points p)) c.put_stone.ensures
    ∙ ap rank (put_stone_board a.points a.position c.requires.rankable.on a.at c.requires.vacant a.theirs))

pub overflow_sub-result : goal.overflow_sub-result
overflow_sub-result c = (begun (goal.at.overflow_sub-result c).After-contribution-here).0

pub returns : goal.returns
returns c = (refl, (begun (goal.at.returns c).After-contribution-here).1)
