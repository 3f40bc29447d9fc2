-- `marks::mark_put` meets its contract. The invariant: what the points left give is still to be marked, and the walk has not passed them. Assumes nothing.
use mathlib.Core.Path.{◌≡◌, sym, ap, subst, ◌∙◌}
use mathlib.Core.List.{List, [], ◌∷◌, map}
use Prim.Native.Nat.{ℕ, suc, ◌+◌, ◌-◌, ◌*◌, ◌≤◌, ◌<◌}
use native.Mathlib.Omega.{arith}
use lib.ListN.{length, set}
use Rattle.sets.specs.Sets.{bit, elements}
use Rattle.sets.proofs.Least.{lowest_least}
use Rattle.sets.proofs.Elements.{lowest_member}
use Rattle.board.specs.Board.{count, digit, board_of}
use Rattle.board.proofs.Sides.{length_board, board_values}
use Rattle.sizes.specs.Size.{size}
use Rattle.ranking.specs.Rank.{rank}
use Rattle.inserting.specs.Inner.Inserting.{Inserting, Vacant}
use Rattle.ranking.specs.Inner.Rankable.{Rankable}
use Rattle.inserting.proofs.Insertions.{put_low}
use Rattle.marks.specs.Inner.Marks.{mark_at, marked, places}
use Rattle.marks.proofs.Marks.{mark_is, marked_one}
use Rattle.marks.proofs.Marking.{Marking, marking_none, marking_more, marking_all, each_one}
use Rattle.marks.proofs.Vacant.{vacant_board}
use Rattle.marks.proofs.mark_put.Goals as goal
use Rattle.marks.proofs.mark_put.Goals.{After-go_to-walk, After-take_lowest-p, Start}

module _ (s : Start) where
  abbrev board : List ℕ
  board = board_of (8 * s.args.rings) s.args.base

  abbrev put : ℕ → List ℕ
  put p = set (board_of (8 * s.args.rings) s.args.base) p (suc (digit s.args.theirs))

  few : 8 * s.args.rings ≤ 24
  few = omega (arith, s.requires.placed.small)

  rankable : Rankable (8 * s.args.rings) s.args.base
  rankable = record { few = few; on = s.requires.placed.on }

  -- a point of the set is vacant
  vacant : (p : ℕ) → bit s.args.points p ≡ 1 → Vacant board p
  vacant p e = vacant_board s.args.rings s.args.base s.requires.placed p (s.requires.vacant p e)

  -- and the rank with a stone there is one of the table
  low : (p : ℕ) → Vacant board p → s.args.part.start + rank (put p) < s.args.part.end
  low p v =
      let a = s.args in
      let l : length board ≤ 24 = omega (arith, length_board (8 * a.rings) a.base, few) in
      let h = put_low board (board_values (8 * a.rings) a.base s.requires.placed.on) l a.theirs p v in
      let e = ap (λ (n : ℕ). size n (count 1 board + (1 - digit a.theirs)) (count 2 board + digit a.theirs)) (length_board (8 * a.rings)
      a.base) in
      omega (arith, h, e, s.requires.room.whole)

pub overflow_mul-rings : goal.overflow_mul-rings
overflow_mul-rings c = omega (arith, few (goal.at.overflow_mul-rings c).Start)

pub lowest-requires : goal.lowest-requires
lowest-requires c = c.if-points-ne0.true

pub begin-walk-requires : goal.begin-walk-requires
begin-walk-requires c =
    let a = c.args in
    let e = lowest_member a.points c.ranges.points.fits c.if-points-ne0.true in record { rankable = rankable (goal.at.begin-walk-requires c).Start; vacant = vacant (goal.at.begin-walk-requires c).Start c.lowest.result (ap (bit a.points) c.lowest.ensures.0 ∙ e) }

pub loop-left-init : goal.loop-left-init
loop-left-init c =
    let a = c.args in (
      marking_none a.part.start (λ p. put (goal.at.loop-left-init c).Start p ∷ []) a.tablebase.now a.points c.ranges.points.fits,
      c.begin-walk.ensures.1,
      λ q e. omega (arith, c.begin-walk.ensures.0, c.lowest.ensures.0, lowest_least a.points q c.ranges.points.fits c.if-points-ne0.true e),
    )

pub take_lowest-p-requires : goal.take_lowest-p-requires
take_lowest-p-requires c = c.loop-left-test.true

-- it is vacant
free : (c : After-take_lowest-p) → Vacant (board c.before.before.before.before.before.before.before)
    c.take_lowest-p.result.lowest
free c =
    vacant c.before.before.before.before.before.before.before c.take_lowest-p.result.lowest (c.loop-left.invariant.0.among c.take_lowest-p.result.lowest
    c.take_lowest-p.ensures.member)

pub overflow_mul-rings-in-loop-left : goal.overflow_mul-rings-in-loop-left
overflow_mul-rings-in-loop-left c = omega (arith, few (goal.at.overflow_mul-rings-in-loop-left c).Start)

pub go_to-walk-requires : goal.go_to-walk-requires
go_to-walk-requires c =
    let a = c.args in
    let l = (free (goal.at.go_to-walk-requires c).After-take_lowest-p).low in record {
      rankable = rankable (goal.at.go_to-walk-requires c).Start;
      at_le_to = (
        c.loop-left.invariant.2 c.take_lowest-p.result.lowest c.take_lowest-p.ensures.member,
        omega (arith, l, length_board (8 * a.rings) a.base),
        c.loop-left.invariant.1,
      );
    }

pub overflow_mul-rings-in-loop-left-2 : goal.overflow_mul-rings-in-loop-left-2
overflow_mul-rings-in-loop-left-2 c = omega (arith, few (goal.at.overflow_mul-rings-in-loop-left-2 c).Start)

-- the walk is there
there : (c : After-go_to-walk)
    → Vacant (board c.before.before.before.before.before.before.before.before) c.go_to-walk.result.at
there c =
    subst (λ (p : ℕ). Vacant (board c.before.before.before.before.before.before.before.before) p) (sym c.go_to-walk.ensures.0) (free c.before)

pub rank_at-r-requires : goal.rank_at-r-requires
rank_at-r-requires c =
    record { rankable = rankable (goal.at.rank_at-r-requires c).Start; vacant = (there (goal.at.rank_at-r-requires c).After-go_to-walk, c.go_to-walk.ensures.1) }

pub mark_entry-requires : goal.mark_entry-requires
mark_entry-requires c =
    (omega (arith, c.rank_at-r.ensures, low (goal.at.mark_entry-requires c).Start c.go_to-walk.result.at (there (goal.at.mark_entry-requires c).After-go_to-walk)), omega (arith, c.requires.room.within, c.loop-left.invariant.0.long))

pub loop-left-smaller : goal.loop-left-smaller
loop-left-smaller c = omega (arith, c.take_lowest-p.ensures.less)

pub loop-left-preserved : goal.loop-left-preserved
loop-left-preserved c =
    let a = c.args in
    let p : ℕ = c.take_lowest-p.result.lowest in
    let t = c.take_lowest-p.ensures in
    let n : c.rank_at-r.result ≡ rank (put (goal.at.loop-left-preserved c).Start p) = c.rank_at-r.ensures ∙ ap (λ (q : ℕ). rank (put (goal.at.loop-left-preserved c).Start q)) c.go_to-walk.ensures.0 in (
      marking_more a.part.start (λ q. put (goal.at.loop-left-preserved c).Start q ∷ []) a.tablebase.now a.points c.loop-left.tablebase c.loop-left.left p
          c.take_lowest-p.result.rest _
          c.loop-left.invariant.0 t
          (c.mark_entry.ensures ∙ sym (mark_is (a.part.start + c.rank_at-r.result) c.loop-left.tablebase)
          ∙ ap (λ (i : ℕ). mark_at (a.part.start + i) c.loop-left.tablebase) n ∙ sym (marked_one (a.part.start + rank (put (goal.at.loop-left-preserved c).Start p)) c.loop-left.tablebase)),
      c.go_to-walk.ensures.1,
      λ q e. omega (arith, c.go_to-walk.ensures.0, t.least q (t.among q e)),
    )

pub shape_of-tablebase : goal.shape_of-tablebase
shape_of-tablebase c = c.loop-left.invariant.0.long

-- with one board from each point, all are marked
all : (s : Start) (new : List ℕ) (left : ℕ)
    → Marking s.args.part.start (λ p. put s p ∷ []) s.args.tablebase.now s.args.points new left → left ≡ 0
    → new ≡ marked (places s.args.part.start (map (put s) (elements 32 s.args.points))) s.args.tablebase.now
all s new left w z =
    let a = s.args in
    marking_all a.part.start (λ p. put s p ∷ []) a.tablebase.now a.points new left w z
    ∙ ap (λ (l : List (List ℕ)). marked (places a.part.start l) a.tablebase.now) (each_one (put s) (elements 32 a.points))

pub returns-after-loop-left : goal.returns-after-loop-left
returns-after-loop-left c =
    all (goal.at.returns-after-loop-left c).Start c.loop-left.tablebase c.loop-left.left c.loop-left.invariant.0 c.loop-left-test.false

pub returns-else-points-ne0 : goal.returns-else-points-ne0
returns-else-points-ne0 c =
    let a = c.args in
    all (goal.at.returns-else-points-ne0 c).Start a.tablebase.now a.points (marking_none a.part.start (λ p. put (goal.at.returns-else-points-ne0 c).Start p ∷ []) a.tablebase.now a.points
    c.ranges.points.fits) c.if-points-ne0.false
