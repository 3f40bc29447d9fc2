-- `marks::mark_put` meets its contract. The invariant: what the points left give is still to be marked, and the walk has not passed them. Assumes nothing.
use mathlib.Core.Path.{◌≡◌, sym, ap, subst, ◌∙◌}
use mathlib.Core.List.{List, [], ◌∷◌, map}
use Prim.Native.Nat.{ℕ, suc, ◌+◌, ◌-◌, ◌*◌, ◌≤◌, ◌<◌}
use native.Mathlib.Omega.{arith}
use lib.ListN.{length, set}
use Rattle.sets.specs.Sets.{bit, elements}
use Rattle.sets.proofs.Least.{lowest_least}
use Rattle.sets.proofs.Elements.{lowest_member}
use Rattle.board.specs.Board.{count, digit, board_of}
use Rattle.board.proofs.Sides.{length_board, board_values}
use Rattle.sizes.specs.Size.{size}
use Rattle.ranking.specs.Rank.{rank}
use Rattle.inserting.specs.Inner.Inserting.{Inserting, Vacant}
use Rattle.ranking.specs.Inner.Rankable.{Rankable}
use Rattle.inserting.proofs.Insertions.{put_low}
use Rattle.marks.specs.Inner.Marks.{mark_at, marked, places}
use Rattle.marks.proofs.Marks.{mark_is, marked_one}
use Rattle.marks.proofs.Marking.{Marking, marking_none, marking_more, marking_all, each_one}
use Rattle.marks.proofs.Vacant.{vacant_board}
use Rattle.marks.proofs.mark_put.Given as goal

abbrev pub invariant-loop-left : goal.invariant-loop-left
invariant-loop-left l =
    Marking l.part.start (λ p. set (board_of (8 * l.rings) l.base) p (suc (digit l.theirs)) ∷ []) l.initial.tablebase l.points l.tablebase l.left
    × Inserting (board_of (8 * l.rings) l.base) l.theirs l.walk
    × ((q : ℕ) → bit l.left q ≡ 1 → l.walk.at ≤ q)

abbrev pub decreases-loop-left : goal.decreases-loop-left
decreases-loop-left l = l.left
