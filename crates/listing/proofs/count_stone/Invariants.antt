-- `listing::count_stone` meets its contract. Assumes nothing.
use mathlib.Core.Path.{◌≡◌, ap, ◌∙◌}
use mathlib.Core.Bool.{Bool, true, false, not}
use mir.Val.{bool_byte}
use mathlib.Core.List.{List}
use Prim.Native.Nat.{ℕ, ◌*◌, ◌≤◌}
use native.Mathlib.Omega.{arith}
use lib.ListN.{length}
use borrow.Author.Rules.{rules}
use Rattle.sets.proofs.Passing.{Counted, counted_none, counted_more, counted_all}
use Rattle.board.specs.Board.{board_of}
use Rattle.rules.specs.Ply.{removable, slide_moves}
use Rattle.rules.specs.MoveList.{is_capture, captures, others}
use Rattle.rules.proofs.Listed.{removable_takes}
use Rattle.rules.proofs.Rises.{removable_rising}
use Rattle.listing.proofs.MoveCounts.{stone_kept, stone_few}
use Rattle.listing.proofs.SlideMoves.{captures_count, others_count}
use Rattle.listing.proofs.count_stone.Given as goal

abbrev pub invariant-loop-left : goal.invariant-loop-left
invariant-loop-left l =
    Counted (λ to. captures (slide_moves (removable l.edition) l.rings (board_of (8 * l.rings) l.position) l.from to)) l.tos l.captures l.left
    × Counted (λ to. others (slide_moves (removable l.edition) l.rings (board_of (8 * l.rings) l.position) l.from to)) l.tos l.others l.left

abbrev pub decreases-loop-left : goal.decreases-loop-left
decreases-loop-left l = l.left
