-- `listing::list_stone` meets its contract. Assumes nothing.
use mathlib.Core.Path.{◌≡◌, sym, ap, ap₂, ◌∙◌}
use mathlib.Core.Bool.{not}
use mathlib.Core.List.{List, map}
use Prim.Native.Nat.{ℕ, ◌+◌, ◌-◌, ◌*◌, ◌≤◌, ◌<◌}
use native.Mathlib.Omega.{arith}
use borrow.Author.Rules.{rules}
use lib.ListN.{length, length-map}
use lib.Seq.{sets, length-sets}
use Rattle.sets.specs.Sets.{without, elements}
use Rattle.sets.proofs.Laws.{without_le}
use Rattle.sets.proofs.Dealt.{Dealt, dealt_none, dealt_room, dealt_more, dealt_all}
use Rattle.board.specs.Board.{board_of}
use Rattle.rules.specs.Ply.{removable, slide_moves}
use Rattle.rules.specs.MoveList.{is_capture, captures, others}
use Rattle.rules.proofs.Listed.{removable_takes}
use Rattle.rules.proofs.Rises.{removable_rising}
use Rattle.plies.specs.Inner.Positions.{Slide}
use Rattle.plies.proofs.OnPositions.{from_low}
use Rattle.listing.proofs.MoveCounts.{stone_kept}
use Rattle.listing.proofs.SlideMoves.{captures_from, others_from}
use Rattle.listing.proofs.list_stone.Given as goal

abbrev pub invariant-loop-left : goal.invariant-loop-left
invariant-loop-left l =
    Dealt (λ to. captures (slide_moves (removable l.edition) l.rings (board_of (8 * l.rings) l.position) l.from to))
    (λ to. others (slide_moves (removable l.edition) l.rings (board_of (8 * l.rings) l.position) l.from to)) l.initial.list l.initial.captures l.initial.others l.tos l.list l.captures l.others l.left

abbrev pub decreases-loop-left : goal.decreases-loop-left
decreases-loop-left l = l.left
