-- `listing::list_moves` meets its contract. Assumes nothing.
use mathlib.Core.Path.{◌≡◌, sym, ap, ap₂, ◌∙◌}
use mathlib.Core.Bool.{not}
use mathlib.Core.List.{List}
use Prim.Native.Nat.{ℕ, ◌+◌, ◌*◌}
use native.Mathlib.Nat.{zero-add}
use native.Mathlib.Omega.{arith}
use lib.ListN.{length}
use lib.Seq.{sets}
use Rattle.lists.proofs.Writing.{sets_append}
use Rattle.sets.specs.Sets.{bit, elements}
use Rattle.sets.proofs.Elements.{bit_low}
use Rattle.sets.proofs.Dealt.{Dealt, dealt_none, dealt_room, dealt_more, dealt_all}
use Rattle.board.specs.Board.{board_of}
use Rattle.rules.specs.Ply.{destinations, removable, stone_moves, moves}
use Rattle.rules.specs.MoveList.{is_capture, captures, others}
use Rattle.rules.proofs.CapturesFirst.{listed_are, listed_total}
use Rattle.plies.proofs.OnPositions.{mover_small}
use Rattle.plies.proofs.StoneMoves.{destinations_vacant, from_stone, stone_given, mover_fits}
use Rattle.listing.specs.Inner.Places.{dealt}
use Rattle.listing.proofs.MoveCounts.{moves_kept}
use Rattle.listing.proofs.list_moves.Given as goal

abbrev pub invariant-loop-left : goal.invariant-loop-left
invariant-loop-left l =
    Dealt (λ from. captures (stone_moves (removable l.edition) l.rings (board_of (8 * l.rings) l.position) from
    (destinations l.rings (board_of (8 * l.rings) l.position) from)))
    (λ from. others (stone_moves (removable l.edition) l.rings (board_of (8 * l.rings) l.position) from
    (destinations l.rings (board_of (8 * l.rings) l.position) from))) l.initial.list 0 l.others l.position.mover l.list l.at.captures l.at.others l.left

abbrev pub decreases-loop-left : goal.decreases-loop-left
decreases-loop-left l = l.left
