-- `listing::count_moves` meets its contract. Assumes nothing.
use mathlib.Core.Path.{◌≡◌, sym, ap, ◌∙◌}
use mathlib.Core.Bool.{not}
use mathlib.Core.List.{List}
use Prim.Native.Nat.{ℕ, ◌*◌}
use native.Mathlib.Omega.{arith}
use lib.ListN.{length}
use Rattle.sets.specs.Sets.{bit}
use Rattle.sets.proofs.Elements.{bit_low}
use Rattle.sets.proofs.Passing.{Counted, counted_none, counted_more, counted_all}
use Rattle.board.specs.Board.{board_of}
use Rattle.rules.specs.Ply.{destinations, removable, stone_moves}
use Rattle.rules.specs.MoveList.{is_capture, captures, others}
use Rattle.rules.proofs.Listed.{removable_takes}
use Rattle.rules.proofs.Rises.{removable_rising}
use Rattle.plies.proofs.OnPositions.{mover_small}
use Rattle.plies.proofs.StoneMoves.{destinations_vacant, stone_given, mover_fits}
use Rattle.listing.proofs.MoveCounts.{moves_kept, moves_few}
use Rattle.listing.proofs.count_moves.Given as goal

abbrev pub invariant-loop-left : goal.invariant-loop-left
invariant-loop-left l =
    Counted (λ from. captures (stone_moves (removable l.edition) l.rings (board_of (8 * l.rings) l.position) from
    (destinations l.rings (board_of (8 * l.rings) l.position) from))) l.position.mover l.captures l.left
    × Counted (λ from. others (stone_moves (removable l.edition) l.rings (board_of (8 * l.rings) l.position) from
    (destinations l.rings (board_of (8 * l.rings) l.position) from))) l.position.mover l.others l.left

abbrev pub decreases-loop-left : goal.decreases-loop-left
decreases-loop-left l = l.left
