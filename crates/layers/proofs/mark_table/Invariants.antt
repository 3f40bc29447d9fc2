-- `layers::mark_table` meets its contract. The invariant: the positions before those passed are marked, and the rank to come has the depth.
-- Assumes nothing.
use mathlib.Core.Path.{◌≡◌, refl, sym, ap, subst, ◌∙◌}
use mathlib.Core.Bool.{true}
use Prim.Native.Nat.{ℕ, ◌≤◌, ◌<◌, ◌-◌, ◌+◌, ◌*◌}
use native.Mathlib.Omega.{arith}
use lib.ListN.{length}
use Rattle.board.specs.Board.{board_of}
use Rattle.sizes.specs.Size.{size}
use Rattle.ranking.specs.Unrank.{unrank}
use Rattle.plies.specs.Inner.Positions.{Placed}
use Rattle.classing.specs.Inner.Classes.{least_of_class}
use Rattle.seeking.specs.Inner.Cursors.{Stands}
use Rattle.layers.specs.Inner.Layers.{Stored, is_source, marked_from}
use Rattle.seeking.proofs.Positions.{placed_at, stands_at}
use Rattle.layers.proofs.Marked.{room_before, marked_place_lem, place_length, from_none, from_step, from_over}
use Rattle.marks.proofs.Vacant.{room_same}
use Rattle.layers.proofs.mark_table.Given as goal

abbrev pub invariant-loop-r : goal.invariant-loop-r
invariant-loop-r l =
    (l.size ≡ size (8 * l.maps.rings) l.layer.source.mover l.layer.source.opponent) × (l.r ≤ l.size) × (length l.tablebase ≡ length l.initial.tablebase)
    × (l.tablebase ≡ marked_from l.maps.rings l.back.part.start l.layer.source l.back.capture l.layer.depth (least_of_class l.maps.rings l.maps.count)
    l.initial.tablebase l.r)
    × (l.r < l.size → is_source l.layer.source l.layer.depth l.tablebase l.r ≡ true)
    × Stands l.maps.rings l.layer.source.mover l.layer.source.opponent l.size l.at

abbrev pub decreases-loop-r : goal.decreases-loop-r
decreases-loop-r l = l.size - l.r
