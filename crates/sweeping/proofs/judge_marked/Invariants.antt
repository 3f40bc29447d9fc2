-- `sweeping::judge_marked` meets its contract. The invariant: the places passed are judged, and the rank to come is marked. Assumes nothing.
use mathlib.Core.Path.{◌≡◌, refl, sym, ap, subst, ◌∙◌}
use mathlib.Core.Bool.{true}
use Prim.Native.Nat.{ℕ, ◌≤◌, ◌<◌, ◌-◌, ◌+◌, ◌*◌}
use native.Mathlib.Omega.{arith}
use lib.ListN.{length}
use Rattle.sizes.specs.Size.{size}
use Rattle.rules.specs.Ply.{removable}
use Rattle.seeking.specs.Inner.Cursors.{Stands}
use Rattle.deciding.specs.Inner.Fits.{Fits}
use Rattle.settling.specs.Inner.Settled.{judged_class, is_marked, judged_first}
use Rattle.settling.proofs.Judged.{judged_none, judged_length, judged_step, judged_over}
use Rattle.seeking.proofs.Positions.{stands_at}
use Rattle.board.specs.Board.{position_of}
use Rattle.ranking.specs.Unrank.{unrank}
use Rattle.sweeping.proofs.judge_marked.Given as goal

abbrev pub invariant-loop-r : goal.invariant-loop-r
invariant-loop-r l =
    (l.size ≡ size (8 * l.maps.rings) l.sweep.table.mover l.sweep.table.opponent) × (l.r ≤ l.size) × (length l.tablebase ≡ length l.initial.tablebase)
    × (l.tablebase ≡ judged_first (removable l.sweep.edition) l.maps.rings l.sweep.table l.sweep.same l.sweep.level l.maps.count l.initial.tablebase l.r)
    × (l.r < l.size → is_marked l.sweep.table l.tablebase l.r ≡ true)
    × Stands l.maps.rings l.sweep.table.mover l.sweep.table.opponent l.size l.at

abbrev pub decreases-loop-r : goal.decreases-loop-r
decreases-loop-r l = l.size - l.r
