-- `jumping::some_jump` meets its contract. The invariant: nothing is found yet, and the walk has not passed the destinations left. Assumes nothing.
use mathlib.Core.List.{List}
use mathlib.Core.Path.{◌≡◌, refl, sym, ap, ◌∙◌}
use mathlib.Core.Bool.{true}
use Prim.Native.Nat.{ℕ, ◌+◌, ◌*◌, ◌^◌, ◌≤◌, ◌<◌}
use native.Mathlib.Omega.{arith}
use Rattle.lists.specs.Lists.{any}
use Rattle.sets.specs.Sets.{bit, lowest, elements, set_from, without}
use Rattle.sets.proofs.Least.{lowest_least}
use Rattle.sets.proofs.Elements.{lowest_member}
use Rattle.sets.proofs.Passing.{Sought, sought_none, sought_more, sought_found, sought_all}
use Rattle.board.specs.Board.{board_of}
use Rattle.inserting.specs.Inner.Inserting.{Inserting}
use Rattle.ranking.specs.Inner.Rankable.{Rankable}
use Rattle.rules.specs.Ply.{destinations, removable, slide_moves, after_ply}
use Rattle.rules.proofs.Listed.{removable_takes}
use Rattle.rules.proofs.Rises.{removable_rising}
use Rattle.plies.specs.Inner.Positions.{Slide}
use Rattle.plies.proofs.OnPositions.{from_low}
use Rattle.plies.proofs.StoneMoves.{destinations_fit, destinations_vacant}
use Rattle.plies.proofs.SomeMove.{some_slide, some_stone}
use Rattle.asking.specs.Inner.Questions.{entry_asked}
use Rattle.asking.proofs.Removing.{removing}
use Rattle.jumping.proofs.Jumps.{lifted_placed, lifted_vacant, jumping}
use Rattle.jumping.proofs.some_jump.Given as goal

abbrev pub invariant-loop-left : goal.invariant-loop-left
invariant-loop-left l =
    Sought (λ to. any (λ m. entry_asked l.tablebase l.question (board_of (8 * l.rings) l.position) (after_ply (board_of (8 * l.rings) l.position) m))
    (slide_moves (removable l.question.edition) l.rings (board_of (8 * l.rings) l.position) l.stone.from to)) l.stone.tos l.left
    × Inserting (board_of (8 * l.rings) l.lifted) true l.walk
    × ((q : ℕ) → bit l.left q ≡ 1 → l.walk.at ≤ q)

abbrev pub decreases-loop-left : goal.decreases-loop-left
decreases-loop-left l = l.left
