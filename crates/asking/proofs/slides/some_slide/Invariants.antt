-- `asking::slides::some_slide` meets its contract. Assumes nothing.
use mathlib.Core.List.{List}
use mathlib.Core.Path.{◌≡◌, sym, ap, ◌∙◌}
use Prim.Native.Nat.{ℕ, ◌+◌, ◌*◌, ◌<◌}
use native.Mathlib.Omega.{arith}
use Rattle.lists.specs.Lists.{any}
use Rattle.sets.specs.Sets.{bit, elements, set_from}
use Rattle.sets.proofs.Passing.{Sought, sought_none, sought_more, sought_found, sought_all}
use Rattle.board.specs.Board.{board_of}
use Rattle.rules.specs.Ply.{destinations, removable, slide_moves, after_ply}
use Rattle.rules.proofs.Listed.{removable_takes}
use Rattle.rules.proofs.Rises.{removable_rising}
use Rattle.plies.specs.Inner.Positions.{Slide}
use Rattle.plies.proofs.OnPositions.{from_low}
use Rattle.plies.proofs.StoneMoves.{destinations_fit, destinations_vacant}
use Rattle.plies.proofs.SomeMove.{some_slide, some_stone}
use Rattle.asking.specs.Inner.Questions.{entry_asked}
use Rattle.asking.proofs.Removing.{removing}
use Rattle.asking.proofs.slides.some_slide.Given as goal

abbrev pub invariant-loop-left : goal.invariant-loop-left
invariant-loop-left l =
    Sought (λ to. any (λ m. entry_asked l.tablebase l.question (board_of (8 * l.rings) l.position) (after_ply (board_of (8 * l.rings) l.position) m))
    (slide_moves (removable l.question.edition) l.rings (board_of (8 * l.rings) l.position) l.stone.from to)) l.stone.tos l.left

abbrev pub decreases-loop-left : goal.decreases-loop-left
decreases-loop-left l = l.left
