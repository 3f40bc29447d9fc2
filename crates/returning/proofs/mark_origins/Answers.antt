-- `returning::mark_origins` meets its contract: either way marks the same boards. Assumes nothing.
use mathlib.Core.Path.{◌≡◌, refl, sym, ap, ◌∙◌}
use mathlib.Core.Bool.{Bool, false}
use mathlib.Core.List.{List}
use Prim.Native.Nat.{ℕ, ◌*◌}
use native.Mathlib.Omega.{arith}
use Rattle.lists.specs.Lists.{each}
use Rattle.lists.proofs.Tests.{or_left}
use Rattle.sets.specs.Sets.{elements}
use Rattle.sets.proofs.Elements.{bit_low}
use Rattle.board.specs.Board.{digit, board_of}
use Rattle.rules.specs.Predecessors.{restored}
use Rattle.plies.proofs.OnPositions.{opponent_small}
use Rattle.marks.specs.Inner.Marks.{marked, places}
use Rattle.returning.proofs.Before.{lifted_placed, lifted_mover, lifted_opponent, lifted_vacant}
use Rattle.marks.proofs.Vacant.{room_same}
use Rattle.returning.proofs.Restored.{lifted_given}
use borrow.Author.Rules.{rules}
use Rattle.returning.proofs.mark_origins.Goals as goal
use Rattle.returning.proofs.mark_origins.Goals.{Else-back-count}

-- by the walk no stone was removed
none : (c : Else-back-count) → c.args.back.capture ≡ false
none c = or_left c.args.back.capture _ c.if-back-count.false

pub without-requires : goal.without-requires
without-requires c =
    let a = c.args in
    omega (
      arith,
      bit_low 24 a.position.opponent a.to (opponent_small a.rings a.position c.requires.returning.placed) c.requires.to_value.0,
    )

pub returns-else-back-count : goal.returns-else-back-count
returns-else-back-count c =
    let a = c.args in
    let b : List ℕ = board_of (8 * a.rings) a.position in
    c.mark_put.ensures
    ∙ ap (λ (l : List (List ℕ)). marked (places a.back.part.start l) a.tablebase.now)
    (lifted_given a.rings a.position c.requires.returning.placed a.to c.without.result c.requires.to_value.0 c.without.ensures (elements 32 a.froms)
    ∙ ap (λ (t : Bool). each (λ from. restored t a.rings b a.to from) (elements 32 a.froms)) (sym (none (goal.at.returns-else-back-count c).Else-back-count)))

pub mark_put-requires : goal.mark_put-requires
mark_put-requires c =
    let a = c.args in
    let p = c.requires.returning.placed in
    let g = c.requires.to_value in
    let m : ℕ = c.without.result in
    record {
      placed = lifted_placed a.rings a.position p a.to m g.0 c.without.ensures;
      vacant = λ q e. lifted_vacant a.rings a.position p a.to m g.0 c.without.ensures q (g.1 q e);
      room = room_same c.requires.returning.room (lifted_mover a.rings a.position p a.to m g.0 c.without.ensures)
          (omega (arith, lifted_opponent a.rings a.position p a.to m g.0 c.without.ensures, ap digit (none (goal.at.mark_put-requires c).Else-back-count))) refl;
    }
