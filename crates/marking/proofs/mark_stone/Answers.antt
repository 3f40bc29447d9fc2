-- `marking::mark_stone` meets its contract. Assumes nothing.
use mathlib.Core.Path.{sym, ap, ◌∙◌}
use mathlib.Core.List.{List}
use Prim.Native.Nat.{ℕ, ◌*◌}
use Rattle.lists.specs.Lists.{each}
use Rattle.sets.proofs.Elements.{bit_low}
use Rattle.board.specs.Board.{board_of}
use Rattle.rules.specs.Predecessors.{restored}
use Rattle.plies.proofs.OnPositions.{opponent_small}
use Rattle.marks.specs.Inner.Marks.{marked, places}
use Rattle.marks.proofs.Marks.{marked_none}
use Rattle.returning.proofs.Before.{turned_placed}
use Rattle.marking.proofs.Origins.{origins_given, origins_vacant, stone_moved, stone_still}
use borrow.Author.Rules.{rules}
use Rattle.marking.proofs.mark_stone.Goals as goal

pub may_have_moved-requires : goal.may_have_moved-requires
may_have_moved-requires c =
    let a = c.args in
    let p = c.requires.returning.placed in (
      record { masks = c.requires.masks.0; placed = p },
      bit_low 24 a.position.opponent a.to (opponent_small a.rings a.position p) c.requires.masks.1,
    )

pub returns-then-may_have_moved : goal.returns-then-may_have_moved
returns-then-may_have_moved c =
    let a = c.args in
    let p = c.requires.returning.placed in
    let b : List ℕ = board_of (8 * a.rings) a.position in
    c.mark_origins.ensures
    ∙ ap (λ (l : List (List ℕ)). marked (places a.back.part.start l) a.tablebase.now)
    (ap (each (λ from. restored a.back.capture a.rings b a.to from))
    (origins_given a.rings a.position p a.to c.destinations-froms.result c.destinations-froms.ensures)
    ∙ sym (stone_moved a.rings a.position p a.back.capture a.to (sym c.may_have_moved.ensures ∙ c.if-may_have_moved.true)))

pub destinations-froms-requires : goal.destinations-froms-requires
destinations-froms-requires c =
    let a = c.args in
    let p = c.requires.returning.placed in record { playable = record { masks = c.requires.masks.0; placed = turned_placed a.rings a.position p }; from_bound = bit_low 24 a.position.opponent a.to (opponent_small a.rings a.position p) c.requires.masks.1 }

pub mark_origins-requires : goal.mark_origins-requires
mark_origins-requires c =
    let a = c.args in
    let g = c.requires.masks.1 in record { returning = c.requires.returning; to_value = (g, origins_vacant a.rings a.position c.requires.returning.placed a.to c.destinations-froms.result g c.destinations-froms.ensures) }

pub returns-else-may_have_moved : goal.returns-else-may_have_moved
returns-else-may_have_moved c =
    let a = c.args in
    sym (ap (λ (l : List (List ℕ)). marked (places a.back.part.start l) a.tablebase.now)
    (stone_still a.rings a.position c.requires.returning.placed a.back.capture a.to (sym c.may_have_moved.ensures ∙ c.if-may_have_moved.false))
    ∙ marked_none a.tablebase.now)
