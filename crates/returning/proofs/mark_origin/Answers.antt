-- `returning::mark_origin` meets its contract. Assumes nothing.
use mathlib.Core.Path.{◌≡◌, refl, sym, ap, ◌∙◌}
use mathlib.Core.Bool.{Bool}
use mathlib.Core.List.{List, [], ◌∷◌}
use Prim.Native.Nat.{ℕ, ◌+◌, ◌*◌}
use native.Mathlib.Omega.{arith}
use Rattle.sets.specs.Sets.{bit, with, without}
use Rattle.sets.proofs.Elements.{bit_low}
use Rattle.board.specs.Board.{digit, board_of}
use Rattle.ranking.specs.Rank.{rank}
use Rattle.rules.specs.Predecessors.{restored}
use Rattle.plies.proofs.OnPositions.{opponent_small}
use Rattle.marks.specs.Inner.Marks.{marked, places}
use Rattle.marks.proofs.Marks.{marked_one}
use Rattle.returning.proofs.Before.{before_placed, before_board, before_mover, before_opponent, others_vacant}
use Rattle.marks.proofs.Vacant.{room_same}
use Rattle.returning.proofs.Restored.{restored_none, restored_given}
use borrow.Author.Rules.{rules}
use Rattle.returning.proofs.mark_origin.Goals as goal
use Rattle.returning.proofs.mark_origin.Goals.{After-with-moved}

-- the stones of the side that moved, before it did
made : (c : After-with-moved)
    → c.with-moved.result
    ≡ with (without c.args.position.opponent c.args.to) c.args.from
made c = c.with-moved.ensures ∙ ap (λ (s : ℕ). with s c.args.from) c.without.ensures

pub returns-then-back : goal.returns-then-back
returns-then-back c =
    let a = c.args in
    let g = c.requires.to_value in
    c.mark_put.ensures
    ∙ ap (λ (l : List (List ℕ)). marked (places a.back.part.start l) a.tablebase.now)
    (restored_given a.rings a.position c.requires.returning.placed a.to a.from c.with-moved.result g.0 g.1 (made (goal.at.returns-then-back c).After-with-moved) c.without-vacant.result
    (c.without-vacant.ensures ∙ ap (λ (x : ℕ). without x a.from) c.vacant.ensures)
    ∙ ap (λ (b : Bool). restored b a.rings (board_of (8 * a.rings) a.position) a.to a.from) (sym c.if-back.true))

pub returns-else-back : goal.returns-else-back
returns-else-back c =
    let a = c.args in
    let g = c.requires.to_value in
    let b : List ℕ = board_of (8 * a.rings) a.position in
    c.mark_position.ensures
    ∙ sym (marked_one (a.back.part.start + rank (board_of (8 * a.rings) record { mover = c.with-moved.result; opponent = a.position.mover })) a.tablebase.now)
    ∙ ap (λ (l : List (List ℕ)). marked (places a.back.part.start l) a.tablebase.now)
    (ap (λ (d : List ℕ). d ∷ []) (before_board a.rings a.position c.requires.returning.placed a.to a.from c.with-moved.result g.0 g.1 (made (goal.at.returns-else-back c).After-with-moved))
    ∙ sym (restored_none a.rings b a.to a.from)
    ∙ ap (λ (t : Bool). restored t a.rings b a.to a.from) (sym c.if-back.false))

pub without-requires : goal.without-requires
without-requires c =
    let a = c.args in
    omega (
      arith,
      bit_low 24 a.position.opponent a.to (opponent_small a.rings a.position c.requires.returning.placed) c.requires.to_value.0,
    )

pub mark_put-requires : goal.mark_put-requires
mark_put-requires c =
    let a = c.args in
    let p = c.requires.returning.placed in
    let g = c.requires.to_value in
    record {
      placed = before_placed a.rings a.position p a.to a.from c.with-moved.result g.0 g.1 (made (goal.at.mark_put-requires c).After-with-moved);
      vacant = λ q e. others_vacant a.rings a.position p a.to a.from c.with-moved.result g.0 g.1 (made (goal.at.mark_put-requires c).After-with-moved) q
          (sym (ap (λ (x : ℕ). bit x q) (c.without-vacant.ensures ∙ ap (λ (x : ℕ). without x a.from) c.vacant.ensures)) ∙ e);
      room = room_same c.requires.returning.room
          (omega (arith, before_mover a.rings a.position p a.to a.from c.with-moved.result g.0 g.1 (made (goal.at.mark_put-requires c).After-with-moved)))
          (omega (
            arith,
            before_opponent a.rings a.position p a.to a.from c.with-moved.result g.0 g.1 (made (goal.at.mark_put-requires c).After-with-moved),
            ap digit c.if-back.true,
          ))
          refl;
    }

pub mark_position-requires : goal.mark_position-requires
mark_position-requires c =
    let a = c.args in
    let p = c.requires.returning.placed in
    let g = c.requires.to_value in
    record {
      placed = before_placed a.rings a.position p a.to a.from c.with-moved.result g.0 g.1 (made (goal.at.mark_position-requires c).After-with-moved);
      room = room_same c.requires.returning.room (sym (before_mover a.rings a.position p a.to a.from c.with-moved.result g.0 g.1 (made (goal.at.mark_position-requires c).After-with-moved)))
          (omega (
            arith,
            before_opponent a.rings a.position p a.to a.from c.with-moved.result g.0 g.1 (made (goal.at.mark_position-requires c).After-with-moved),
            ap digit c.if-back.false,
          ))
          refl;
    }
