-- `plies::choices::destinations` meets its contract. Assumes nothing.
use mathlib.Core.Path.{sym, ap₂, ◌∙◌}
use Prim.Native.Nat.{ℕ, ◌*◌}
use native.Mathlib.Omega.{arith}
use lib.Bits.{bit_and}
use Rattle.board.specs.Board.{board_of}
use Rattle.board.proofs.Sides.{length_board}
use Rattle.board.proofs.OneToOne.{mover_count}
use Rattle.rules.proofs.OnSets.{destinations_jump, destinations_slide}
use borrow.Author.Rules.{rules}
use Rattle.plies.proofs.choices.destinations.Goals as goal

pub returns-then-count-eq3 : goal.returns-then-count-eq3
returns-then-count-eq3 c =
    let a = c.args in
    let n : ℕ = 8 * a.rings in
    c.vacant-vacant.ensures
    ∙ sym (destinations_jump a.rings c.requires.playable.placed.small (board_of n a.position) (length_board n a.position) a.from
    (sym (mover_count n a.position c.requires.playable.placed.on (omega (arith, c.requires.playable.placed.small))) ∙ sym c.count.ensures ∙ c.if-count-eq3.true))

pub returns : goal.returns
returns c =
    let a = c.args in
    let n : ℕ = 8 * a.rings in
    ap₂ bit_and c.vacant-vacant.ensures c.neighbours.ensures
    ∙ sym (destinations_slide a.rings c.requires.playable.placed.small (board_of n a.position) (length_board n a.position) a.from
    (λ e. c.if-count-eq3.false (c.count.ensures ∙ mover_count n a.position c.requires.playable.placed.on
    (omega (arith, c.requires.playable.placed.small)) ∙ e)))
