-- `making::is_move` meets its contract: the three tests together are the list. Assumes nothing.
use mathlib.Core.Path.{◌≡◌, sym, ap, ◌∙◌}
use mathlib.Core.Bool.{true≢false}
use Prim.Native.Nat.{ℕ, ◌*◌, ◌/◌, ◌%◌}
use native.Mathlib.Omega.{arith}
use lib.Dec.{eqb}
use borrow.Author.Tests.{eqb-true, eq-eqb}
use Rattle.lists.proofs.Tests.{untrue, same_test}
use Rattle.sets.specs.Sets.{bit, set_from}
use Rattle.sets.proofs.Elements.{bit_low}
use Rattle.board.specs.Board.{board_of}
use Rattle.rules.specs.Ply.{destinations, removable}
use Rattle.rules.proofs.Listed.{removable_takes}
use Rattle.plies.proofs.OnPositions.{mover_small}
use Rattle.plies.proofs.StoneMoves.{destinations_vacant}
use Rattle.making.proofs.Numbers.{from_listed, to_listed, removed_listed, all_listed}
use borrow.Author.Rules.{rules}
use Rattle.making.proofs.is_move.Goals as goal
use Rattle.making.proofs.is_move.Goals.{Then-has-2}

-- the stone is the mover's
own : (c : Then-has-2) → bit c.args.position.mover
    (c.args.number / 1024) ≡ 1
own c = eqb-true _ 1 (sym c.has.ensures ∙ c.if-has.true)

-- and may go there
reached : (c : Then-has-2)
    → bit (set_from (destinations c.args.rings
    (board_of (8 * c.args.rings) c.args.position)
    (c.args.number / 1024)))
    (c.args.number / 32 % 32) ≡ 1
reached c =
    let a = c.args in
    eqb-true _ 1 (sym (c.has-then-has.ensures ∙ ap (λ (x : ℕ). eqb (bit x (a.number / 32 % 32)) 1) c.destinations.ensures)
    ∙ c.if-has-2.true)

pub returns-then-from-ge24 : goal.returns-then-from-ge24
returns-then-from-ge24 c =
    let a = c.args in
    untrue _ (λ e. let h = bit_low 24 a.position.mover (a.number / 1024) (mover_small a.rings a.position c.requires.placed)
    (from_listed (removable a.edition) (removable_takes a.edition) a.rings a.position c.requires.placed a.number e) in absurd
    (omega (arith, h, c.if-from-ge24.true)))

pub removals-requires : goal.removals-requires
removals-requires c =
    let a = c.args in record { playable = c.requires; slide = destinations_vacant a.rings a.position c.requires.placed (a.number / 1024) (own (goal.at.removals-requires c).Then-has-2) (a.number / 32 % 32) (reached (goal.at.removals-requires c).Then-has-2) }

pub returns-then-has-2 : goal.returns-then-has-2
returns-then-has-2 c =
    let a = c.args in
    let e : c.has-then-has-2.result ≡ _ = c.has-then-has-2.ensures ∙ ap (λ (x : ℕ). eqb (bit x (a.number % 32)) 1) c.removals.ensures in
    e ∙ same_test _ _ (λ h. all_listed (removable a.edition) (removable_takes a.edition) a.rings a.position c.requires.placed a.number
    (own (goal.at.returns-then-has-2 c).Then-has-2) (reached (goal.at.returns-then-has-2 c).Then-has-2) (eqb-true _ 1 h))
    (λ h. eq-eqb _ 1 (removed_listed (removable a.edition) (removable_takes a.edition) a.rings a.position c.requires.placed a.number h))

pub returns-else-has-2 : goal.returns-else-has-2
returns-else-has-2 c =
    let a = c.args in
    untrue _ (λ e. true≢false (sym (eq-eqb _ 1
    (to_listed (removable a.edition) (removable_takes a.edition) a.rings a.position c.requires.placed a.number e))
    ∙ ap (λ (x : ℕ). eqb (bit x (a.number / 32 % 32)) 1) (sym c.destinations.ensures) ∙ sym c.has-then-has.ensures ∙ c.if-has-2.false))

pub returns-else-has : goal.returns-else-has
returns-else-has c =
    let a = c.args in
    untrue _ (λ e. true≢false (sym (eq-eqb _ 1
    (from_listed (removable a.edition) (removable_takes a.edition) a.rings a.position c.requires.placed a.number e))
    ∙ sym c.has.ensures ∙ c.if-has.false))
