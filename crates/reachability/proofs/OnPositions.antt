-- The test of a position on three rings under edition 1, by its two sets. Assumes nothing.
use mathlib.Core.Path.{◌≡◌, sym, ap, ap₂, ◌∙◌}
use mathlib.Core.Bool.{Bool, true, false, not, ◌&&◌, ◌||◌}
use mathlib.Core.List.{List}
use Prim.Native.Nat.{ℕ, ◌*◌}
use lib.Dec.{eqb}
use borrow.Author.Tests.{eq-eqb, not-true}
use Rattle.lists.proofs.Tests.{and_left, and_right}
use Rattle.sets.specs.Sets.{has, members}
use Rattle.board.specs.declared.Position.{Position}
use Rattle.board.specs.Board.{board_of, set_of}
use Rattle.board.proofs.Sides.{length_board}
use Rattle.board.proofs.OneToOne.{mover_set_lem, opponent_set}
use Rattle.rules.specs.Unreachable.{has_mill, nine_against_mill}
use Rattle.rules.proofs.Unreachable.{three_rings, nine_sets}
use Rattle.plies.specs.Inner.Positions.{Placed}
use Rattle.refusals.specs.Conditions.{position_unreachable}

-- a side has nine stones and the other a full mill
abbrev pub nine_set : ℕ → ℕ → Bool
nine_set side other = eqb (members side 32) 9 && has_mill 3 (λ q. has other q)

module _ (rings edition : ℕ) (p : Position) (w : Placed rings p) (first : edition ≡ 1) (three : rings ≡ 3) where
  abbrev board : List ℕ
  board = board_of (8 * rings) p

  side : (v x s t : ℕ) → set_of v board ≡ s → set_of x board ≡ t → nine_against_mill rings board v x ≡ nine_set s t
  side v x s t e f = nine_sets rings w.small board (length_board (8 * rings) p) v x ∙ rw (e, f, three)

  sides_decide : position_unreachable rings edition board ≡ (nine_set p.mover p.opponent || nine_set p.opponent p.mover)
  sides_decide =
      ap₂ ◌&&◌ (eq-eqb edition 1 first) (three_rings rings board three)
      ∙ ap₂ ◌||◌ (side 1 2 p.mover p.opponent (mover_set_lem (8 * rings) p w.on) (opponent_set (8 * rings) p w.on))
      (side 2 1 p.opponent p.mover (opponent_set (8 * rings) p w.on) (mover_set_lem (8 * rings) p w.on))

  -- without nine stones it passes
  pub none_nine : (not (eqb (members p.mover 32) 9) && not (eqb (members p.opponent 32) 9)) ≡ true → false ≡ position_unreachable rings edition board
  none_nine e =
      let m = not-true (eqb (members p.mover 32) 9) (and_left _ _ e) in
      let o = not-true (eqb (members p.opponent 32) 9) (and_right (not (eqb (members p.mover 32) 9)) _ e) in
      sym (sides_decide ∙ ap₂ (λ (t u : Bool). (t && has_mill 3 (λ q. has p.opponent q)) || (u && has_mill 3 (λ q. has p.mover q))) m o)

  -- the first side decides where it has nine against a mill, else the second
  pub first_side : nine_set p.mover p.opponent ≡ true → true ≡ position_unreachable rings edition board
  first_side e = sym (sides_decide ∙ ap (λ (t : Bool). t || nine_set p.opponent p.mover) e)

  pub second_side : nine_set p.mover p.opponent ≡ false → nine_set p.opponent p.mover ≡ position_unreachable rings edition board
  second_side e = sym (sides_decide ∙ ap (λ (t : Bool). t || nine_set p.opponent p.mover) e)
