-- Whether a mover is blocked, over its set of stones and the sets of where each may go. Assumes nothing.
use mathlib.Core.Path.{◌≡◌, refl, sym, ap, ◌∙◌}
use mathlib.Core.Bool.{Bool, true, false, not}
use mathlib.Core.List.{List}
use Prim.Native.Nat.{ℕ, ◌*◌, ◌^◌, ◌<◌}
use Rattle.lists.specs.Lists.{any, all, is_empty}
use Rattle.lists.proofs.Tests.{all_none}
use Rattle.sets.specs.Sets.{elements, set_from}
use Rattle.sets.proofs.Elements.{elements_none, elements_lowest}
use Rattle.board.specs.declared.Position.{Position}
use Rattle.board.specs.Board.{board_of}
use Rattle.rules.specs.Ply.{destinations, blocked}
use Rattle.rules.proofs.Blocked.{blocked_is}
use Rattle.plies.specs.Inner.Positions.{Placed}
use Rattle.plies.proofs.StoneMoves.{elements_destinations, destinations_fit, stones_given}

-- a stone can go somewhere
abbrev pub movable : ℕ → Position → ℕ → Bool
movable rings position from = not (is_empty (destinations rings (board_of (8 * rings) position) from))

module _ (rings : ℕ) (position : Position) (placed : Placed rings position) where
  abbrev board : List ℕ
  board = board_of (8 * rings) position

  module _ (from tos : ℕ) (e : tos ≡ set_from (destinations rings board from)) where
    movable_is : not (is_empty (elements 32 tos)) ≡ movable rings position from
    movable_is = ap (λ (l : List ℕ). not (is_empty l)) (ap (elements 32) e ∙ elements_destinations rings placed.small board from)

    pub stone_stuck : tos ≡ 0 → movable rings position from ≡ false
    stone_stuck z = sym movable_is ∙ ap (λ (s : ℕ). not (is_empty (elements 32 s))) z ∙ ap (λ (l : List ℕ). not (is_empty l)) (elements_none 32)

    tos_fits : tos < 2 ^ 32
    tos_fits = rw e (destinations_fit rings placed.small board from)

    pub stone_free : (tos ≡ 0 → ⊥) → movable rings position from ≡ true
    stone_free n = sym movable_is ∙ ap (λ (l : List ℕ). not (is_empty l)) (elements_lowest tos tos_fits n)

  -- a mover is blocked where no stone can
  pub none_movable : (t : Bool) → t ≡ any (λ from. movable rings position from) (elements 32 position.mover) → not t ≡ blocked rings board
  none_movable t e =
      ap not e
      ∙ sym (blocked_is rings board ∙ ap (all (λ from. is_empty (destinations rings board from))) (stones_given rings position placed)
      ∙ all_none (λ from. is_empty (destinations rings board from)) (λ from. movable rings position from)
      (elements 32 position.mover) (λ from m. refl))
