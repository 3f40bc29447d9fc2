-- How many moves a position has at the most, of all or of those that pass a test, stone by stone and point by point, for any rule of removal that
-- names opposing stones by rising number: the counts stay small. Assumes nothing.
use mathlib.Core.Path.{◌≡◌, refl, sym, ap, subst, ◌∙◌}
use mathlib.Core.Bool.{Bool}
use mathlib.Core.List.{List}
use Prim.Native.Nat.{ℕ, ◌*◌, ◌≤◌}
use native.Mathlib.Omega.{arith}
use lib.ListN.{length, length-map}
use Rattle.lists.specs.Lists.{keep}
use Rattle.lists.proofs.Keep.{keep_each}
use Rattle.lists.proofs.Lengths.{keep_le, each_le}
use Rattle.sets.specs.Sets.{elements, set_from}
use Rattle.sets.proofs.Laws.{members_le}
use Rattle.sets.proofs.Elements.{length_elements}
use Rattle.sets.proofs.Passing.{given}
use Rattle.board.specs.declared.Position.{Position}
use Rattle.board.specs.Board.{board_of}
use Rattle.rules.specs.Ply.{Rule, destinations, slide, removals, move_number, slide_moves, stone_moves, moves}
use Rattle.rules.proofs.Listed.{TakesOpponent}
use Rattle.rules.proofs.Rises.{RisingRule}
use Rattle.plies.specs.Inner.Positions.{Placed}
use Rattle.plies.proofs.StoneMoves.{elements_removals, from_stone, moves_given, stone_given}

-- the moves of one stone that pass a test
pub stone_kept : (rule : Rule) (rings : ℕ) (b : List ℕ) (from : ℕ) (test : ℕ → Bool) (tos : ℕ)
    → given (λ to. keep test (slide_moves rule rings b from to)) tos ≡ keep test (stone_moves rule rings b from (elements 32 tos))
stone_kept rule rings b from test tos = sym (keep_each test (λ to. slide_moves rule rings b from to) (elements 32 tos))

-- the moves of a position that do
pub moves_kept : (rule : Rule) (rings : ℕ) (position : Position) (placed : Placed rings position) (test : ℕ → Bool)
    → given (λ from. keep test (from_stone rule rings position placed from)) position.mover ≡ keep test
    (moves rule rings (board_of (8 * rings) position))
moves_kept rule rings position placed test =
    sym (keep_each test (from_stone rule rings position placed) (elements 32 position.mover))
    ∙ ap (keep test) (sym (moves_given rule rings position placed))

module _ (rule : Rule) (takes : TakesOpponent rule) (rises : RisingRule rule) (rings : ℕ) (small : rings ≤ 3) (b : List ℕ) (from : ℕ) where
  -- 32 moves of one stone to one point at the most, so 1,024 of one stone
  slide_le : (to : ℕ) → length (slide_moves rule rings b from to) ≤ 32
  slide_le to =
      omega (
        arith,
        length-map (removals rule rings (slide b from to) to) (λ r. move_number from to r),
        ap length (elements_removals rule takes rises rings small (slide b from to) to),
        length_elements 32 (set_from (removals rule rings (slide b from to) to)),
        members_le (set_from (removals rule rings (slide b from to) to)) 32,
      )

  stone_le : (tos : ℕ) → length (stone_moves rule rings b from (elements 32 tos)) ≤ 1024
  stone_le tos =
      omega (
        arith,
        each_le (λ to. slide_moves rule rings b from to) 32 (elements 32 tos)
            (λ to m. slide_le to),
        length_elements 32 tos,
        members_le tos 32,
      )

  pub stone_few : (test : ℕ → Bool) (tos : ℕ) → length (given (λ to. keep test (slide_moves rule rings b from to)) tos) ≤ 1024
  stone_few test tos =
      omega (arith, ap length (stone_kept rule rings b from test tos), keep_le test (stone_moves rule rings b from (elements 32 tos)), stone_le tos)

module _ (rule : Rule) (takes : TakesOpponent rule) (rises : RisingRule rule) (rings : ℕ) (position : Position) (placed : Placed rings position) where
  abbrev board : List ℕ
  board = board_of (8 * rings) position

  abbrev stone_moves_from : ℕ → List ℕ
  stone_moves_from from = from_stone rule rings position placed from

  -- 32 stones of 1,024 moves each, and more are not to be had
  moves_le : length (given stone_moves_from position.mover) ≤ 32768
  moves_le =
      omega (
        arith,
        each_le stone_moves_from 1024 (elements 32 position.mover) (λ from m. few from),
        length_elements 32 position.mover,
        members_le
            position.mover 32,
      )
    where
      few : (from : ℕ) → length (stone_moves_from from) ≤ 1024
      few from =
          subst (λ (l : List ℕ). length l ≤ 1024) (stone_given rule rings position placed from (set_from (destinations rings board from)) refl)
          (stone_le rule takes rises rings placed.small board from (set_from (destinations rings board from)))

  pub moves_few : (test : ℕ → Bool) → length (given (λ from. keep test (stone_moves_from from)) position.mover) ≤ 32768
  moves_few test =
      omega (
        arith,
        ap length (keep_each test stone_moves_from (elements 32 position.mover)),
        keep_le test (given stone_moves_from position.mover),
        moves_le,
      )
