-- Whether some move of a position passes a test, stone by stone and point by point over sets, for any rule of removal: what a search over the moves
-- goes by. Assumes nothing.
use mathlib.Core.Path.{◌≡◌, sym, ap, ◌∙◌}
use mathlib.Core.Bool.{Bool}
use mathlib.Core.List.{List}
use Prim.Native.Nat.{ℕ, ◌+◌, ◌*◌, ◌≤◌}
use Rattle.lists.specs.Lists.{any}
use Rattle.lists.proofs.Tests.{any_each, any_map}
use Rattle.sets.specs.Sets.{elements, set_from}
use Rattle.board.specs.declared.Position.{Position}
use Rattle.board.specs.Board.{board_of}
use Rattle.rules.specs.Ply.{Rule, destinations, slide, removals, slide_moves, stone_moves, moves, after_ply, successors}
use Rattle.rules.proofs.Listed.{TakesOpponent, successors_are}
use Rattle.rules.proofs.Rises.{RisingRule}
use Rattle.plies.specs.Inner.Positions.{Placed}
use Rattle.plies.proofs.StoneMoves.{elements_removals, from_stone, moves_given, stone_given}

-- of the moves of a slide, by what they remove
pub some_slide : (rule : Rule) → TakesOpponent rule → RisingRule rule → (rings : ℕ) → rings ≤ 3 → (b : List ℕ) (f : ℕ → Bool) (from to taken : ℕ)
    → taken ≡ set_from (removals rule rings (slide b from to) to)
    → any (λ r. f (1024 * from + 32 * to + r)) (elements 32 taken) ≡ any f (slide_moves rule rings b from to)
some_slide rule takes rises rings small b f from to taken e =
    ap (any (λ r. f (1024 * from + 32 * to + r))) (ap (elements 32) e ∙ elements_removals rule takes rises rings small (slide b from to) to)
    ∙ sym (any_map f (λ r. 1024 * from + 32 * to + r) (removals rule rings (slide b from to) to))

module _ (rule : Rule) (rings : ℕ) (position : Position) (placed : Placed rings position) (f : ℕ → Bool) where
  abbrev board : List ℕ
  board = board_of (8 * rings) position

  -- of the moves of a stone, by where they go
  pub some_stone : (from tos : ℕ) → tos ≡ set_from (destinations rings board from)
      → any (λ to. any f (slide_moves rule rings board from to)) (elements 32 tos) ≡ any f
      (stone_moves rule rings board from (destinations rings board from))
  some_stone from tos e =
      sym (any_each f (λ to. slide_moves rule rings board from to) (elements 32 tos)) ∙ ap (any f) (stone_given rule rings position placed from tos e)

  -- of all moves, by their stones
  pub some_move : any (λ from. any f (stone_moves rule rings board from (destinations rings board from))) (elements 32 position.mover)
      ≡ any f (moves rule rings board)
  some_move =
      sym (ap (any f) (moves_given rule rings position placed) ∙ any_each f (from_stone rule rings position placed) (elements 32 position.mover))

-- some successor passes where some move leads to one
pub some_successor_is : (rule : Rule) (f : List ℕ → Bool) (rings : ℕ) (b : List ℕ)
    → any (λ n. f (after_ply b n)) (moves rule rings b) ≡ any f (successors rule rings b)
some_successor_is rule f rings b = sym (ap (any f) (successors_are rule rings b) ∙ any_map f (λ n. after_ply b n) (moves rule rings b))
