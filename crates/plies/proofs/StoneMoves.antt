-- The moves of a position, stone by stone and point by point over sets, for any rule of removal that names opposing stones by rising number: what a
-- loop over the moves goes by. Assumes nothing.
use mathlib.Core.Path.{◌≡◌, ap, ◌∙◌}
use mathlib.Core.List.{List}
use Prim.Native.Nat.{ℕ, ◌*◌, ◌^◌, ◌≤◌, ◌<◌}
use native.Mathlib.Nat.{lt_of_lt_of_le}
use native.Mathlib.Omega.{arith}
use lib.Pow.{pow_mono}
use Rattle.lists.specs.Lists.{each}
use Rattle.sets.specs.Sets.{bit, elements, set_from}
use Rattle.sets.proofs.Elements.{from_lt, elements_from, from_bit}
use Rattle.sets.proofs.Passing.{given}
use Rattle.board.specs.declared.Position.{Position}
use Rattle.board.specs.Board.{board_of}
use Rattle.board.proofs.Sides.{length_board}
use Rattle.board.proofs.OneToOne.{mover_set_lem, vacant_bits}
use Rattle.rules.specs.Ply.{Rule, holding, destinations, removals, stone_moves, moves}
use Rattle.plies.specs.Inner.Positions.{Placed, Slides}
use Rattle.rules.proofs.Listed.{TakesOpponent, destination_vacant, moves_are}
use Rattle.rules.proofs.Rises.{RisingRule, removals_rising, removal_low, destinations_rising}
use Rattle.rules.proofs.OnSets.{holding_set}

module _ (rule : Rule) (takes : TakesOpponent rule) (rises : RisingRule rule) (rings : ℕ) (small : rings ≤ 3) where
  -- what a slide may remove, from its set
  pub elements_removals : (c : List ℕ) (to : ℕ) → elements 32 (set_from (removals rule rings c to)) ≡ removals rule rings c to
  elements_removals c to =
      elements_from 32 (removals rule rings c to) (removals_rising rule takes rises rings small c to)
      (λ r m. removal_low rule takes rises rings small c to r m)

module _ (rings : ℕ) (small : rings ≤ 3) (b : List ℕ) where
  -- the points that a stone may go to, from their set
  pub elements_destinations : (from : ℕ) → elements 32 (set_from (destinations rings b from)) ≡ destinations rings b from
  elements_destinations from =
      elements_from 32 (destinations rings b from) (destinations_rising rings b from) (λ to m. omega (arith, (destination_vacant rings b from to m).0))

  pub destinations_fit : (from : ℕ) → set_from (destinations rings b from) < 2 ^ 32
  destinations_fit from = from_lt 32 (destinations rings b from) (λ to m. omega (arith, (destination_vacant rings b from to m).0))

module _ (rings : ℕ) (position : Position) (placed : Placed rings position) where
  abbrev board : List ℕ
  board = board_of (8 * rings) position

  -- a stone goes to vacant points
  pub destinations_vacant : (from : ℕ) → bit position.mover from ≡ 1 → Slides rings position from (set_from (destinations rings board from))
  destinations_vacant from own to e =
      let m = destination_vacant rings board from to (from_bit (destinations rings board from) to e) in
      let z = vacant_bits (8 * rings) position placed.on to m.0 m.1 in
      record { own = own; low = m.0; free = z.0; none = z.1 }

  -- the mover's stones, from their set
  pub stones_given : holding rings board 1 ≡ elements 32 position.mover
  stones_given =
      holding_set rings placed.small board (length_board (8 * rings) position) 1 ∙ ap (elements 32) (mover_set_lem (8 * rings) position placed.on)

  pub mover_fits : position.mover < 2 ^ 32
  mover_fits = lt_of_lt_of_le placed.on.mover_within (pow_mono {i = 8 * rings} {j = 32} (omega (arith, placed.small)))

module _ (rule : Rule) (rings : ℕ) (position : Position) (placed : Placed rings position) where
  -- the moves of the stone at a point
  abbrev pub from_stone : ℕ → List ℕ
  from_stone from = stone_moves rule rings (board_of (8 * rings) position) from (destinations rings (board_of (8 * rings) position) from)

  -- the moves of a position, over the mover's set
  pub moves_given : moves rule rings (board_of (8 * rings) position) ≡ given from_stone position.mover
  moves_given = moves_are rule rings (board_of (8 * rings) position) ∙ ap (each from_stone) (stones_given rings position placed)

  pub stone_given : (from tos : ℕ) → tos ≡ set_from (destinations rings (board_of (8 * rings) position) from)
      → stone_moves rule rings (board_of (8 * rings) position) from (elements 32 tos) ≡ from_stone from
  stone_given from tos e =
      ap (stone_moves rule rings (board_of (8 * rings) position) from)
      (ap (elements 32) e ∙ elements_destinations rings placed.small (board_of (8 * rings) position) from)
