-- What the functions on a position ask of their caller. Assumes nothing.
use Rattle.std.specs.Prelude.{◌≡◌, List, ℕ, ◌*◌, ◌≤◌, ◌<◌}
use Rattle.sets.specs.Sets.{bit}
use Rattle.board.specs.declared.Position.{Position}
use Rattle.board.specs.Board.{OnBoard}
use Rattle.masks.specs.Inner.Masks.{Masks}

-- a position of a board of one, two or three rings
pub record Placed (rings : ℕ) (position : Position) : Type 0 where
  pub small : rings ≤ 3
  pub on : OnBoard (8 * rings) position

-- a position with the masks of its board
pub record Playable (rings : ℕ) (lent : List ℕ) (position : Position) : Type 0 where
  pub masks : Masks rings lent
  pub placed : Placed rings position

-- a stone of the mover's, and a vacant point
pub record Slide (rings : ℕ) (position : Position) (from to : ℕ) : Type 0 where
  pub own : bit position.mover from ≡ 1
  pub low : to < 8 * rings
  pub free : bit position.mover to ≡ 0
  pub none : bit position.opponent to ≡ 0

-- a stone of the mover's, and a set of vacant points
abbrev pub Slides : ℕ → Position → ℕ → ℕ → Type 0
Slides rings position from tos = (to : ℕ) → bit tos to ≡ 1 → Slide rings position from to
