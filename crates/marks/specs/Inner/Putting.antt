-- Vacant points, the room of a table, and what the functions that mark positions ask of their caller. Assumes nothing.
use Rattle.std.specs.Prelude.{◌≡◌, Bool, List, ℕ, ◌+◌, ◌-◌, ◌*◌, ◌≤◌, ◌<◌}
use Rattle.sets.specs.Sets.{bit}
use Rattle.board.specs.declared.Position.{Position}
use Rattle.board.specs.Board.{count, digit, board_of}
use Rattle.sizes.specs.Size.{size}
use Rattle.plies.specs.Inner.Positions.{Placed}
use Rattle.parts.specs.declared.Part.{Part}

-- a point of the board with no stone
pub record VacantAt (rings : ℕ) (position : Position) (p : ℕ) : Type 0 where
  pub low : p < 8 * rings
  pub free : bit position.mover p ≡ 0
  pub none : bit position.opponent p ≡ 0

-- a set of such points
abbrev pub VacantAll : ℕ → Position → ℕ → Type 0
VacantAll rings position points = (p : ℕ) → bit points p ≡ 1 → VacantAt rings position p

-- a table of m and o stones lies from a start on and below an end, among so many places
pub record Room (points m o start end places : ℕ) : Type 0 where
  pub whole : end ≡ start + size points m o
  pub within : end ≤ places

-- a position, and its table among so many places
pub record Markable (length rings : ℕ) (part : Part) (position : Position) : Type 0 where
  pub placed : Placed rings position
  pub room : Room (8 * rings) (count 1 (board_of (8 * rings) position)) (count 2 (board_of (8 * rings) position)) part.start part.end length

-- the same of the positions with one stone more, the opponent's or the mover's, at one of some vacant points
pub record Putting (length rings : ℕ) (part : Part) (base : Position) (theirs : Bool) (points : ℕ) : Type 0 where
  pub placed : Placed rings base
  pub vacant : VacantAll rings base points
  pub room : Room (8 * rings) (count 1 (board_of (8 * rings) base) + (1 - digit theirs)) (count 2 (board_of (8 * rings) base) + digit theirs)
      part.start part.end length
