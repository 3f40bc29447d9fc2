-- What the functions on ranks ask of their caller: a position of a board of so many points. Assumes nothing.
use Rattle.std.specs.Prelude.{ℕ, ◌≤◌}
use Rattle.board.specs.declared.Position.{Position}
use Rattle.board.specs.Board.{OnBoard}

pub record Rankable (points : ℕ) (position : Position) : Type 0 where
  pub few : points ≤ 24
  pub on : OnBoard points position
