-- The rank of a position with one stone more, of a given side, for vacant point after vacant point: what the stones above the point add to a rank, and
-- the state of a walk up the points. Assumes nothing.
use Rattle.std.specs.Prelude.{◌≡◌, Bool, true, false, List, [], ◌∷◌, ℕ, suc, ◌+◌, ◌-◌, ◌≤◌, ◌<◌, eqb, length, get_or, take, drop}
use Rattle.sets.specs.Sets.{with}
use Rattle.board.specs.declared.Position.{Position}
use Rattle.board.specs.Board.{count, digit}
use Rattle.inserting.specs.declared.Insertion.{Insertion}
use Rattle.ranking.specs.Rank.{rank}
use Rattle.ranking.specs.Unrank.{below}

-- what the values of points i, i + 1, .. add to a rank, with m and o stones below them
unfoldable pub added : List ℕ → ℕ → ℕ → ℕ → ℕ
added [] i m o = 0
added (x ∷ xs) i m o =
    below x i (m + digit (eqb x 1)) (o + digit (eqb x 2)) + added xs (suc i) (m + digit (eqb x 1)) (o + digit (eqb x 2))

-- the points below the one reached are passed: their stones are counted, and `gain` is what all points add where one stone more, of the opponent or
-- of the mover, is counted from here on; a stone that stands here leaves a point below that is vacant
pub record Inserting (b : List ℕ) (theirs : Bool) (walk : Insertion) : Type 0 where
  pub within : walk.at ≤ length b
  pub both : walk.stones ≡ count 1 (take walk.at b) + count 2 (take walk.at b)
  pub opponent : walk.o ≡ count 2 (take walk.at b)
  pub room : walk.stones + digit (eqb (get_or b walk.at 0) 1) + digit (eqb (get_or b walk.at 0) 2) ≤ walk.at
  pub gain_is : walk.gain
      ≡ rank (take walk.at b)
      + added (drop walk.at b) walk.at (count 1 (take walk.at b) + (1 - digit theirs)) (count 2 (take walk.at b) + digit theirs)

-- a vacant point of a board
pub record Vacant (b : List ℕ) (p : ℕ) : Type 0 where
  pub low : p < length b
  pub empty : get_or b p 0 ≡ 0

-- a position with one stone more
abbrev pub put_stone : Bool → Position → ℕ → Position
put_stone true position p = record { mover = position.mover; opponent = with position.opponent p }
put_stone false position p = record { mover = with position.mover p; opponent = position.opponent }
