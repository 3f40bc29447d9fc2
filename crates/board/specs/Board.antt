-- A board as bytes and as two sets (document 01, "The board"). Assumes nothing.
use Rattle.std.specs.Prelude.{Bool, true, false, List, [], ◌∷◌, ℕ, suc, ◌+◌, ◌*◌, ◌^◌, ◌≤◌, ◌<◌, eqb}
use Rattle.sets.specs.Sets.{bit, has}
use Rattle.lists.specs.Lists.{values}
use Rattle.board.specs.declared.Position.{Position}

-- A board is the list of what stands at points 0, 1, ..: 0 vacant, 1 the side to move, 2 the other side.
abbrev pub Values : List ℕ → Type 0
Values [] = Unit {0}
Values (x ∷ b) = (x ≤ 2) × Values b

-- one more for true
abbrev pub more : Bool → ℕ → ℕ
more true n = suc n
more false n = n

-- how many points hold v
abbrev pub count : ℕ → List ℕ → ℕ
count v [] = 0
count v (x ∷ b) = more (eqb x v) (count v b)

-- 1 for true, 0 for false
abbrev pub digit : Bool → ℕ
digit true = 1
digit false = 0

-- the points that hold v, as a set
unfoldable pub set_of : ℕ → List ℕ → ℕ
set_of v [] = 0
set_of v (x ∷ b) = digit (eqb x v) + 2 * set_of v b

unfoldable pub position_of : List ℕ → Position
position_of b = record { mover = set_of 1 b; opponent = set_of 2 b }

-- what a position has at a point
unfoldable pub value_at : Position → ℕ → ℕ
value_at p q = digit (has p.mover q) + 2 * digit (has p.opponent q)

-- the board of so many points that a position stands for
unfoldable pub board_of : ℕ → Position → List ℕ
board_of points p = values (value_at p) 0 points

-- a position of a board of so many points: no stone outside it, and none of both sides at one point
pub record OnBoard (points : ℕ) (p : Position) : Type 0 where
  pub mover_within : p.mover < 2 ^ points
  pub opponent_within : p.opponent < 2 ^ points
  pub apart : (q : ℕ) → q < points → bit p.mover q + bit p.opponent q ≤ 1
