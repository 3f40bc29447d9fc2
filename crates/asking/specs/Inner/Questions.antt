-- A question to the successors of a position: whether an entry is asked for; and the moves that are looked at. Assumes nothing.
use Rattle.std.specs.Prelude.{◌≡◌, Bool, List, ℕ, ◌+◌, ◌*◌, ◌<◌}
use Rattle.sets.specs.Sets.{bit, set_from}
use Rattle.board.specs.declared.Position.{Position}
use Rattle.board.specs.Board.{count, board_of}
use Rattle.rules.specs.Ply.{destinations}
use Rattle.rules.specs.Inner.Making.{Makeable}
use Rattle.masks.specs.Inner.Masks.{Masks}
use Rattle.probing.specs.Inner.Probes.{probe}
use Rattle.asking.specs.declared.ranges.Question.{Question}
use Rattle.asking.specs.declared.slides.Stone.{Stone}
use Rattle.asking.specs.Inner.Keys.{asked}

-- one of the mover's stones, and the set of the points where it may go
pub record Movable (rings : ℕ) (lent : List ℕ) (position : Position) (stone : Stone) : Type 0 where
  pub masks : Masks rings lent
  pub own : bit position.mover stone.from ≡ 1
  pub tos : stone.tos ≡ set_from (destinations rings (board_of (8 * rings) position) stone.from)

-- the moves of a slide, by what they remove
pub record Removing (rings : ℕ) (position : Position) (slide removals : ℕ) : Type 0 where
  pub small : slide + 31 < 65536
  pub makeable : (r : ℕ) → bit removals r ≡ 1 → Makeable rings (board_of (8 * rings) position) (slide + r)

-- the entry of c, a successor of b, is asked for
abbrev pub entry_asked : List ℕ → Question → List ℕ → List ℕ → Bool
entry_asked tablebase q b c = asked q.low q.high (probe tablebase q.starts.same q.starts.fewer (count 2 b) c)
