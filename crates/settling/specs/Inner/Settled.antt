-- The marked positions of a table, as a function of the tablebase: each is judged; where it has the level all its images get it, else it is open
-- again. Assumes nothing.
use Rattle.std.specs.Prelude.{◌≡◌, Bool, true, false, List, ℕ, zero, suc, ◌+◌, ◌*◌, ◌≤◌, ◌<◌, eqb, get_or, set}
use Rattle.board.specs.Board.{position_of}
use Rattle.sizes.specs.Size.{size}
use Rattle.ranking.specs.Unrank.{unrank}
use Rattle.rules.specs.Ply.{Rule, successors}
use Rattle.game.specs.Game.{draw_entry, void_entry}
use Rattle.game.specs.Judgement.{hit}
use Rattle.classing.specs.declared.Maps.{Maps}
use Rattle.classing.specs.Inner.Classes.{images_written}
use Rattle.tables.specs.declared.Table.{Table}
use Rattle.seeking.specs.declared.Cursor.{Cursor}
use Rattle.deciding.specs.Inner.Fits.{Fits}
use Rattle.deciding.specs.Inner.Open.{board_at, judged}
use Rattle.settling.specs.declared.Sweep.{Sweep}

-- a level over a table by classes: how many maps make a class, and that the tables fit
pub record Sweeping (length : ℕ) (maps : Maps) (sweep : Sweep) : Type 0 where
  pub few : maps.count ≤ 16
  pub fits : Fits length maps.rings sweep.table sweep.same
  pub level_low : sweep.level < void_entry

-- a mark at rank r
unfoldable pub is_marked : Table → List ℕ → ℕ → Bool
is_marked t tablebase r = eqb (get_or tablebase (t.own.start + r) 0) void_entry

-- the cursor stands at a marked position of a table
pub record AtMark (rings : ℕ) (t : Table) (tablebase : List ℕ) (at : Cursor) : Type 0 where
  pub low : at.rank < size (8 * rings) t.mover t.opponent
  pub position_is : at.position ≡ position_of (unrank (8 * rings) t.mover t.opponent at.rank)
  pub marked : is_marked t tablebase at.rank ≡ true

module _ (rule : Rule) (rings : ℕ) (t : Table) (same level maps : ℕ) where
  -- a marked position that is hit gets the level, with all its images; one that is not is open again
  unfoldable pub judged_class : List ℕ → ℕ → List ℕ
  judged_class tablebase r = elim (is_marked t tablebase r) [
    | true ↦ elim (hit (successors rule rings) (judged rings t same tablebase) level (board_at rings t same r)) [
      | true ↦ images_written rings t.own.start (board_at rings t same r) level tablebase maps
      | false ↦ set tablebase (t.own.start + r) draw_entry
    ]
    | false ↦ tablebase
  ]

  -- the first n positions
  unfoldable pub judged_first : List ℕ → ℕ → List ℕ
  judged_first tablebase zero = tablebase
  judged_first tablebase (suc n) = judged_class (judged_first tablebase n) n
