-- One level by marks and classes, as a function of the tablebase: the open positions before the picked ones of the depth below are marked, then each
-- marked position is judged. Assumes nothing.
use Rattle.std.specs.Prelude.{◌≡◌, Bool, true, false, List, ℕ, ◌+◌, ◌-◌, ◌*◌, ◌≤◌}
use Rattle.board.specs.Board.{digit}
use Rattle.sizes.specs.Size.{size}
use Rattle.rules.specs.Ply.{Rule}
use Rattle.tables.specs.declared.Table.{Table}
use Rattle.layers.specs.declared.Source.{Source}
use Rattle.layers.specs.Inner.Layers.{marked_from}
use Rattle.settling.specs.Inner.Settled.{judged_first}

-- the counts of a table, three to the opponent at least
pub record CountsFit (t : Table) : Type 0 where
  pub mover_most : t.mover ≤ 24
  pub opponent_least : 3 ≤ t.opponent
  pub opponent_most : t.opponent ≤ 24

-- the tables that plies from t lead to: without a removal, and with one
abbrev pub same_source : Table → ℕ → Source
same_source t same = record { start = same; mover = t.opponent; opponent = t.mover }

abbrev pub lower_source : Table → Source
lower_source t = record { start = t.lower.start; mover = t.opponent - 1; opponent = t.mover }

-- t is the table before s: its mover is the opponent there, and the other side has a stone more where one was removed
pub record LeadsTo (t : Table) (s : Source) (capture : Bool) : Type 0 where
  pub mover_is : s.opponent ≡ t.mover
  pub opponent_is : s.mover + digit capture ≡ t.opponent

module _ (rings : ℕ) (t : Table) (same level : ℕ) (picked : List ℕ → Bool) where
  -- the marks of a level above 0
  unfoldable pub level_marks : List ℕ → List ℕ
  level_marks tablebase = marked_from rings t.own.start (lower_source t) true (level - 1) picked
      (marked_from rings t.own.start (same_source t same) false (level - 1) picked tablebase (size (8 * rings) t.opponent t.mover))
      (size (8 * rings) (t.opponent - 1) t.mover)

-- the level
unfoldable pub level_by_classes : Rule → ℕ → Table → ℕ → ℕ → ℕ → (List ℕ → Bool) → List ℕ → List ℕ
level_by_classes rule rings t same level maps picked tablebase =
    judged_first rule rings t same level maps (level_marks rings t same level picked tablebase) (size (8 * rings) t.mover t.opponent)
