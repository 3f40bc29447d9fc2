-- A level over a pair of tables, as a function of the tablebase, and what is asked of both. Assumes nothing.
use Rattle.std.specs.Prelude.{Bool, true, false, List, ◌⊎◌, ℕ, ◌*◌, ◌≤◌, ◌<◌, eqb}
use Rattle.sizes.specs.Size.{size}
use Rattle.rules.specs.Ply.{Rule}
use Rattle.game.specs.Game.{void_entry}
use Rattle.parts.specs.declared.Part.{Part}
use Rattle.parts.specs.Parts.{filled_part}
use Rattle.classing.specs.declared.Maps.{Maps}
use Rattle.tables.specs.declared.Table.{Table}
use Rattle.deciding.specs.Inner.Fits.{Fits}
use Rattle.deciding.specs.Inner.Open.{open_decided, Found}
use Rattle.ending.specs.Inner.Blocked.{blocked_first}
use Rattle.sweeping.specs.Inner.Levels.{CountsFit, level_by_classes}
use Rattle.pairs.specs.declared.Tables.{Tables}

-- the parts of both tables and of their lower tables lie within a tablebase of a length
abbrev pub PartIn : ℕ → Part → Type 0
PartIn length p = (p.start ≤ p.end) × (p.end ≤ length)

pub record InRoom (length : ℕ) (a b : Table) : Type 0 where
  pub first : PartIn length a.own
  pub second : PartIn length b.own
  pub first_lower : PartIn length a.lower
  pub second_lower : PartIn length b.lower

-- both tables with one value throughout
abbrev pub pair_filled : Table → Table → ℕ → List ℕ → List ℕ
pair_filled a b v tablebase = filled_part b.own.start b.own.end v (filled_part a.own.start a.own.end v tablebase)

-- both tables of a pair at level 0, or the one where they are the same
unfoldable pub pair_blocked : ℕ → Table → Table → List ℕ → List ℕ
pair_blocked rings a b tablebase = elim (eqb a.mover a.opponent) [
  | true ↦ blocked_first rings a tablebase (size (8 * rings) a.mover a.opponent)
  | false ↦ blocked_first rings b (blocked_first rings a tablebase (size (8 * rings) a.mover a.opponent)) (size (8 * rings) b.mover b.opponent)
]

-- and at a level above 0, by classes
unfoldable pub pair_by_classes : Rule → ℕ → Table → Table → ℕ → ℕ → (List ℕ → Bool) → List ℕ → List ℕ
pair_by_classes rule rings a b level maps picked tablebase = elim (eqb a.mover a.opponent) [
  | true ↦ level_by_classes rule rings a b.own.start level maps picked tablebase
  | false ↦ level_by_classes rule rings b a.own.start level maps picked (level_by_classes rule rings a b.own.start level maps picked tablebase)
]

-- whether some open position of a pair is decided by its successors
abbrev pub PairFound : Rule → ℕ → Table → Table → List ℕ → Bool → Type 0
PairFound rule rings a b tablebase true =
    Found (open_decided rule rings a b.own.start tablebase) (size (8 * rings) a.mover a.opponent) true
    ⊎ Found (open_decided rule rings b a.own.start tablebase) (size (8 * rings) b.mover b.opponent) true
PairFound rule rings a b tablebase false =
    Found (open_decided rule rings a b.own.start tablebase) (size (8 * rings) a.mover a.opponent) false
    × Found (open_decided rule rings b a.own.start tablebase) (size (8 * rings) b.mover b.opponent) false

-- a level over the tables of a pair
pub record PairSweeping (length : ℕ) (maps : Maps) (tables : Tables) (level : ℕ) : Type 0 where
  pub few : maps.count ≤ 16
  pub first_fits : Fits length maps.rings tables.first tables.second.own.start
  pub first_counted : CountsFit tables.first
  pub second_fits : Fits length maps.rings tables.second tables.first.own.start
  pub second_counted : CountsFit tables.second
  pub above : 0 < level
  pub level_low : level < void_entry
