-- What the solver of a pair asks and answers. Assumes nothing.
use Rattle.std.specs.Prelude.{◌≡◌, Bool, true, false, Result, Ok, Err, List, ℕ, ◌*◌, ◌≤◌, ◌<◌, length}
use Rattle.layout.specs.Layout.{tablebase_length}
use Rattle.rules.specs.Ply.{Rule}
use Rattle.game.specs.Game.{void_entry}
use Rattle.outcomes.specs.Pair.{Pair, LowerValid, pair_seed}
use Rattle.outcomes.specs.Filled.{BothTables, Fill}
use Rattle.invariance.specs.Symmetric.{LowerSymmetric}
use Rattle.invariance.specs.Inner.Used.{Used}
use Rattle.tables.specs.declared.Table.{Table}
use Rattle.tables.specs.Inner.Tables.{Located}
use Rattle.pairs.specs.declared.Tables.{Tables}
use Rattle.filling.specs.declared.Bounds.{Bounds}
use Rattle.filling.specs.declared.TooDeep.{TooDeep}

-- a and b are the tables (m, o) and (o, m) of a tablebase of a length
pub record Setting (length rings k m o : ℕ) (a b : Table) : Type 0 where
  pub pair : Pair rings k m o
  pub few : k ≤ 9
  pub room : length ≡ tablebase_length (8 * rings) k
  pub first : Located (8 * rings) k m o a
  pub second : Located (8 * rings) k o m b

-- the tables of a pair, and a number of maps under which the lower tables are symmetric; these hold no void
pub record PairSolving (tablebase : List ℕ) (bounds : Bounds) (maps : ℕ) (tables : Tables) : Type 0 where
  pub setting : Setting (length tablebase) bounds.rings bounds.k tables.first.mover tables.first.opponent tables.first tables.second
  pub valid : LowerValid bounds.rings bounds.k tables.first.mover tables.first.opponent tablebase
  pub limit_low : bounds.limit < void_entry
  pub used : Used maps
  pub symmetric : LowerSymmetric maps bounds.rings bounds.k tables.first.mover tables.first.opponent tablebase

-- whether an answer says that some position is too deep
abbrev pub deep_of : Result (Unit {0}) TooDeep → Bool
deep_of (Ok v) = false
deep_of (Err e) = true

-- the pair is filled, or some position is too deep
abbrev pub PairFill : Rule → ℕ → ℕ → ℕ → ℕ → ℕ → List ℕ → List ℕ → Bool → Type 0
PairFill rule rings k m o limit before after deep = Fill rule rings k limit (BothTables m o) (λ b. pair_seed rings k m o before b) before after deep
