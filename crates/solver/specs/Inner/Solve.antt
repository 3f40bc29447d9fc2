-- What the solver of a pair by its counts asks, and what the solver of pair by pair asks and answers. Assumes nothing.
use Rattle.std.specs.Prelude.{◌≡◌, Bool, true, false, List, ℕ, ◌*◌, ◌≤◌, ◌<◌, length}
use Rattle.layout.specs.Layout.{tablebase_length}
use Rattle.rules.specs.Ply.{Rule, removable}
use Rattle.game.specs.Game.{void_entry}
use Rattle.outcomes.specs.Pair.{Pair, LowerValid}
use Rattle.outcomes.specs.Inner.Done.{TrueOn, DoneBefore}
use Rattle.outcomes.specs.Whole.{whole_seed}
use Rattle.outcomes.specs.Filled.{AllTables, Fill}
use Rattle.outcomes.specs.Order.{Beyond}
use Rattle.invariance.specs.Inner.Used.{Used}
use Rattle.filling.specs.declared.Bounds.{Bounds}
use Rattle.solver.specs.declared.Counts.{Counts}

-- a pair of a tablebase by its counts, over lower tables that hold no void
pub record PairGiven (tablebase : List ℕ) (bounds : Bounds) (counts : Counts) : Type 0 where
  pub pair : Pair bounds.rings bounds.k counts.mover counts.opponent
  pub few : bounds.k ≤ 9
  pub room : length tablebase ≡ tablebase_length (8 * bounds.rings) bounds.k
  pub valid : LowerValid bounds.rings bounds.k counts.mover counts.opponent tablebase
  pub limit_low : bounds.limit < void_entry

-- the pairs with m stones to the larger side, where all smaller pairs are filled
pub record RowGiven (tablebase : List ℕ) (bounds : Bounds) (maps m : ℕ) : Type 0 where
  pub pair : Pair bounds.rings bounds.k m m
  pub few : bounds.k ≤ 9
  pub room : length tablebase ≡ tablebase_length (8 * bounds.rings) bounds.k
  pub done : TrueOn (removable bounds.edition) bounds.rings bounds.k bounds.limit (DoneBefore m 3) tablebase
  pub limit_low : bounds.limit < void_entry
  pub used : Used maps

-- a whole tablebase
pub record AllGiven (length : ℕ) (bounds : Bounds) : Type 0 where
  pub some : 3 ≤ bounds.k
  pub few : bounds.k ≤ 9
  pub room : length ≡ tablebase_length (8 * bounds.rings) bounds.k
  pub limit_low : bounds.limit < void_entry

-- the pairs before (m, o) are filled, or some position of the tablebase is too deep
abbrev pub PairsFilled : Rule → ℕ → ℕ → ℕ → ℕ → ℕ → List ℕ → Bool → Type 0
PairsFilled rule rings k limit m o tablebase true = Beyond rule rings k limit
PairsFilled rule rings k limit m o tablebase false = TrueOn rule rings k limit (DoneBefore m o) tablebase

-- the tablebase is filled, or some position is too deep
abbrev pub WholeFill : Rule → ℕ → ℕ → ℕ → List ℕ → List ℕ → Bool → Type 0
WholeFill rule rings k limit before after deep = Fill rule rings k limit (AllTables rings k) (λ b. whole_seed b) before after deep
