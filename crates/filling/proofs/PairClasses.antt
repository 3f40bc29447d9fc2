-- A level over a pair by classes: a tablebase that is exact below the level is exact below the next. Assumes nothing.
use mathlib.Core.Path.{◌≡◌, ◌∙◌}
use mathlib.Core.Bool.{Bool}
use mathlib.Core.List.{List}
use mathlib.Core.Logic.{◌⊎◌}
use Prim.Native.Nat.{ℕ, suc, ◌*◌, ◌<◌}
use lib.ListN.{length}
use Rattle.layout.specs.Layout.{tablebase_length}
use Rattle.rules.specs.Ply.{Rule, successors}
use Rattle.rules.proofs.Listed.{TakesOpponent}
use Rattle.symmetry.specs.Symmetries.{image}
use Rattle.game.specs.Game.{void_entry}
use Rattle.game.proofs.Mapped.{exact_symmetric}
use Rattle.outcomes.specs.Places.{successor_entry}
use Rattle.outcomes.specs.Pair.{pair_seed, LowerValid}
use Rattle.outcomes.specs.Filled.{BothTables, Kept}
use Rattle.outcomes.proofs.Ranked.{InTable}
use Rattle.outcomes.proofs.PairGame.{OnPair}
use Rattle.outcomes.proofs.PairLevels.{pair_ground}
use Rattle.invariance.specs.Symmetric.{LowerSymmetric}
use Rattle.invariance.proofs.Groups.{Group}
use Rattle.invariance.proofs.Plies.{Commutes}
use Rattle.classing.proofs.Picked.{Picks}
use Rattle.tables.specs.declared.Table.{Table}
use Rattle.deciding.specs.Inner.Fits.{Fits}
use Rattle.sweeping.specs.Inner.Levels.{level_by_classes}
use Rattle.levels.proofs.Sides.{Side}
use Rattle.levels.proofs.Judging.{mapped, SymmetricTable}
use Rattle.levels.proofs.ClassLevels.{level_kept, level_symmetric, level_table}
use Rattle.pairs.specs.Inner.Pairs.{pair_by_classes}
use Rattle.filling.specs.Inner.Solve.{Setting}
use Rattle.filling.proofs.PairTables.{first_side, second_side, first_fits, second_fits}
use Rattle.filling.proofs.States.{ExactBelow, State, AtLevel, None, Once, Twice, level_begun, both_ended}
use Rattle.filling.proofs.NextLevel.{setting_now}

module _ (rule : Rule) (takes : TakesOpponent rule) (commutes : Commutes rule) (rings k m o : ℕ) (a b : Table) (before : List ℕ)
    (s : Setting (length before) rings k m o a b) (valid : LowerValid rings k m o before)
    (maps : ℕ) (group : Group maps) (mirrored : LowerSymmetric maps rings k m o before) (picked : List ℕ → Bool) (picks : Picks rings maps picked)
    (level : ℕ) (pos : 0 < level) (low : level < void_entry) where
  -- in the middle of a level, images have one entry
  pub record Amidst (D : List ℕ → Type 0) (now : List ℕ) : Type 0 where
    pub at_level : AtLevel rule takes rings k m o a b before s valid level low D now
    pub symmetric : SymmetricTable rule takes commutes rings k m o s.pair before valid maps group mirrored (λ c. successor_entry rings k now c)

  pub begun : (limit : ℕ) (now : List ℕ) → State rule takes rings k m o a b before s valid limit level now
      → Amidst (None rule takes rings k m o a b before s valid level low) now
  begun limit now st = record {
    at_level = level_begun rule takes rings k m o a b before s valid level low limit now st;
    symmetric = exact_symmetric (successors rule rings) (λ c. pair_seed rings k m o before c) (OnPair rings m o) maps (λ g c. image rings g c)
        (mapped rule takes commutes rings k m o s.pair before valid maps group mirrored)
        (pair_ground rule takes rings k m o s.pair before valid)
        (λ c. successor_entry rings k now c) level st.exact;
  }

  -- one of the tables
  pub table_step : (x y : ℕ) (t : Table) (same : ℕ) → Side rings k m o x y t same → (D : List ℕ → Type 0) (now : List ℕ) → Amidst D now
      → Fits (length now) rings t same → Amidst (λ c. D c ⊎ InTable rings x y c) (level_by_classes rule rings t same level maps picked now)
  table_step x y t same side D now w fits = record {
    at_level = record {
      kept = level_kept rule takes commutes rings k m o s.pair before valid maps group mirrored picked picks x y t same side level pos low now fits
          D w.at_level.amid w.symmetric
          w.at_level.kept room;
      amid = level_table rule takes commutes rings k m o s.pair before valid maps group mirrored picked picks x y t same side level pos low now
          fits D w.at_level.amid w.symmetric
          w.at_level.kept room;
    };
    symmetric = level_symmetric rule takes commutes rings k m o s.pair before valid maps group mirrored picked picks x y t same side level pos low
        now fits D w.at_level.amid w.symmetric
        w.at_level.kept room;
  }
    where
      room : length now ≡ tablebase_length (8 * rings) k
      room = w.at_level.kept.same_length ∙ s.room

  -- both tables: the invariant goes from the level to the next
  pub after_classes : (limit : ℕ) (now : List ℕ) → State rule takes rings k m o a b before s valid limit level now → (after : List ℕ)
      → after ≡ pair_by_classes rule rings a b level maps picked now
      → Kept rings k (BothTables m o) before after × ExactBelow rule takes rings k m o a b before s valid (suc level) after
  unfolding pair_by_classes
  after_classes limit now st after is = both_ended rule takes rings k m o a b before s valid level low once twice after once_done.at_level
      twice_done.at_level is
    where
      once : List ℕ
      once = level_by_classes rule rings a b.own.start level maps picked now

      twice : List ℕ
      twice = level_by_classes rule rings b a.own.start level maps picked once

      once_done : Amidst (Once rule takes rings k m o a b before s valid level low) once
      once_done = table_step m o a b.own.start (first_side s) (None rule takes rings k m o a b before s valid level low) now (begun limit now st)
          (first_fits (setting_now (length now) st.kept.same_length s))

      twice_done : Amidst (Twice rule takes rings k m o a b before s valid level low) twice
      twice_done = table_step o m b a.own.start (second_side s) (Once rule takes rings k m o a b before s valid level low) once once_done
          (second_fits (setting_now (length once) once_done.at_level.kept.same_length s))
