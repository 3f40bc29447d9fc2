-- The marked positions of a table judged one after the other, what is found being written at all images: what holds of the tablebase with its marks
-- before each rank, and what that says once all are judged. Assumes nothing.
use mathlib.Core.Path.{◌≡◌, subst}
use mathlib.Core.List.{List}
use mathlib.Core.Logic.{◌⊎◌, inl, inr}
use Prim.Native.Nat.{ℕ, ◌*◌, ◌≤◌, ◌<◌}
use native.Mathlib.Omega.{arith}
use lib.ListN.{length}
use Rattle.sizes.specs.Size.{size}
use Rattle.ranking.specs.Rank.{rank}
use Rattle.layout.specs.Layout.{tablebase_length}
use Rattle.rules.specs.Ply.{Rule, successors}
use Rattle.rules.proofs.Listed.{TakesOpponent}
use Rattle.game.specs.Game.{void_entry, Depth}
use Rattle.game.proofs.Levels.{Within}
use Rattle.outcomes.specs.Places.{entry_at}
use Rattle.outcomes.specs.Pair.{Pair, pair_seed, LowerValid}
use Rattle.outcomes.specs.Filled.{BothTables, Kept}
use Rattle.outcomes.proofs.Ranked.{InTable, rank_in}
use Rattle.outcomes.proofs.PairGame.{OnPair, InPair, pair_table}
use Rattle.symmetry.specs.Symmetries.{image}
use Rattle.game.proofs.Maps.{Maps, Image, Symmetric}
use Rattle.invariance.specs.Symmetric.{LowerSymmetric}
use Rattle.invariance.proofs.Groups.{Group}
use Rattle.invariance.proofs.PairMaps.{pair_maps, image_table}
use Rattle.invariance.proofs.Plies.{Commutes}
use Rattle.tables.specs.declared.Table.{Table}
use Rattle.levels.proofs.Sides.{Side}
use Rattle.levels.proofs.Views.{view}

module _ (rule : Rule) (takes : TakesOpponent rule) (commutes : Commutes rule) (rings k m o : ℕ) (pair : Pair rings k m o) (before : List ℕ)
    (valid : LowerValid rings k m o before) (maps : ℕ) (group : Group maps)
    (mirrored : LowerSymmetric maps rings k m o before) where
  abbrev pub mapped : Maps (successors rule rings) (λ b. pair_seed rings k m o before b) (OnPair rings m o) maps (λ g b. image rings g b)
  mapped = pair_maps rule takes commutes rings k m o pair maps group before mirrored

  -- in the middle of a level, marks read as open
  abbrev pub AmidMarks : ℕ → (List ℕ → Type 0) → List ℕ → Type 0
  AmidMarks n D now = Within (successors rule rings) (λ b. pair_seed rings k m o before b) (OnPair rings m o) (view rings k now) n D

  abbrev pub SymmetricTable : (List ℕ → ℕ) → Type 0
  SymmetricTable = Symmetric (successors rule rings) (λ b. pair_seed rings k m o before b) (OnPair rings m o) maps (λ g b. image rings g b)

  abbrev pub DepthIs : ℕ → List ℕ → Type 0
  DepthIs n p = Depth (successors rule rings) (λ b. pair_seed rings k m o before b) n p

  abbrev pub Of : List ℕ → List ℕ → Type 0
  Of p q = Image (successors rule rings) (λ b. pair_seed rings k m o before b) (OnPair rings m o) maps (λ g b. image rings g b) p q

  -- an image is of the same table
  pub image_own : (x y : ℕ) (p q : List ℕ) → InTable rings x y p → Of p q → InTable rings x y q
  image_own x y p q i (g, l, e) =
      subst (λ (c : List ℕ). InTable rings x y c) e (image_table rings pair.small g (omega (arith, group.high)) x y p i)

  module _ (x y : ℕ) (t : Table) (same : ℕ) (side : Side rings k m o x y t same) (level : ℕ) (low : level < void_entry) (D : List ℕ → Type 0) where
    -- marks stand at ranks from n on of this table; each position of the level's depth has it, or an image of it is marked
    pub record Judging (n : ℕ) (now : List ℕ) : Type 0 where
      pub kept : Kept rings k (BothTables m o) before now
      pub room : length now ≡ tablebase_length (8 * rings) k
      pub amid : AmidMarks level D now
      pub symmetric : SymmetricTable (view rings k now)
      pub marks : (q : List ℕ) → InPair rings m o q → entry_at rings k now q ≡ void_entry → InTable rings x y q × (n ≤ rank q)
      pub pending : (p : List ℕ) → InTable rings x y p → DepthIs level p
          → (entry_at rings k now p ≡ level) ⊎ ((q : List ℕ) × Of p q × (entry_at rings k now q ≡ void_entry))

    -- at the end no mark is left, and the table is done
    module _ (now : List ℕ) (w : Judging (size (8 * rings) x y) now) where
      pub no_marks : (q : List ℕ) → InPair rings m o q → entry_at rings k now q ≡ void_entry → ⊥
      no_marks q i v = let a = w.marks q i v in omega (arith, a.1, rank_in rings x y q a.0)

      pub all_done : (p : List ℕ) → InTable rings x y p → DepthIs level p → entry_at rings k now p ≡ level
      all_done p i d = go (w.pending p i d)
        where
          go : (entry_at rings k now p ≡ level) ⊎ ((q : List ℕ) × Of p q × (entry_at rings k now q ≡ void_entry)) → entry_at rings k now p ≡ level
          go (inl v) = v
          go (inr (q, f, v)) = absurd (no_marks q (pair_table side.both (image_own x y p q i f)) v)
