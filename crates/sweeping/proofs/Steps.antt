-- The steps of a level, as the code takes them: the marks of both layers, then each marked position judged. Assumes nothing.
use mathlib.Core.Path.{◌≡◌, ap, ◌∙◌}
use mathlib.Core.Bool.{Bool, true, false}
use mathlib.Core.List.{List}
use Prim.Native.Nat.{ℕ, ◌-◌, ◌*◌}
use lib.ListN.{length}
use Rattle.sizes.specs.Size.{size}
use Rattle.rules.specs.Ply.{Rule}
use Rattle.tables.specs.declared.Table.{Table}
use Rattle.layers.specs.Inner.Layers.{marked_from}
use Rattle.layers.proofs.Marked.{from_length}
use Rattle.settling.specs.Inner.Settled.{judged_first}
use Rattle.settling.proofs.Judged.{judged_lengths}
use Rattle.sweeping.specs.Inner.Levels.{same_source, lower_source, level_marks, level_by_classes}

module _ (rule : Rule) (rings : ℕ) (t : Table) (same level maps : ℕ) (picked : List ℕ → Bool) (now : List ℕ) where
  -- the steps of a level, as the code takes them
  pub level_is : (once twice last : List ℕ)
      → once ≡ marked_from rings t.own.start (same_source t same) false (level - 1) picked now (size (8 * rings) t.opponent t.mover)
      → twice ≡ marked_from rings t.own.start (lower_source t) true (level - 1) picked once (size (8 * rings) (t.opponent - 1) t.mover)
      → last ≡ judged_first rule rings t same level maps twice (size (8 * rings) t.mover t.opponent) → last
      ≡ level_by_classes rule rings t same level maps picked now
  unfolding level_by_classes level_marks
  level_is once twice last e f g =
      g ∙ ap (λ (l : List ℕ). judged_first rule rings t same level maps l (size (8 * rings) t.mover t.opponent))
      (f ∙ ap (λ (l : List ℕ). marked_from rings t.own.start (lower_source t) true (level - 1) picked l
      (size (8 * rings) (t.opponent - 1) t.mover)) e)

  pub level_length : length (level_by_classes rule rings t same level maps picked now) ≡ length now
  unfolding level_by_classes level_marks
  level_length =
      judged_lengths rule rings t same level maps (level_marks rings t same level picked now) (size (8 * rings) t.mover t.opponent)
      ∙ from_length rings t.own.start (lower_source t) true (level - 1) picked
      (marked_from rings t.own.start (same_source t same) false (level - 1) picked now (size (8 * rings) t.opponent t.mover))
      (size (8 * rings) (t.opponent - 1) t.mover)
      ∙ from_length rings t.own.start (same_source t same) false (level - 1) picked now (size (8 * rings) t.opponent t.mover)
