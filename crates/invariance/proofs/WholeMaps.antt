-- The symmetries are maps of the whole game, on all boards of the points: so the images of a position have one true entry. Assumes nothing.
use mathlib.Core.Path.{◌≡◌, ap, ◌∙◌}
use mathlib.Core.List.{List, Memᴰ}
use Prim.Native.Nat.{ℕ, ◌*◌, ◌≤◌, ◌<◌}
use native.Mathlib.Omega.{arith}
use lib.ListN.{length}
use Rattle.rules.specs.Ply.{Rule, successors}
use Rattle.rules.proofs.Listed.{successor_of, TakesOpponent}
use Rattle.rules.proofs.Leads.{after_length}
use Rattle.outcomes.specs.Whole.{whole_seed, TrueEntry}
use Rattle.symmetry.specs.Symmetries.{symmetries, image}
use Rattle.symmetry.proofs.Group.{compose, inverse}
use Rattle.symmetry.proofs.Images.{image_zero, image_length}
use Rattle.symmetry.proofs.Compose.{image_compose, image_back, image_count}
use Rattle.invariance.proofs.Plies.{successors_image, image_successors, Commutes}
use Rattle.game.proofs.Maps.{Maps}
use Rattle.game.proofs.Mapped.{map_entry}
use Rattle.invariance.proofs.Groups.{Group}

module _ (rule : Rule) (takes : TakesOpponent rule) (commutes : Commutes rule) (rings : ℕ) (few : rings ≤ 3) where
  abbrev Points : List ℕ → Type 0
  Points b = length b ≡ 8 * rings

  after_points : (b : List ℕ) → length b ≡ 8 * rings → (c : List ℕ) → Memᴰ c (successors rule rings b) → length c ≡ 8 * rings
  after_points b points c m = let a = successor_of rule rings b c m in ap length a.2 ∙ after_length b a.0 ∙ points

  whole_image : (g : ℕ) → g < symmetries → (b : List ℕ) → length b ≡ 8 * rings → whole_seed (image rings g b) ≡ whole_seed b
  unfolding whole_seed
  whole_image g h b points = rw (image_count rings few b points g 1 h, whole_seed)

  pub whole_maps : (maps : ℕ) → Group maps → Maps (successors rule rings) (λ b. whole_seed b) Points maps (λ g b. image rings g b)
  whole_maps maps w = record {
    within = λ g l b s. image_length rings g b ∙ s;
    seeds = λ g l b s. whole_image g (omega (arith, w.high)) b s;
    forth = λ g l b s e c m. image_successors rule takes commutes rings few g (omega (arith, w.high)) b s c m;
    back = λ g l b s e c m. successors_image rule takes commutes rings few g (omega (arith, w.high)) b s c m;
    stays = λ b s. (0, w.low, image_zero rings b);
    undone = λ g l b s. (inverse g, w.inverts g l, image_back rings few b s g (omega (arith, w.high)));
    composed = λ g h l m b s. (compose g h, w.composes g h l m, image_compose rings few b s g h (omega (arith, w.high)) (omega (arith, w.high)));
  }

  -- equal entries
  pub image_entry : (maps : ℕ) → Group maps → (g : ℕ) → g < maps → (b : List ℕ) → length b ≡ 8 * rings → (e : ℕ) → TrueEntry rule rings b e
      → TrueEntry rule rings (image rings g b) e
  image_entry maps w g l b s e =
      map_entry (successors rule rings) (λ c. whole_seed c) Points maps (λ h c. image rings h c) (whole_maps maps w)
      (λ p r f q m. after_points p r q m) g l b s e
