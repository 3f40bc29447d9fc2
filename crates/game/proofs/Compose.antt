-- Composition: where what is given in a second game is true in a first, both have the same outcomes. So tables filled pair by pair from true lower
-- tables are true. Over a set of positions that plies do not leave. Assumes nothing.
use mathlib.Core.Path.{◌≡◌, refl, sym, ◌∙◌, ap₂}
use mathlib.Core.Bool.{◌||◌}
use mathlib.Core.List.{List, Memᴰ}
use Prim.Native.Nat.{ℕ, zero, suc}
use Rattle.lists.proofs.Tests.{any_same, all_same}
use Rattle.game.specs.Game.{Seed, live, ends, drawn, won, lost, ended, Depth, Draw, Entry}
use Rattle.game.proofs.Within.{won_zero, won_suc, won_ends, won_drawn, lost_zero, lost_suc, lost_ends, lost_drawn, neither_won, neither_lost}
use Rattle.game.proofs.Depths.{depth_won, depth_lost, ends_depth, drawn_draw, same_entry}

-- what s₂ gives of p is true by s₁
pub data Faithful {Pos : Type 0} (next : Pos → List Pos) (s₁ s₂ : Pos → Seed) (p : Pos) : Type 0 where
  both_live : s₁ p ≡ live → s₂ p ≡ live → Faithful next s₁ s₂ p
  true_depth : (d : ℕ) → s₂ p ≡ ends d → Depth next s₁ d p → Faithful next s₁ s₂ p
  true_draw : s₂ p ≡ drawn → Draw next s₁ p → Faithful next s₁ s₂ p

pub same_seed : {Pos : Type 0} (next : Pos → List Pos) (s₁ s₂ : Pos → Seed) (p : Pos) → s₂ p ≡ s₁ p → Faithful next s₁ s₂ p
same_seed next s₁ s₂ p h = go (s₁ p) refl
  where
    go : (x : Seed) → s₁ p ≡ x → Faithful next s₁ s₂ p
    go live e = both_live e (h ∙ e)
    go (ends d) e = true_depth d (h ∙ e) (ends_depth next s₁ p e)
    go drawn e = true_draw (h ∙ e) (drawn_draw next s₁ p e)

module _ {Pos : Type 0} (next : Pos → List Pos) (s₁ s₂ : Pos → Seed) (S : Pos → Type 0)
    (closed : (p : Pos) → S p → s₂ p ≡ live → (q : Pos) → Memᴰ q (next p) → S q) (faithful : (p : Pos) → S p → Faithful next s₁ s₂ p) where
  abbrev Same : ℕ → Pos → Type 0
  Same n p = (won next s₁ n p ≡ won next s₂ n p) × (lost next s₁ n p ≡ lost next s₂ n p)

  same_given : (n : ℕ) (p : Pos) → (s₁ p ≡ live → s₂ p ≡ live → Same n p) → Faithful next s₁ s₂ p → Same n p
  same_given n p plies (both_live e f) = plies e f
  same_given n p plies (true_depth d e a) =
      (depth_won next s₁ p a n ∙ sym (won_ends next s₂ n p e), depth_lost next s₁ p a n ∙ sym (lost_ends next s₂ n p e))
  same_given n p plies (true_draw e a) =
      (neither_won next s₁ n p (a n) ∙ sym (won_drawn next s₂ n p e), neither_lost next s₁ n p (a n) ∙ sym (lost_drawn next s₂ n p e))

  same : (n : ℕ) (p : Pos) → S p → Same n p
  same zero p s = same_given zero p
      (λ e f. (won_zero next s₁ p e ∙ sym (won_zero next s₂ p f), lost_zero next s₁ p e ∙ sym (lost_zero next s₂ p f))) (faithful p s)
  same (suc n) p s = same_given (suc n) p
      (λ e f. (
        won_suc next s₁ n p e ∙ any_same _ _ (next p) (λ q m. (same n q (closed p s f q m)).1) ∙ sym (won_suc next s₂ n p f),
        lost_suc next s₁ n p e ∙ all_same _ _ (next p) (λ q m. (same n q (closed p s f q m)).0) ∙ sym (lost_suc next s₂ n p f),
      )) (faithful p s)

  pub same_won : (n : ℕ) (p : Pos) → S p → won next s₁ n p ≡ won next s₂ n p
  same_won n p s = (same n p s).0

  pub same_lost : (n : ℕ) (p : Pos) → S p → lost next s₁ n p ≡ lost next s₂ n p
  same_lost n p s = (same n p s).1

  pub same_ended : (n : ℕ) (p : Pos) → S p → ended next s₁ n p ≡ ended next s₂ n p
  unfolding ended
  same_ended n p s = ap₂ ◌||◌ (same_won n p s) (same_lost n p s)

  pub entry_there : (p : Pos) (e : ℕ) → S p → Entry next s₁ p e → Entry next s₂ p e
  entry_there p e s = same_entry next s₁ p next s₂ p (λ n. same_ended n p s)

  pub entry_back : (p : Pos) (e : ℕ) → S p → Entry next s₂ p e → Entry next s₁ p e
  entry_back p e s = same_entry next s₂ p next s₁ p (λ n. sym (same_ended n p s))
