-- Two games that run alike: positions are paired so that paired ones have the same seed and, where the plies decide, every ply of the one is
-- matched by a ply of the other, to paired positions. Paired positions end within the same n. Assumes nothing.
use mathlib.Core.Path.{◌≡◌, refl, sym, ◌∙◌, ap₂}
use mathlib.Core.Bool.{◌||◌}
use mathlib.Core.List.{List, Memᴰ}
use Prim.Native.Nat.{ℕ, zero, suc}
use Rattle.lists.specs.Lists.{is_empty}
use Rattle.lists.proofs.Tests.{same_test, any_member, member_any, all_member, member_all, empty_none, none_empty}
use Rattle.game.specs.Game.{Seed, live, ends, drawn, won, lost, ended, Depth, Entry}
use Rattle.game.proofs.Least.{same_least}
use Rattle.game.proofs.Within.{won_zero, won_suc, won_ends, won_drawn, lost_zero, lost_suc, lost_ends, lost_drawn}
use Rattle.game.proofs.Depths.{same_entry}

pub record Alike {A B : Type 0} (next₁ : A → List A) (seed₁ : A → Seed) (next₂ : B → List B) (seed₂ : B → Seed) (R : A → B → Type 0) : Type 0 where
  pub seeds : (a : A) (b : B) → R a b → seed₂ b ≡ seed₁ a
  pub forth : (a : A) (b : B) → R a b → seed₁ a ≡ live → (x : A) → Memᴰ x (next₁ a) → (y : B) × Memᴰ y (next₂ b) × R x y
  pub back : (a : A) (b : B) → R a b → seed₁ a ≡ live → (y : B) → Memᴰ y (next₂ b) → (x : A) × Memᴰ x (next₁ a) × R x y

module _ {A B : Type 0} (next₁ : A → List A) (seed₁ : A → Seed) (next₂ : B → List B) (seed₂ : B → Seed) (R : A → B → Type 0)
    (k : Alike next₁ seed₁ next₂ seed₂ R) where
  abbrev Same : ℕ → A → B → Type 0
  Same n a b = (won next₂ seed₂ n b ≡ won next₁ seed₁ n a) × (lost next₂ seed₂ n b ≡ lost next₁ seed₁ n a)

  given : (n : ℕ) (a : A) (b : B) → R a b → (seed₁ a ≡ live → Same n a b) → Same n a b
  given n a b r plies = go (seed₁ a) refl
    where
      go : (s : Seed) → seed₁ a ≡ s → Same n a b
      go live e = plies e
      go (ends d) e = let f = k.seeds a b r ∙ e in
          (won_ends next₂ seed₂ n b f ∙ sym (won_ends next₁ seed₁ n a e), lost_ends next₂ seed₂ n b f ∙ sym (lost_ends next₁ seed₁ n a e))
      go drawn e = let f = k.seeds a b r ∙ e in
          (won_drawn next₂ seed₂ n b f ∙ sym (won_drawn next₁ seed₁ n a e), lost_drawn next₂ seed₂ n b f ∙ sym (lost_drawn next₁ seed₁ n a e))

  same : (n : ℕ) (a : A) (b : B) → R a b → Same n a b
  same zero a b r = given zero a b r (λ e. let f = k.seeds a b r ∙ e in (
    won_zero next₂ seed₂ b f ∙ sym (won_zero next₁ seed₁ a e),
    lost_zero next₂ seed₂ b f
        ∙ same_test (is_empty (next₂ b)) (is_empty (next₁ a))
        (λ h. none_empty (next₁ a) (λ x m. let s = k.forth a b r e x m in empty_none (next₂ b) h s.1))
        (λ h. none_empty (next₂ b) (λ y m. let s = k.back a b r e y m in empty_none (next₁ a) h s.1))
        ∙ sym (lost_zero next₁ seed₁ a e),
  ))
  same (suc n) a b r = given (suc n) a b r (λ e. let f = k.seeds a b r ∙ e in (
    won_suc next₂ seed₂ n b f
        ∙ same_test _ _
        (λ h. let s = any_member _ (next₂ b) h in let t = k.back a b r e s.0 s.1 in
        member_any _ (next₁ a) t.1 (sym (same n t.0 s.0 t.2).1 ∙ s.2))
        (λ h. let s = any_member _ (next₁ a) h in let t = k.forth a b r e s.0 s.1 in
        member_any _ (next₂ b) t.1 ((same n s.0 t.0 t.2).1 ∙ s.2))
        ∙ sym (won_suc next₁ seed₁ n a e),
    lost_suc next₂ seed₂ n b f
        ∙ same_test _ _
        (λ h. member_all _ (next₁ a) (λ x m. let t = k.forth a b r e x m in sym (same n x t.0 t.2).0 ∙ all_member _ (next₂ b) h t.0 t.1))
        (λ h. member_all _ (next₂ b) (λ y m. let t = k.back a b r e y m in (same n t.0 y t.2).0 ∙ all_member _ (next₁ a) h t.0 t.1))
        ∙ sym (lost_suc next₁ seed₁ n a e),
  ))

  pub alike_ended : (n : ℕ) (a : A) (b : B) → R a b → ended next₂ seed₂ n b ≡ ended next₁ seed₁ n a
  unfolding ended
  alike_ended n a b r = let s = same n a b r in ap₂ ◌||◌ s.0 s.1

  pub alike_depth : (n : ℕ) (a : A) (b : B) → R a b → Depth next₁ seed₁ n a → Depth next₂ seed₂ n b
  alike_depth n a b r = same_least _ _ (λ i. sym (alike_ended i a b r))

  pub alike_entry : (a : A) (b : B) → R a b → (e : ℕ) → Entry next₁ seed₁ a e → Entry next₂ seed₂ b e
  alike_entry a b r e = same_entry next₁ seed₁ a next₂ seed₂ b (λ i. sym (alike_ended i a b r))
