-- A tablebase with marks, seen as the table that it is without them. Assumes nothing.
use mathlib.Core.Path.{◌≡◌, refl}
use mathlib.Core.Bool.{Bool, true, false}
use mathlib.Core.List.{List}
use mathlib.Core.Logic.{◌⊎◌, inl, inr}
use Prim.Native.Nat.{ℕ, ◌≤◌}
use lib.Dec.{eqb}
use borrow.Author.Tests.{eqb-true, eqb-false, eq-eqb, ne_eqb}
use Rattle.rules.specs.Ply.{Rule, successors}
use Rattle.game.specs.Game.{draw_entry, void_entry}
use Rattle.game.specs.Judgement.{hit}
use Rattle.game.proofs.Agree.{hit_alike}
use Rattle.outcomes.specs.Places.{successor_entry}

-- a mark read as open
unfoldable pub opened : ℕ → ℕ
opened e = elim (eqb e void_entry) [ true ↦ draw_entry | false ↦ e ]

pub opened_mark : (e : ℕ) → e ≡ void_entry → opened e ≡ draw_entry
unfolding opened
opened_mark e h = rw (eq-eqb e void_entry h, opened)

pub opened_other : (e : ℕ) → (e ≡ void_entry → ⊥) → opened e ≡ e
unfolding opened
opened_other e h = rw (ne_eqb e void_entry h, opened)

pub opened_alike : (e : ℕ) → (opened e ≡ e) ⊎ ((opened e ≡ draw_entry) × (e ≡ void_entry))
opened_alike e = go (eqb e void_entry) refl
  where
    go : (b : Bool) → eqb e void_entry ≡ b → (opened e ≡ e) ⊎ ((opened e ≡ draw_entry) × (e ≡ void_entry))
    go true f = let q = eqb-true e void_entry f in inr (opened_mark e q, q)
    go false f = inl (opened_other e (eqb-false e void_entry f))

-- the entries by which boards are judged, marks read as open
abbrev pub view : ℕ → ℕ → List ℕ → List ℕ → ℕ
view rings k now b = opened (successor_entry rings k now b)

-- to a level a mark says what an open entry says
pub hit_view : (rule : Rule) → (rings k level : ℕ) → level ≤ void_entry → (now p : List ℕ)
    → hit (successors rule rings) (view rings k now) level p ≡ hit (successors rule rings) (λ b. successor_entry rings k now b) level p
hit_view rule rings k level low now p =
    hit_alike level low (successors rule rings) (view rings k now) (λ b. successor_entry rings k now b) p
    (λ q m. opened_alike (successor_entry rings k now q))
