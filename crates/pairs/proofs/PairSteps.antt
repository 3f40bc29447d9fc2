-- The steps of the code over a pair: what a level over both tables is. Assumes nothing.
use mathlib.Core.Path.{◌≡◌, ap, ◌∙◌}
use mathlib.Core.Bool.{Bool, true, false}
use mathlib.Core.List.{List}
use mathlib.Core.Logic.{inr}
use Prim.Native.Nat.{ℕ, ◌*◌}
use borrow.Author.Tests.{eq-eqb, ne_eqb}
use Rattle.sizes.specs.Size.{size}
use Rattle.rules.specs.Ply.{Rule}
use Rattle.tables.specs.declared.Table.{Table}
use Rattle.deciding.specs.Inner.Open.{open_decided, Found}
use Rattle.ending.specs.Inner.Blocked.{blocked_first}
use Rattle.sweeping.specs.Inner.Levels.{level_by_classes}
use Rattle.pairs.specs.Inner.Pairs.{PairFound, pair_blocked, pair_by_classes}

-- both tables, one after the other
module _ (rings : ℕ) (a b : Table) (now once : List ℕ) where
  pub blocked_once : once ≡ blocked_first rings a now (size (8 * rings) a.mover a.opponent) → a.mover ≡ a.opponent → once ≡ pair_blocked rings a b now
  unfolding pair_blocked
  blocked_once is e = is ∙ rw (eq-eqb a.mover a.opponent e, pair_blocked)

  pub blocked_twice : once ≡ blocked_first rings a now (size (8 * rings) a.mover a.opponent) → (a.mover ≡ a.opponent → ⊥)
      → blocked_first rings b once (size (8 * rings) b.mover b.opponent) ≡ pair_blocked rings a b now
  unfolding pair_blocked
  blocked_twice is d = ap (λ (l : List ℕ). blocked_first rings b l (size (8 * rings) b.mover b.opponent)) is
      ∙ rw (ne_eqb a.mover a.opponent d, pair_blocked)

module _ (rule : Rule) (rings : ℕ) (a b : Table) (now once : List ℕ) (level maps : ℕ) (picked : List ℕ → Bool) where
  pub level_once : once ≡ level_by_classes rule rings a b.own.start level maps picked now → a.mover ≡ a.opponent
      → once ≡ pair_by_classes rule rings a b level maps picked now
  unfolding pair_by_classes
  level_once is e = is ∙ rw (eq-eqb a.mover a.opponent e, pair_by_classes)

  pub level_twice : once ≡ level_by_classes rule rings a b.own.start level maps picked now → (a.mover ≡ a.opponent → ⊥)
      → level_by_classes rule rings b a.own.start level maps picked once ≡ pair_by_classes rule rings a b level maps picked now
  unfolding pair_by_classes
  level_twice is d = ap (λ (l : List ℕ). level_by_classes rule rings b a.own.start level maps picked l) is
      ∙ rw (ne_eqb a.mover a.opponent d, pair_by_classes)

-- the first table has none: the second decides
pub second_found : (rule : Rule) → (rings : ℕ) (a b : Table) (now : List ℕ)
    → Found (open_decided rule rings a b.own.start now) (size (8 * rings) a.mover a.opponent) false
    → (c : Bool) → Found (open_decided rule rings b a.own.start now) (size (8 * rings) b.mover b.opponent) c → PairFound rule rings a b now c
second_found rule rings a b now f true s = inr s
second_found rule rings a b now f false s = (f, s)
