-- The symmetries that a fill goes by are closed under composition and inverse: tests that the prover computes. Assumes nothing.
use mathlib.Core.Path.{◌≡◌, refl, sym, subst}
use mathlib.Core.Bool.{Bool, true}
use mathlib.Core.Logic.{inl, inr}
use Prim.Native.Nat.{ℕ, ◌≤◌, ◌<◌}
use native.Mathlib.Omega.{arith}
use lib.Dec.{ltb}
use borrow.Author.Tests.{ltb-true}
use Rattle.lists.proofs.Table.{every, every_at, every_two, every_two_lem}
use Rattle.symmetry.specs.Symmetries.{symmetries}
use Rattle.symmetry.proofs.Group.{compose, inverse}
use Rattle.invariance.specs.Inner.Used.{Used}

pub record Group (maps : ℕ) : Type 0 where
  pub low : 0 < maps
  pub high : maps ≤ symmetries
  pub composes : (g h : ℕ) → g < maps → h < maps → compose g h < maps
  pub inverts : (g : ℕ) → g < maps → inverse g < maps

abbrev compose_within : ℕ → ℕ → ℕ → Bool
compose_within maps g h = ltb (compose g h) maps

abbrev inverse_within : ℕ → ℕ → Bool
inverse_within maps g = ltb (inverse g) maps

tested : (maps : ℕ) → 0 < maps → maps ≤ symmetries → every_two maps maps (compose_within maps) ≡ true → every maps (inverse_within maps) ≡ true → Group maps
tested maps low high composed inverted = record {
  low = low;
  high = high;
  composes = λ g h a b. ltb-true (compose g h) maps (every_two_lem maps maps (compose_within maps) composed g h a b);
  inverts = λ g a. ltb-true (inverse g) maps (every_at maps (inverse_within maps) inverted g a);
}

one : Group 1
unfolding compose inverse
one = tested 1 (omega arith) (omega arith) refl refl

eight : Group 8
unfolding compose inverse
eight = tested 8 (omega arith) (omega arith) refl refl

all_maps : Group symmetries
unfolding compose inverse
all_maps = tested symmetries (omega arith) (omega arith) refl refl

pub group_of : (maps : ℕ) → Used maps → Group maps
group_of maps (inl e) = subst Group (sym e) one
group_of maps (inr (inl e)) = subst Group (sym e) eight
group_of maps (inr (inr e)) = subst Group (sym e) all_maps
