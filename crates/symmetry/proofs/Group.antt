-- The sixteen symmetries undo each other and go together into one of the sixteen: tests of rings and of places, which the prover computes, and the
-- laws of points that they give. Assumes nothing.
use mathlib.Core.Path.{◌≡◌, refl, sym, ◌∙◌, ap, ap₂, subst}
use mathlib.Core.Bool.{Bool, true, false}
use Prim.Native.Nat.{ℕ, zero, suc, ◌+◌, ◌-◌, ◌*◌, ◌/◌, ◌%◌, ◌≤◌, ◌<◌}
use native.Mathlib.Omega.{arith}
use lib.Dec.{eqb, ltb}
use borrow.Author.Tests.{eqb-true, ltb-true, lt-ltb, le-ltb}
use Rattle.lists.proofs.Table.{every, every_at, every_two, every_two_lem, every_three, every_three_lem}
use Rattle.symmetry.specs.Symmetries.{symmetries, turn, mirrors, place_from, ring_from, source}

-- the symmetry whose source is h's source of g's: the mirror h takes g's turn off its own
unfoldable pub compose : ℕ → ℕ → ℕ
compose g h =
    8 * ((g / 8 + h / 8) % 2) + 4 * ((g / 4 + h / 4) % 2)
    + elim (mirrors h) [ true ↦ (turn h + 4 - turn g) % 4 | false ↦ (turn h + turn g) % 4 ]

-- a mirror undoes itself, and a turn by k is undone by a turn by 4 − k
unfoldable pub inverse : ℕ → ℕ
inverse g = elim (mirrors g) [ true ↦ g | false ↦ 8 * (g / 8) + (4 - turn g) % 4 ]

-- the indices
compose_within_lem : ℕ → ℕ → Bool
compose_within_lem g h = ltb (compose g h) symmetries

compose_tests : every_two symmetries symmetries compose_within_lem ≡ true
unfolding compose_within_lem compose
compose_tests = refl

pub compose_low : (g h : ℕ) → g < symmetries → h < symmetries → compose g h < symmetries
unfolding compose_within_lem
compose_low g h a b = ltb-true (compose g h) symmetries (every_two_lem symmetries symmetries compose_within_lem compose_tests g h a b)

inverse_within_lem : ℕ → Bool
inverse_within_lem g = ltb (inverse g) symmetries

inverse_tests : every symmetries inverse_within_lem ≡ true
unfolding inverse_within_lem inverse
inverse_tests = refl

pub inverse_low : (g : ℕ) → g < symmetries → inverse g < symmetries
unfolding inverse_within_lem
inverse_low g h = ltb-true (inverse g) symmetries (every_at symmetries inverse_within_lem inverse_tests g h)

inverse_twice : ℕ → Bool
inverse_twice g = eqb (inverse (inverse g)) g

twice_tests : every symmetries inverse_twice ≡ true
unfolding inverse_twice inverse
twice_tests = refl

pub inverse_inverse : (g : ℕ) → g < symmetries → inverse (inverse g) ≡ g
unfolding inverse_twice
inverse_inverse g h = eqb-true (inverse (inverse g)) g (every_at symmetries inverse_twice twice_tests g h)

undone : ℕ → Bool
undone g = eqb (compose g (inverse g)) 0

undone_tests : every symmetries undone ≡ true
unfolding undone compose inverse
undone_tests = refl

pub compose_inverse : (g : ℕ) → g < symmetries → compose g (inverse g) ≡ 0
unfolding undone
compose_inverse g h = eqb-true (compose g (inverse g)) 0 (every_at symmetries undone undone_tests g h)

-- places
place_within : ℕ → ℕ → Bool
place_within g p = ltb (place_from g p) 8

place_tests : every_two symmetries 8 place_within ≡ true
unfolding place_within place_from
place_tests = refl

place_low : (g p : ℕ) → g < symmetries → p < 8 → place_from g p < 8
unfolding place_within
place_low g p a b = ltb-true (place_from g p) 8 (every_two_lem symmetries 8 place_within place_tests g p a b)

places_compose : ℕ → ℕ → ℕ → Bool
places_compose g h p = eqb (place_from (compose g h) p) (place_from h (place_from g p))

places_tests : every_three symmetries symmetries 8 places_compose ≡ true
unfolding places_compose place_from compose
places_tests = refl

place_compose : (g h p : ℕ) → g < symmetries → h < symmetries → p < 8 → place_from (compose g h) p ≡ place_from h (place_from g p)
unfolding places_compose
place_compose g h p a b c =
    eqb-true (place_from (compose g h) p) (place_from h (place_from g p)) (every_three_lem symmetries symmetries 8 places_compose places_tests g h p a b c)

-- rings
ring_within : ℕ → ℕ → ℕ → Bool
ring_within rings g r = ltb (ring_from rings g r) rings

rings_compose : ℕ → ℕ → ℕ → ℕ → Bool
rings_compose rings g h r = eqb (ring_from rings (compose g h) r) (ring_from rings h (ring_from rings g r))

record RingTests (rings : ℕ) : Type 0 where
  pub within : every_two symmetries rings (ring_within rings) ≡ true
  pub composed : every_three symmetries symmetries rings (rings_compose rings) ≡ true

ring_tests : (rings : ℕ) → rings ≤ 3 → RingTests rings
unfolding ring_within rings_compose ring_from compose
ring_tests zero h = record { within = refl; composed = refl }
ring_tests (suc zero) h = record { within = refl; composed = refl }
ring_tests (suc (suc zero)) h = record { within = refl; composed = refl }
ring_tests (suc (suc (suc zero))) h = record { within = refl; composed = refl }
ring_tests (suc (suc (suc (suc r)))) h = absurd (omega arith)

ring_low : (rings g r : ℕ) → rings ≤ 3 → g < symmetries → r < rings → ring_from rings g r < rings
unfolding ring_within
ring_low rings g r k a b = ltb-true (ring_from rings g r) rings (every_two_lem symmetries rings (ring_within rings) (ring_tests rings k).within g r a b)

ring_compose : (rings g h r : ℕ) → rings ≤ 3 → g < symmetries → h < symmetries → r < rings
    → ring_from rings (compose g h) r ≡ ring_from rings h (ring_from rings g r)
unfolding rings_compose
ring_compose rings g h r k a b c =
    eqb-true (ring_from rings (compose g h) r) (ring_from rings h (ring_from rings g r))
    (every_three_lem symmetries symmetries rings (rings_compose rings) (ring_tests rings k).composed g h r a b c)

-- points: what is no point in use stays, and symmetry 0 moves nothing
module _ (rings g p : ℕ) where
  pub source_none : 8 * rings ≤ p → source rings g p ≡ p
  unfolding source
  source_none h = rw (le-ltb p (8 * rings) h, source)

  source_at : p < 8 * rings → source rings g p ≡ 8 * ring_from rings g (p / 8) + place_from g (p % 8)
  unfolding source
  source_at h = rw (lt-ltb p (8 * rings) h, source)

pub source_zero : (rings p : ℕ) → source rings 0 p ≡ p
unfolding source ring_from place_from
source_zero rings p = go (ltb p (8 * rings)) refl
  where
    go : (b : Bool) → ltb p (8 * rings) ≡ b → source rings 0 p ≡ p
    go true e = rw (e, source) (omega arith)
    go false e = rw (e, source)

module _ (rings : ℕ) (few : rings ≤ 3) where
  -- a point in use comes from a point in use
  pub source_low : (g p : ℕ) → g < symmetries → p < 8 * rings → source rings g p < 8 * rings
  source_low g p a b =
      omega (arith, source_at rings g p b, ring_low rings g (p / 8) few a (omega arith), place_low g (p % 8) a (omega arith))

  -- two symmetries together are one of the sixteen
  pub source_compose : (g h p : ℕ) → g < symmetries → h < symmetries → p < 8 * rings
      → source rings (compose g h) p ≡ source rings h (source rings g p)
  source_compose g h p a b c =
      let s = source rings g p in
      let l = place_low g (p % 8) a (omega arith) in
      let e : s / 8 ≡ ring_from rings g (p / 8) = omega (arith, source_at rings g p c) in
      let f : s % 8 ≡ place_from g (p % 8) = omega (arith, source_at rings g p c) in
      let there : source rings h s ≡ 8 * ring_from rings h (ring_from rings g (p / 8)) + place_from h (place_from g (p % 8)) =
      source_at rings h s (source_low g p a c) ∙ ap₂ (λ (x y : ℕ). 8 * ring_from rings h x + place_from h y) e f in
      source_at rings (compose g h) p c
      ∙ ap₂ (λ (x y : ℕ). 8 * x + y) (ring_compose rings g h (p / 8) few a b (omega arith)) (place_compose g h (p % 8) a b (omega arith))
      ∙ sym there

  -- each is undone by one of the sixteen
  pub source_undo : (g p : ℕ) → g < symmetries → p < 8 * rings → source rings (inverse g) (source rings g p) ≡ p
  source_undo g p a b =
      sym (source_compose g (inverse g) p a (inverse_low g a) b) ∙ ap (λ (k : ℕ). source rings k p) (compose_inverse g a) ∙ source_zero rings p

  pub source_redo : (g p : ℕ) → g < symmetries → p < 8 * rings → source rings g (source rings (inverse g) p) ≡ p
  source_redo g p a b =
      subst (λ (k : ℕ). source rings k (source rings (inverse g) p) ≡ p) (inverse_inverse g a) (source_undo (inverse g) p (inverse_low g a) b)
