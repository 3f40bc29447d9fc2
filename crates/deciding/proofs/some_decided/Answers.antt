-- `deciding::some_decided` meets its contract. The invariant: no place passed is open and decided. Assumes nothing.
use mathlib.Core.Path.{◌≡◌, sym, ap, ◌∙◌}
use Prim.Native.Nat.{ℕ, ◌+◌}
use mathlib.Core.Bool.{Bool, false}
use native.Mathlib.Decide.{ℕ_discrete}
use native.Mathlib.Omega.{arith}
use Rattle.deciding.specs.Inner.Open.{Found}
use Rattle.deciding.proofs.some_decided.Goals as goal

-- one number more that does not pass
none_more : (f : ℕ → Bool) (n : ℕ) → Found f n false → f n ≡ false → Found f (n + 1) false
none_more f n h e r l = go (ℕ_discrete r n)
  where
    go : Dec (r ≡ n) → f r ≡ false
    go (yes q) = ap f q ∙ e
    go (no d) = h r (omega (arith, d))

pub overflow_sub-size : goal.overflow_sub-size
overflow_sub-size c = omega (arith, c.requires.fits.end_is)

pub loop-r-init : goal.loop-r-init
loop-r-init c = (omega (arith, c.requires.fits.end_is), λ r l. absurd (omega arith))

pub open_decided-requires : goal.open_decided-requires
open_decided-requires c =
    let f = c.requires.fits in record { masks = c.requires.masks; fits = (f, omega (arith, c.loop-r-test.true, c.loop-r.invariant.0, f.end_is)) }

pub returns-then-open_decided : goal.returns-then-open_decided
returns-then-open_decided c = (
  c.loop-r.r,
  omega (arith, c.loop-r-test.true, c.loop-r.invariant.0, c.requires.fits.end_is),
  sym c.open_decided.ensures ∙ c.if-open_decided.true,
)

pub loop-r-preserved : goal.loop-r-preserved
loop-r-preserved c = (
  c.loop-r.invariant.0,
  none_more _ c.loop-r.r c.loop-r.invariant.1 (sym c.open_decided.ensures ∙ c.if-open_decided.false),
)

pub returns : goal.returns
returns c =
    λ r l. c.loop-r.invariant.1 r (omega (arith, c.loop-r-test.false, c.loop-r.invariant.0, c.requires.fits.end_is))
