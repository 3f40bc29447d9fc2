-- The part of the table that a removal leads to: where the layout puts it, or empty. Assumes nothing.
use mathlib.Core.Path.{◌≡◌}
use Prim.Native.Nat.{ℕ, ◌-◌, ◌≤◌}
use native.Mathlib.Omega.{arith}
use borrow.Author.Tests.{eq-eqb, ne_eqb}
use Rattle.layout.specs.Layout.{start, end}
use Rattle.tables.specs.Inner.Tables.{lower_start, lower_end}

module _ (points k m o : ℕ) where
  pub lower_starts : 4 ≤ o → lower_start points k m o ≡ start points k (o - 1) m
  unfolding lower_start
  lower_starts h = rw (ne_eqb o 3 (λ e. omega arith), lower_start)

  pub lower_ends : 4 ≤ o → lower_end points k m o ≡ end points k (o - 1) m
  unfolding lower_end
  lower_ends h = rw (ne_eqb o 3 (λ e. omega arith), lower_end)

  -- the part is empty where a removal leaves two stones
  pub lower_none : o ≡ 3 → (lower_start points k m o ≡ 0) × (lower_end points k m o ≡ 0)
  unfolding lower_start lower_end
  lower_none e = (rw (eq-eqb o 3 e, lower_start), rw (eq-eqb o 3 e, lower_end))
