-- Where a table and the table below it lie, as the solver holds it. Assumes nothing.
use Rattle.std.specs.Prelude.{◌≡◌, true, false, ℕ, ◌-◌, eqb}
use Rattle.layout.specs.Layout.{start, end}
use Rattle.tables.specs.declared.Table.{Table}

-- the part of table (o - 1, m), which a removal from (m, o) leads to; empty where that leaves two stones
unfoldable pub lower_start : ℕ → ℕ → ℕ → ℕ → ℕ
lower_start points k m o = elim (eqb o 3) [ true ↦ 0 | false ↦ start points k (o - 1) m ]

unfoldable pub lower_end : ℕ → ℕ → ℕ → ℕ → ℕ
lower_end points k m o = elim (eqb o 3) [ true ↦ 0 | false ↦ end points k (o - 1) m ]

-- t is table (m, o) of a tablebase of largest count k
pub record Located (points k m o : ℕ) (t : Table) : Type 0 where
  pub mover_is : t.mover ≡ m
  pub opponent_is : t.opponent ≡ o
  pub start_is : t.own.start ≡ start points k m o
  pub end_is : t.own.end ≡ end points k m o
  pub lower_start_is : t.lower.start ≡ lower_start points k m o
  pub lower_end_is : t.lower.end ≡ lower_end points k m o
