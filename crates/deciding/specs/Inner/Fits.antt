-- A table, and the tables of its positions' successors, within a tablebase. Assumes nothing.
use Rattle.std.specs.Prelude.{◌≡◌, ℕ, ◌+◌, ◌*◌, ◌≤◌}
use Rattle.sizes.specs.Size.{size}
use Rattle.tables.specs.declared.Table.{Table}
use Rattle.probing.specs.Inner.Probes.{Reads}
use Rattle.marks.specs.Inner.Putting.{Room}

-- table t lies within a tablebase of a length
abbrev pub Lies : ℕ → Table → ℕ → Type 0
Lies points t length = Room points t.mover t.opponent t.own.start t.own.end length

-- table t, its lower table and the table that starts at `same` lie within a tablebase of a length
pub record Fits (length rings : ℕ) (t : Table) (same : ℕ) : Type 0 where
  pub small : rings ≤ 3
  pub end_is : t.own.end ≡ t.own.start + size (8 * rings) t.mover t.opponent
  pub room : t.own.end ≤ length
  pub reads : Reads length (8 * rings) t.mover t.opponent same t.lower.start
