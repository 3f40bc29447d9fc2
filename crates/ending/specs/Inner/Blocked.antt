-- Level 0 over a table, in place, as a function of the tablebase. Assumes nothing.
use Rattle.std.specs.Prelude.{Bool, true, false, ◌&&◌, List, ℕ, zero, suc, ◌+◌, ◌-◌, ◌*◌, eqb, ltb, set}
use Rattle.ranking.specs.Unrank.{unrank}
use Rattle.rules.specs.Ply.{blocked}
use Rattle.tables.specs.declared.Table.{Table}
use Rattle.deciding.specs.Inner.Open.{is_open}

-- level 0: an open position whose mover is blocked gets 0
unfoldable pub blocked_place : ℕ → Table → List ℕ → ℕ → List ℕ
blocked_place rings t tablebase r = elim (is_open t tablebase r && blocked rings (unrank (8 * rings) t.mover t.opponent r)) [
  | true ↦ set tablebase (t.own.start + r) 0
  | false ↦ tablebase
]

-- the first n positions
unfoldable pub blocked_first : ℕ → Table → List ℕ → ℕ → List ℕ
blocked_first rings t tablebase zero = tablebase
blocked_first rings t tablebase (suc n) = blocked_place rings t (blocked_first rings t tablebase n) n

-- the n positions from rank a on
unfoldable pub blocked_range : ℕ → Table → ℕ → List ℕ → ℕ → List ℕ
blocked_range rings t a tablebase zero = tablebase
blocked_range rings t a tablebase (suc n) = blocked_place rings t (blocked_range rings t a tablebase n) (a + n)

-- three stones go to any vacant point, and there is one: no mover of the table is blocked
unfoldable pub all_free : ℕ → Table → Bool
all_free rings t = eqb t.mover 3 && ltb 3 (8 * rings - t.opponent)
