-- The layout of a tablebase (document 01: shelf): "all tables (m, o) with 3 ≤ m, o ≤ K and m + o ≤ P, by rising m, then o". Assumes nothing.
use Rattle.std.specs.Prelude.{Bool, ◌&&◌, ◌||◌, List, [], ◌∷◌, map, ℕ, ◌+◌, ◌-◌, eqb, leb, ltb}
use Rattle.lists.specs.Lists.{range, keep, each}
use Rattle.sizes.specs.Size.{size}

-- a table, by the mover's count and the opponent's
pub record Table : Type 0 where
  pub mover : ℕ
  pub opponent : ℕ

abbrev pub table : ℕ → ℕ → Table
table m o = record { mover = m; opponent = o }

-- 3, 4, .., k
abbrev pub stones : ℕ → List ℕ
stones k = range 3 (k - 2)

-- the tables (m, 3), .., (m, k)
abbrev pub row : ℕ → ℕ → List Table
row k m = map (λ o. table m o) (stones k)

-- the tables of largest count k, in their order
unfoldable pub tables : ℕ → ℕ → List Table
tables points k = keep (λ t. leb (t.mover + t.opponent) points) (each (λ m. row k m) (stones k))

-- how many entries tables hold together
abbrev pub entries : ℕ → List Table → ℕ
entries points [] = 0
entries points (t ∷ ts) = size points t.mover t.opponent + entries points ts

-- t comes before table (m, o)
abbrev pub earlier : ℕ → ℕ → Table → Bool
earlier m o t = ltb t.mover m || (eqb t.mover m && ltb t.opponent o)

-- where table (m, o) starts: after the tables before it
unfoldable pub start : ℕ → ℕ → ℕ → ℕ → ℕ
start points k m o = entries points (keep (λ t. earlier m o t) (tables points k))

-- where it ends: its places are those from its start on and below its end
unfoldable pub end : ℕ → ℕ → ℕ → ℕ → ℕ
end points k m o = start points k m o + size points m o

-- how long a tablebase is
unfoldable pub tablebase_length : ℕ → ℕ → ℕ
tablebase_length points k = entries points (tables points k)
