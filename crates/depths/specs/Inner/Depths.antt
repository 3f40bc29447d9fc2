-- What is asked of a pair's entries between levels. Assumes nothing.
use Rattle.std.specs.Prelude.{◌≡◌, Bool, true, false, List, ◌⊎◌, ℕ, ◌≤◌, ◌<◌, min, get_or}
use Rattle.parts.specs.declared.Part.{Part}
use Rattle.parts.specs.Parts.{part_of}
use Rattle.finding.specs.Inner.Finding.{least_from}
use Rattle.tables.specs.declared.Table.{Table}

-- an entry stands in the part of a table
abbrev pub Holds : List ℕ → Part → ℕ → Type 0
Holds tablebase p e = (j : ℕ) × (p.start ≤ j) × (j < p.end) × (get_or tablebase j 0 ≡ e)

abbrev pub Held : List ℕ → Part → ℕ → Bool → Type 0
Held tablebase p e true = Holds tablebase p e
Held tablebase p e false = Holds tablebase p e → ⊥

-- and in one of the two tables or their lower tables
abbrev pub PairHeld : Table → Table → ℕ → List ℕ → Bool → Type 0
PairHeld a b e tablebase true = (Holds tablebase a.own e ⊎ Holds tablebase b.own e) ⊎ (Holds tablebase a.lower e ⊎ Holds tablebase b.lower e)
PairHeld a b e tablebase false = (Holds tablebase a.own e → ⊥) × (Holds tablebase b.own e → ⊥) × (Holds tablebase a.lower e → ⊥)
    × (Holds tablebase b.lower e → ⊥)

-- whether a level beyond the limit wrote anything in a pair
abbrev pub WroteBeyond : Table → Table → ℕ → ℕ → List ℕ → Bool → Type 0
WroteBeyond a b limit level tablebase true = (limit < level) × (Holds tablebase a.own level ⊎ Holds tablebase b.own level)
WroteBeyond a b limit level tablebase false = (level ≤ limit) ⊎ ((Holds tablebase a.own level → ⊥) × (Holds tablebase b.own level → ⊥))

-- the least depth from `low` on in both tables and their lower tables, void where there is none
unfoldable pub pair_least : Table → Table → ℕ → List ℕ → ℕ
pair_least a b low tablebase = min
    (min (least_from low (part_of a.own.start a.own.end tablebase)) (least_from low (part_of b.own.start b.own.end tablebase)))
    (min (least_from low (part_of a.lower.start a.lower.end tablebase)) (least_from low (part_of b.lower.start b.lower.end tablebase)))
