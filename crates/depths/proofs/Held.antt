-- An entry sought in the parts of a pair's tables, and the least depth of these. Assumes nothing.
use mathlib.Core.Path.{◌≡◌, refl, ap₂}
use mathlib.Core.Bool.{Bool, true, false}
use mathlib.Core.List.{List}
use mathlib.Core.Logic.{◌⊎◌, inl, inr}
use Prim.Native.Nat.{ℕ, ◌≤◌, ◌<◌, min}
use native.Mathlib.Omega.{arith}
use lib.Dec.{ltb}
use lib.ListN.{length, get_or}
use borrow.Author.Tests.{eqb-true, eq-eqb, ltb-true, ltb-false}
use Rattle.lists.proofs.Tests.{clash}
use Rattle.game.specs.Game.{void_entry}
use Rattle.parts.specs.declared.Part.{Part}
use Rattle.parts.specs.Parts.{part_of}
use Rattle.finding.specs.Inner.Finding.{least_from, First, is_at}
use Rattle.finding.proofs.LeastDepth.{least_cases, part_below}
use Rattle.tables.specs.declared.Table.{Table}
use Rattle.pairs.specs.Inner.Pairs.{PartIn, InRoom}
use Rattle.depths.specs.Inner.Depths.{Holds, Held, PairHeld, WroteBeyond, pair_least}

-- an entry sought in a part
pub held : (now : List ℕ) (p : Part) (e j : ℕ) → First (is_at e now) p.start p.end j → Held now p e (ltb j p.end)
held now p e j w = go (ltb j p.end) refl
  where
    go : (c : Bool) → ltb j p.end ≡ c → Held now p e c
    go true f = let h = ltb-true j p.end f in (j, w.low, h, eqb-true _ _ (w.here h))
    go false f = λ (i, l, h, q). clash (eq-eqb _ _ q) (w.none i l (omega (arith, ltb-false j p.end f)))

-- the first part has none: the second decides
pub second_held : (a b : Table) (limit level : ℕ) (now : List ℕ) → limit < level → Held now a.own level false
    → (c : Bool) → Held now b.own level c → WroteBeyond a b limit level now c
second_held a b limit level now h f true s = (h, inr s)
second_held a b limit level now h f false s = inr (f, s)

-- three parts have none: the fourth decides
pub last_held : (a b : Table) (e : ℕ) (now : List ℕ) → Held now a.own e false → Held now b.own e false → Held now a.lower e false
    → (c : Bool) → Held now b.lower e c → PairHeld a b e now c
last_held a b e now f g h true s = inr (inr s)
last_held a b e now f g h false s = (f, g, h, s)

module _ (a b : Table) (level : ℕ) (now : List ℕ) where
  pub least_of : (p q r s : ℕ) → p ≡ least_from level (part_of a.own.start a.own.end now) → q
      ≡ least_from level (part_of b.own.start b.own.end now)
      → r ≡ least_from level (part_of a.lower.start a.lower.end now) → s ≡ least_from level (part_of b.lower.start b.lower.end now)
      → min (min p q) (min r s) ≡ pair_least a b level now
  unfolding pair_least
  least_of p q r s e f g h = ap₂ min (ap₂ min e f) (ap₂ min g h)

  pub least_void : pair_least a b level now ≤ void_entry
  unfolding pair_least
  least_void = go (least_from level (part_of a.own.start a.own.end now)) refl (least_cases level (part_of a.own.start a.own.end now))
    where
      go : (e : ℕ) → least_from level (part_of a.own.start a.own.end now) ≡ e → (e ≡ void_entry) ⊎ ((level ≤ e) × (e < void_entry))
          → pair_least a b level now ≤ void_entry
      go e f (inl q) = omega arith
      go e f (inr q) = omega (arith, q.1)

  -- the least depth is the level where one of the parts holds that
  module _ (h : level < void_entry) (w : InRoom (length now) a b) where
    at_least : (l : List ℕ) → level ≤ least_from level l
    at_least l = go (least_from level l) (least_cases level l)
      where
        go : (e : ℕ) → (e ≡ void_entry) ⊎ ((level ≤ e) × (e < void_entry)) → level ≤ e
        go e (inl q) = omega arith
        go e (inr q) = q.0

    at_most : (p : Part) → PartIn (length now) p → Holds now p level → least_from level (part_of p.start p.end now) ≤ level
    at_most p r (j, l, u, e) = go (part_below level p.start p.end now r.1 j l u (omega arith))
      where
        go : (least_from level (part_of p.start p.end now) ≤ get_or now j 0) ⊎ (void_entry ≤ get_or now j 0)
            → least_from level (part_of p.start p.end now) ≤ level
        go (inl q) = omega arith
        go (inr q) = absurd (omega arith)

    abbrev ones : ℕ
    ones = least_from level (part_of a.own.start a.own.end now)

    abbrev twos : ℕ
    twos = least_from level (part_of b.own.start b.own.end now)

    abbrev threes : ℕ
    threes = least_from level (part_of a.lower.start a.lower.end now)

    abbrev fours : ℕ
    fours = least_from level (part_of b.lower.start b.lower.end now)

    pub least_held : PairHeld a b level now true → level ≡ pair_least a b level now
    unfolding pair_least
    least_held f = go f (at_least _) (at_least _) (at_least _) (at_least _)
      where
        go : PairHeld a b level now true → level ≤ ones → level ≤ twos → level ≤ threes → level ≤ fours → level ≡ min (min ones twos) (min threes fours)
        go (inl (inl q)) p r t u = let v = at_most a.own w.first q in omega arith
        go (inl (inr q)) p r t u = let v = at_most b.own w.second q in omega arith
        go (inr (inl q)) p r t u = let v = at_most a.lower w.first_lower q in omega arith
        go (inr (inr q)) p r t u = let v = at_most b.lower w.second_lower q in omega arith
