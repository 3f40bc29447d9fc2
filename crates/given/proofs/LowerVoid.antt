-- Void in the lower part of a table is void in the table that a removal leads to. Assumes nothing.
use mathlib.Core.Path.{◌≡◌, refl, sym, ap, ap₂, ◌∙◌}
use mathlib.Core.Bool.{Bool, true, false, ◌&&◌}
use mathlib.Core.List.{List}
use Prim.Native.Nat.{ℕ, ◌-◌, ◌*◌, ◌≤◌}
use native.Mathlib.Omega.{arith}
use lib.Dec.{eqb, leb}
use borrow.Author.Tests.{eqb-true, eqb-false, le-leb}
use Rattle.lists.specs.Lists.{any}
use Rattle.parts.specs.Parts.{part_of}
use Rattle.outcomes.specs.Places.{is_void, table_void}
use Rattle.outcomes.proofs.Voids.{part_void}
use Rattle.tables.specs.declared.Table.{Table}
use Rattle.tables.specs.Inner.Tables.{Located}
use Rattle.tables.proofs.Lower.{lower_starts, lower_ends, lower_none}

pub lower_part_void : (rings k m o : ℕ) (t : Table) → Located (8 * rings) k m o t → 3 ≤ o → (tablebase : List ℕ)
    → any (λ v. is_void v) (part_of t.lower.start t.lower.end tablebase) ≡ (leb 3 (o - 1) && table_void rings k tablebase (o - 1) m)
lower_part_void rings k m o t l h tablebase = go (eqb o 3) refl
  where
    go : (c : Bool) → eqb o 3 ≡ c → any (λ v. is_void v) (part_of t.lower.start t.lower.end tablebase) ≡ (leb 3 (o - 1) && table_void rings k tablebase
        (o - 1) m)
    go true f =
        let e = eqb-true o 3 f in
        let w = lower_none (8 * rings) k m o e in
        let u = l.lower_start_is ∙ w.0 in
        let v = l.lower_end_is ∙ w.1 in
        ap₂ (λ (x y : ℕ). any (λ z. is_void z) (part_of x y tablebase)) u v ∙ sym (ap (λ (n : ℕ). leb 3 (n - 1) && table_void rings k tablebase (n - 1) m) e)
    go false f =
        let d : o ≡ 3 → ⊥ = eqb-false o 3 f in
        let g : 4 ≤ o = omega arith in
        part_void rings k tablebase (o - 1) m t.lower.start t.lower.end (l.lower_start_is ∙ lower_starts (8 * rings) k m o g)
        (l.lower_end_is ∙ lower_ends (8 * rings) k m o g)
        ∙ sym (ap (λ (b : Bool). b && table_void rings k tablebase (o - 1) m) (le-leb 3 (o - 1) (omega arith)))
