-- `text::put_item` meets its contract: `-`, or the digits, then the byte after them. Assumes nothing.
use mathlib.Core.Path.{◌≡◌, refl, sym, ap}
use mathlib.Core.List.{[], ◌∷◌, ◌++◌}
use Prim.Native.Nat.{ℕ, suc, ◌+◌}
use native.Mathlib.Omega.{arith}
use lib.ListN.{set, length-set}
use Rattle.lists.proofs.Writing.{writing_none, part_written, last_written}
use Rattle.text.specs.Text.{decimal}
use Rattle.text.proofs.Items.{item_number, item_absent}
use Rattle.text.proofs.put_item.Goals as goal

pub bounds-out-at-in_default : goal.bounds-out-at-in_default
bounds-out-at-in_default c = simp length-set (omega arith)

pub returns-in_default : goal.returns-in_default
returns-in_default c =
    let a = c.args in
    let d = item_absent a.field a.after c.in_default.not-Some in
    let f : suc a.at ≡ a.at + 1 = omega arith in
    rw d (record { place = omega arith; bound = omega arith; buffer = ap (λ (k : ℕ). set (set a.out.now a.at 45) k a.after) (sym f) })

pub returns : goal.returns
returns c =
    let a = c.args in
    let e = c.put_decimal-end.ensures in
    let n = c.in-Some.n in
    let d = item_number a.field n a.after c.in-Some.is in
    let w = part_written (decimal n) (a.after ∷ []) (writing_none a.out.now a.at (decimal n ++ (a.after ∷ []))) e.place e.buffer in
    let v = last_written (a.after ∷ []) w refl refl in
    rw d (record { place = v.0; bound = omega (arith, e.bound); buffer = v.1 })
