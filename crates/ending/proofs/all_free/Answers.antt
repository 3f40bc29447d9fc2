-- `ending::all_free` meets its contract. Assumes nothing.
use mathlib.Core.Path.{◌≡◌, refl, sym}
use mathlib.Core.Bool.{Bool, true, false, ◌&&◌}
use Prim.Native.Nat.{◌-◌, ◌*◌}
use native.Mathlib.Omega.{arith}
use lib.Dec.{eqb, ltb}
use borrow.Author.Tests.{le-ltb}
use Rattle.ending.specs.Inner.Blocked.{all_free}
use borrow.Author.Rules.{rules}
use Rattle.ending.proofs.all_free.Goals as goal

neither : (a b : Bool) → b ≡ false → false ≡ (a && b)
neither true b e = sym e
neither false b e = refl

pub returns-then-points-table : goal.returns-then-points-table
unfolding all_free
returns-then-points-table c =
    let a = c.args in
    neither (eqb a.table.mover 3) (ltb 3 (8 * a.rings - a.table.opponent))
    (le-ltb 3 (8 * a.rings - a.table.opponent) (omega (arith, c.if-points-table.true)))

pub returns : goal.returns
unfolding all_free
returns c = refl
