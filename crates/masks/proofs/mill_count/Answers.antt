-- `masks::mill_count` meets its contract. Assumes nothing.
use mathlib.Core.Path.{◌≡◌, refl}
use Prim.Native.Nat.{ℕ, zero, suc, ◌*◌, ◌≤◌}
use native.Mathlib.Omega.{arith}
use lib.ListN.{length}
use Rattle.geometry.specs.Geometry.{mills}
use Rattle.geometry.proofs.Geometry.{all_mills, ring_mills_lem}
use Rattle.masks.proofs.mill_count.Goals as goal

pub returns-then-rings-eq3 : goal.returns-then-rings-eq3
returns-then-rings-eq3 c = (all_mills c.args.rings c.if-rings-eq3.true, omega arith)

-- a board of no rings has no mills
fewer : (rings : ℕ) → rings ≤ 3 → (rings ≡ 3 → ⊥) → 4 * rings ≡ length (mills rings)
unfolding mills
fewer zero h n = refl
fewer (suc r) h n = ring_mills_lem (suc r) (omega arith) h n

pub returns : goal.returns
returns c = (fewer c.args.rings c.requires c.if-rings-eq3.false, omega arith)
