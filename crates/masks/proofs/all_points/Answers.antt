-- `masks::all_points` meets its contract. Assumes nothing.
use mathlib.Core.Path.{ap}
use Prim.Native.Nat.{ℕ, ◌-◌, ◌*◌}
use native.Mathlib.Omega.{arith}
use lib.Pow.{pow_pos}
use Rattle.sets.proofs.Laws.{shl_one}
use Rattle.masks.proofs.all_points.Goals as goal

pub overflow_sub-result : goal.overflow_sub-result
overflow_sub-result c =
    let n : ℕ = 8 * c.args.rings in omega (arith, shl_one n (omega (arith, c.requires)), pow_pos n)

pub returns : goal.returns
returns c =
    let n : ℕ = 8 * c.args.rings in ap (λ (x : ℕ). x - 1) (shl_one n (omega (arith, c.requires)))
