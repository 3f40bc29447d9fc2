-- `stepping::run` meets its contract. Assumes nothing.
use mathlib.Core.Path.{◌≡◌, ap, ap₂, ◌∙◌}
use Prim.Native.Nat.{ℕ, ◌+◌, ◌-◌, ◌*◌, ◌^◌}
use native.Mathlib.Omega.{arith}
use lib.Pow.{pow-add, pow_mono, pow_pos}
use Rattle.sets.proofs.Laws.{shl_one}
use Rattle.stepping.proofs.run.Goals as goal

pub overflow_sub-result : goal.overflow_sub-result
overflow_sub-result c =
    let n : ℕ = c.args.n in
    let k : ℕ = c.args.start in
    omega (arith, shl_one (n + k) (omega arith), shl_one k (omega arith), pow_mono {i = k} {j = n + k} (omega arith))

-- the points from k on, below n + k
between : (n k : ℕ) → 2 ^ (n + k) - 2 ^ k ≡ (2 ^ n - 1) * 2 ^ k
between n k =
    let e : 2 ^ n ≡ 2 ^ n - 1 + 1 = omega (arith, pow_pos n) in
    let f : 2 ^ (n + k) ≡ (2 ^ n - 1 + 1) * 2 ^ k = pow-add 2 n k ∙ ap (λ (x : ℕ). x * 2 ^ k) e in
    omega (arith, f)

pub returns : goal.returns
returns c =
    let n : ℕ = c.args.n in
    let k : ℕ = c.args.start in
    ap₂ ◌-◌ (shl_one (n + k) (omega arith)) (shl_one k (omega arith)) ∙ between n k
