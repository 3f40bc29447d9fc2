-- `stepping::side` meets its contract: the three parts are small. Assumes nothing.
use mathlib.Core.Path.{◌≡◌, sym, ap₂, subst}
use Prim.Native.Nat.{ℕ, ◌+◌, ◌*◌, ◌%◌, ◌^◌, ◌<◌}
use native.Mathlib.Nat.{lt_of_lt_of_le}
use native.Mathlib.Omega.{arith}
use lib.Pow.{pow_mono, ones_lt, shl_lt, shl_exact, split}
use Rattle.stepping.proofs.side.Goals as goal
use Rattle.stepping.proofs.side.Goals.{After-from}

-- the stone at p, and the bounds of the three parts
record Low (here p run from : ℕ) : Type 0 where
  pub exact : here * 2 ^ p % 2 ^ 32 ≡ here * 2 ^ p
  pub at : here * 2 ^ p < 2 ^ 24
  pub below : run < 2 ^ 24
  pub above : from < 2 ^ 24

low : (c : After-from) → Low c.args.here c.args.p c.run.result c.from.result
low c =
    let a = c.args in
    let e : a.here < 2 ^ 1 = omega arith in
    record {
      exact = shl_exact 1 a.p 32 e (omega arith);
      at = lt_of_lt_of_le (shl_lt 1 a.p e) (pow_mono {i = 1 + a.p} {j = 24} (omega arith));
      below = subst (λ (x : ℕ). x < 2 ^ 24) (sym c.run.ensures)
          (lt_of_lt_of_le (shl_lt a.n a.start (ones_lt a.n)) (pow_mono {i = a.n + a.start} {j = 24} (omega arith)));
      above = omega (arith, c.from.ensures, split a.s (a.p + 1));
    }

pub overflow_add-result : goal.overflow_add-result
overflow_add-result c =
    let w = low (goal.at.overflow_add-result c).After-from in omega (arith, w.exact, w.at, w.above)

pub overflow_add-result-2 : goal.overflow_add-result-2
overflow_add-result-2 c =
    let w = low (goal.at.overflow_add-result-2 c).After-from in omega (arith, w.exact, w.at, w.below, w.above)

pub returns : goal.returns
returns c = ap₂ ◌+◌ c.run.ensures (ap₂ ◌+◌ (low (goal.at.returns c).After-from).exact c.from.ensures)
