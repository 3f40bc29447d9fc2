-- Binomials by Pascal's rule, and the rule of the table that a call takes once and lends. Assumes nothing.
use Rattle.std.specs.Prelude.{◌≡◌, List, ℕ, zero, suc, ◌+◌, ◌*◌, ◌<◌, get_or}

unfoldable pub binomial : ℕ → ℕ → ℕ
binomial n zero = 1
binomial zero (suc k) = 0
binomial (suc n) (suc k) = binomial n k + binomial n (suc k)

-- rows n and columns k from 0 to 24, one row after the other
pub record BinomialTable (t : List ℕ) : Type 0 where
  pub at : (n k : ℕ) → n < 25 → k < 25 → get_or t (25 * n + k) 0 ≡ binomial n k
