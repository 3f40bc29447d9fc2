-- A table of 25 rows of 25 that passes Pascal's test holds the binomials: the test is computed once over the whole table and carried to each entry.
-- Then each entry is its quotient of factorials, and zero where the column is above the row. Assumes nothing.
use mathlib.Core.Path.{◌≡◌, refl, sym, ap, ap₂, ◌∙◌}
use mathlib.Core.Bool.{Bool, true}
use mathlib.Core.List.{List}
use Prim.Native.Nat.{ℕ, zero, suc, ◌+◌, ◌*◌, ◌-◌, ◌/◌, ◌≤◌, ◌<◌}
use native.Mathlib.Omega.{arith}
use lib.Dec.{eqb}
use lib.ListN.{get_or}
use borrow.Author.Tests.{eqb-true}
use Rattle.lists.proofs.Table.{every, every_at, every_two, every_two_lem}
use Rattle.sizes.specs.Size.{factorial}
use Rattle.sizes.specs.Inner.Binomial.{binomial, BinomialTable}
use Rattle.sizes.specs.declared.table.TheConstants.{BINOMIALS}
use Rattle.sizes.proofs.Binomials.{binomial_zero, binomial_none, pascal, binomial_over, binomial_quotient}

module _ (t : List ℕ) where
  -- column 0 is 1, the rest of row 0 is 0, and each other entry is the sum of the two above it
  abbrev pub column_test : ℕ → Bool
  column_test n = eqb (get_or t (25 * n) 0) 1

  abbrev pub row_test : ℕ → Bool
  row_test k = eqb (get_or t (suc k) 0) 0

  abbrev pub pascal_test : ℕ → ℕ → Bool
  pascal_test n k = eqb (get_or t (25 * suc n + suc k) 0) (get_or t (25 * n + k) 0 + get_or t (25 * n + suc k) 0)

  module _ (column : every 25 column_test ≡ true) (row : every 24 row_test ≡ true) (sums : every_two 24 24 pascal_test ≡ true) where
    carried : (n k : ℕ) → n < 25 → k < 25 → get_or t (25 * n + k) 0 ≡ binomial n k
    carried n zero h l =
        let e : 25 * n + 0 ≡ 25 * n = omega arith in
        ap (λ (i : ℕ). get_or t i 0) e ∙ eqb-true _ _ (every_at 25 column_test column n h) ∙ sym (binomial_zero n)
    carried zero (suc k) h l =
        let e : 25 * 0 + suc k ≡ suc k = omega arith in
        ap (λ (i : ℕ). get_or t i 0) e ∙ eqb-true _ _ (every_at 24 row_test row k (omega arith)) ∙ sym (binomial_none k)
    carried (suc n) (suc k) h l =
        eqb-true _ _ (every_two_lem 24 24 pascal_test sums n k (omega arith) (omega arith))
        ∙ ap₂ ◌+◌ (carried n k (omega arith) (omega arith)) (carried n (suc k) (omega arith) l) ∙ sym (pascal n k)

    pub pascal_table : BinomialTable t
    pascal_table = record { at = carried }

  pub entry_quotient : BinomialTable t → (n k : ℕ) → n < 25 → k ≤ n
      → get_or t (25 * n + k) 0 ≡ factorial n / (factorial k * factorial (n - k))
  entry_quotient table n k h l = table.at n k h (omega arith) ∙ binomial_quotient n k l

  pub entry_over : BinomialTable t → (n k : ℕ) → n < k → k < 25 → get_or t (25 * n + k) 0 ≡ 0
  entry_over table n k h l = table.at n k (omega arith) l ∙ binomial_over n k h

-- Pascal's test, computed once over the constant table
pub binomials : BinomialTable BINOMIALS
binomials = pascal_table BINOMIALS refl refl refl
