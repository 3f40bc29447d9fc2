-- A rule of a whole table, from one computed test: the prover lists the rule's values and compares them with the table, or tries a test at
-- each number below the table's length. Assumes nothing.
use mathlib.Core.Path.{◌≡◌, refl, ap, ap₂, subst, subst⁻¹, ◌∙◌, sym}
use mathlib.Core.Bool.{Bool, true, false, false≢true}
use mathlib.Core.Logic.{⊎_elim}
use mathlib.Core.List.{List, ◌∷◌}
use Prim.Native.Nat.{ℕ, zero, suc, ◌+◌, ◌*◌, ◌/◌, ◌%◌, ◌≤◌, ◌<◌}
use native.Mathlib.Nat.{add-zero, zero-add, add-suc, suc-add, le_of_suc-le-suc, not-suc-le-zero, eq-or-lt_of_le, mul_comm}
use native.Mathlib.Omega.{arith}
use lib.Arith.{digits_lt, digits_div, digits_mod}
use lib.ListN.{get_or, length, set, take}
use lib.Seq.{get_or-set_same, get_or-set_other}
use borrow.Author.Count.{below_more}
use Rattle.lists.specs.Lists.{range, values, all}

from : (f : ℕ → ℕ) (n i k : ℕ) → k < n → get_or (values f i n) k 0 ≡ f (i + k)
from f zero i k h = absurd (not-suc-le-zero h)
from f (suc n) i zero h = ap f (sym (add-zero i))
from f (suc n) i (suc k) h = from f n (suc i) k (le_of_suc-le-suc h) ∙ ap f (suc-add i k ∙ sym (add-suc i k))

-- where a table computes to the values of f, its entry at k is f k
pub rule : (f : ℕ → ℕ) (n k : ℕ) → k < n → get_or (values f 0 n) k 0 ≡ f k
rule f n k h = from f n 0 k h ∙ ap f (zero-add k)

-- the same for rows of w entries: entry j of row p is f p j
pub rule_rows : (f : ℕ → ℕ → ℕ) (w n p j : ℕ) → p < n → j < w → get_or (values (λ k. f (k / w) (k % w)) 0 (w * n)) (w * p + j) 0 ≡ f p j
rule_rows f w n p j h l =
    let e : w * p + j ≡ p * w + j = ap (λ (k : ℕ). k + j) (mul_comm w p) in
    let low : w * p + j < w * n = subst⁻¹ (λ (k : ℕ). k < w * n) e (subst (λ (k : ℕ). p * w + j < k) (mul_comm n w) (digits_lt h l)) in
    rule (λ k. f (k / w) (k % w)) (w * n) (w * p + j) low
    ∙ ap₂ f (ap (λ (k : ℕ). k / w) e ∙ digits_div p l) (ap (λ (k : ℕ). k % w) e ∙ digits_mod p l)

pub length_values : (f : ℕ → ℕ) (n i : ℕ) → length (values f i n) ≡ n
length_values f zero i = refl
length_values f (suc n) i = ap suc (length_values f n (suc i))

-- fewer of the values
pub take_values : (f : ℕ → ℕ) (n m i : ℕ) → n ≤ m → take n (values f i m) ≡ values f i n
take_values f zero m i h = refl
take_values f (suc n) zero i h = absurd (not-suc-le-zero h)
take_values f (suc n) (suc m) i h = ap (λ (l : List ℕ). f i ∷ l) (take_values f n m (suc i) (le_of_suc-le-suc h))

-- a test passed by each of n numbers from a on
pub passed : (f : ℕ → Bool) (n a k : ℕ) → all f (range a n) ≡ true → a ≤ k → k < a + n → f k ≡ true
passed f zero a k t l h = absurd (omega arith)
passed f (suc n) a k t l h = go (f a) refl t (λ u. passed f n (suc a) k u)
  where
    go : (b : Bool) → f a ≡ b → elim b [ true ↦ all f (range (suc a) n) | false ↦ false ] ≡ true
        → (all f (range (suc a) n) ≡ true → suc a ≤ k → k < suc a + n → f k ≡ true) → f k ≡ true
    go true e u rest =
        ⊎_elim (λ (q : a ≡ k). subst (λ (x : ℕ). f x ≡ true) q e) (λ (q : a < k). rest u q (omega arith)) (eq-or-lt_of_le l)
    go false e u rest = absurd (false≢true u)

-- a test at each of n numbers, at each pair of m and n, and at each triple of l, m and n
abbrev pub every : ℕ → (ℕ → Bool) → Bool
every n f = all f (range 0 n)

pub every_at : (n : ℕ) (f : ℕ → Bool) → every n f ≡ true → (i : ℕ) → i < n → f i ≡ true
every_at n f t i h = passed f n 0 i t (omega arith) (omega arith)

module _ (m n : ℕ) (f : ℕ → ℕ → Bool) where
  abbrev pub every_two : Bool
  every_two = every m (λ i. every n (f i))

  pub every_two_lem : every_two ≡ true → (i j : ℕ) → i < m → j < n → f i j ≡ true
  every_two_lem t i j a b = every_at n (f i) (every_at m (λ i. every n (f i)) t i a) j b

module _ (l m n : ℕ) (f : ℕ → ℕ → ℕ → Bool) where
  abbrev pub every_three : Bool
  every_three = every l (λ i. every_two m n (f i))

  pub every_three_lem : every_three ≡ true → (i j k : ℕ) → i < l → j < m → k < n → f i j k ≡ true
  every_three_lem t i j k a b c = every_two_lem m n (f i) (every_at l (λ i. every_two m n (f i)) t i a) j k b c

-- one entry more is written: a table that holds the values of f below i holds them below i + 1
pub stored_more : (f : ℕ → ℕ) (t : List ℕ) (i v : ℕ) → i < length t → v ≡ f i
    → ((k : ℕ) → k < i → get_or t k 0 ≡ f k) → (k : ℕ) → k < i + 1 → get_or (set t i v) k 0 ≡ f k
stored_more f t i v l e below =
    below_more (λ (k : ℕ). get_or (set t i v) k 0 ≡ f k) i (λ k h. get_or-set_other t i k v 0 (λ q. absurd (omega arith)) ∙ below k h)
    (get_or-set_same t i v 0 l ∙ e)
