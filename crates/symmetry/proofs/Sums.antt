-- Sums over the numbers below n: the order of two sums does not matter, and so a change of places that can be undone leaves a sum as it is.
-- Assumes nothing.
use mathlib.Core.Path.{◌≡◌, refl, sym, ◌∙◌, ap, ap₂}
use mathlib.Core.Bool.{Bool, true, false}
use Prim.Native.Nat.{ℕ, zero, suc, ◌+◌, ◌*◌, ◌<◌}
use native.Mathlib.Omega.{arith}
use native.Mathlib.Nat.{not-suc-le-zero}
use lib.Dec.{eqb}
use borrow.Author.Tests.{eqb-true, eqb-false, eq-eqb, ne_eqb}
use Rattle.board.specs.Board.{digit}

-- f 0 + f 1 + .. + f (n - 1)
abbrev pub sum : (ℕ → ℕ) → ℕ → ℕ
sum f zero = 0
sum f (suc n) = sum f n + f n

pub sum_same : (f g : ℕ → ℕ) (n : ℕ) → ((k : ℕ) → k < n → f k ≡ g k) → sum f n ≡ sum g n
sum_same f g zero h = refl
sum_same f g (suc n) h = ap₂ ◌+◌ (sum_same f g n (λ k l. h k (omega arith))) (h n (omega arith))

sum_zero : (f : ℕ → ℕ) (n : ℕ) → ((k : ℕ) → k < n → f k ≡ 0) → sum f n ≡ 0
sum_zero f zero h = refl
sum_zero f (suc n) h = omega (arith, sum_zero f n (λ k l. h k (omega arith)), h n (omega arith))

sum_add : (f g : ℕ → ℕ) (n : ℕ) → sum (λ k. f k + g k) n ≡ sum f n + sum g n
sum_add f g zero = refl
sum_add f g (suc n) = omega (arith, sum_add f g n)

-- the first summand by itself
pub sum_front : (f : ℕ → ℕ) (n : ℕ) → sum f (suc n) ≡ f 0 + sum (λ k. f (suc k)) n
sum_front f zero = omega arith
sum_front f (suc n) = omega (arith, sum_front f n)

-- the order of two sums does not matter
sum_swap : (f : ℕ → ℕ → ℕ) (n m : ℕ) → sum (λ p. sum (λ q. f p q) m) n ≡ sum (λ q. sum (λ p. f p q) n) m
sum_swap f zero m = sym (sum_zero (λ q. 0) m (λ k l. refl))
sum_swap f (suc n) m =
    ap (λ (x : ℕ). x + sum (λ q. f n q) m) (sum_swap f n m) ∙ sym (sum_add (λ q. sum (λ p. f p q) n) (λ q. f n q) m)

-- the sum of a test that only a passes
sum_pick : (f : ℕ → ℕ) (a n : ℕ) → a < n → sum (λ k. digit (eqb k a) * f k) n ≡ f a
sum_pick f a zero h = absurd (not-suc-le-zero h)
sum_pick f a (suc n) h = go (eqb n a) refl (λ l. sum_pick f a n l)
  where
    off : (k : ℕ) → (k ≡ a → ⊥) → digit (eqb k a) * f k ≡ 0
    off k ne = rw (ne_eqb k a ne) (omega arith)

    go : (b : Bool) → eqb n a ≡ b → (a < n → sum (λ k. digit (eqb k a) * f k) n ≡ f a)
        → sum (λ k. digit (eqb k a) * f k) n + digit (eqb n a) * f n ≡ f a
    go true e r =
        let q = eqb-true n a e in
        rw e (omega (arith, sum_zero (λ k. digit (eqb k a) * f k) n (λ k l. off k (λ z. omega arith)), ap f q))
    go false e r = let q : n ≡ a → ⊥ = eqb-false n a e in rw e (omega (arith, r (omega arith)))

-- a change of places among the numbers below n, and the one that undoes it
pub record Permutes (n : ℕ) (to from : ℕ → ℕ) : Type 0 where
  pub to_low : (k : ℕ) → k < n → to k < n
  pub from_low : (k : ℕ) → k < n → from k < n
  pub from_to : (k : ℕ) → k < n → from (to k) ≡ k
  pub to_from : (k : ℕ) → k < n → to (from k) ≡ k

-- it leaves a sum as it is
pub sum_permuted : (f : ℕ → ℕ) (n : ℕ) (to from : ℕ → ℕ) → Permutes n to from → sum (λ k. f (to k)) n ≡ sum f n
sum_permuted f n to from p =
    sum_same (λ k. f (to k)) (λ k. sum (λ q. digit (eqb q (to k)) * f q) n) n (λ k l. sym (sum_pick f (to k) n (p.to_low k l)))
    ∙ sum_swap (λ k q. digit (eqb q (to k)) * f q) n n
    ∙ sum_same (λ q. sum (λ k. digit (eqb q (to k)) * f q) n) f n (λ q l.
    sum_same (λ k. digit (eqb q (to k)) * f q) (λ k. digit (eqb k (from q)) * f q) n (λ k m. ap (λ (b : Bool). digit b * f q) (turned q k l m))
    ∙ sum_pick (λ k. f q) (from q) n (p.from_low q l))
  where
    turned : (q k : ℕ) → q < n → k < n → eqb q (to k) ≡ eqb k (from q)
    turned q k l m = go (eqb k (from q)) refl
      where
        go : (b : Bool) → eqb k (from q) ≡ b → eqb q (to k) ≡ b
        go true e = eq-eqb q (to k) (sym (p.to_from q l) ∙ ap to (sym (eqb-true k (from q) e)))
        go false e = ne_eqb q (to k) (λ z. eqb-false k (from q) e (sym (p.from_to k m) ∙ ap from (sym z)))
