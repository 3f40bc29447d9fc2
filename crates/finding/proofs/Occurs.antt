-- Where a value occurs among the entries of a list: in one part or the next, and at a place. Assumes nothing.
use Rattle.std.proofs.Common.{◌≡◌, ℕ, zero, suc, ◌+◌, ◌<◌, ◌≤◌, Bool, true, false, ◌||◌, List, sym, refl, ap, ◌∙◌, arith}
use native.Mathlib.Decide.{ℕ_discrete}
use Rattle.lists.proofs.Tests.{or_left, or_right}
use Rattle.finding.specs.Inner.Finding.{is_at, occurs}

or_assoc : (a b c : Bool) → ((a || b) || c) ≡ (a || (b || c))
or_assoc true b c = refl
or_assoc false b c = refl

-- in the first n entries, or in the next k
pub occurs_split : (v : ℕ) (l : List ℕ) (i n k : ℕ) → (occurs v l i n || occurs v l (i + n) k) ≡ occurs v l i (n + k)
unfolding occurs
occurs_split v l i zero k = ap (λ (j : ℕ). occurs v l j k) (let e : i + 0 ≡ i = omega arith in e)
    ∙ ap (occurs v l i) (let e : k ≡ 0 + k = omega arith in e)
occurs_split v l i (suc n) k =
    let e : i + suc n ≡ (i + 1) + n = omega arith in
    let f : suc n + k ≡ suc (n + k) = omega arith in
    or_assoc (is_at v l i) (occurs v l (i + 1) n) (occurs v l (i + suc n) k)
    ∙ ap (λ (b : Bool). is_at v l i || b)
    (ap (λ (j : ℕ). occurs v l (i + 1) n || occurs v l j k) e ∙ occurs_split v l (i + 1) n k) ∙ ap (occurs v l i) (sym f)

pub occurs_one : (v : ℕ) (l : List ℕ) (i : ℕ) → is_at v l i ≡ occurs v l i 1
unfolding occurs
occurs_one v l i = go (is_at v l i)
  where
    go : (b : Bool) → b ≡ (b || false)
    go true = refl
    go false = refl

-- where it does not occur, no place holds it
pub occurs_none : (v : ℕ) (l : List ℕ) (i n : ℕ) → occurs v l i n ≡ false → (j : ℕ) → i ≤ j → j < i + n → is_at v l j ≡ false
unfolding occurs
occurs_none v l i zero e j a b = absurd (omega arith)
occurs_none v l i (suc n) e j a b = go (ℕ_discrete i j)
    (λ k. occurs_none v l (i + 1) n (or_right (is_at v l i) (occurs v l (i + 1) n) e) j (omega arith) (omega arith))
  where
    go : Dec (i ≡ j) → (i < j → is_at v l j ≡ false) → is_at v l j ≡ false
    go (yes q) r = ap (λ (z : ℕ). is_at v l z) (sym q) ∙ or_left (is_at v l i) (occurs v l (i + 1) n) e
    go (no q) r = r (omega (arith, q))
