-- The rank of a reading, by what it begins with: how many readings begin lower, and the rank of the rest. Assumes nothing.
use mathlib.Core.Path.{◌≡◌, refl, sym, ap, ap₂, ◌∙◌, fun_ext}
use mathlib.Core.Bool.{Bool, false, ◌&&◌, and-true, and-false}
use mathlib.Core.List.{List, [], ◌∷◌}
use Prim.Native.Nat.{ℕ, zero, suc, ◌+◌, ◌≤◌, ◌<◌}
use native.Mathlib.Nat.{add-zero}
use native.Mathlib.Omega.{arith}
use lib.Dec.{eqb, eqb-zero-suc, eqb-suc-zero, eqb-suc-suc}
use lib.ListN.{length}
use Rattle.board.specs.Board.{Values, count}
use Rattle.sizes.specs.Size.{size, size_with_one}
use Rattle.ranking.specs.Rank.{before, has_counts, how_many, reading_rank}
use Rattle.ranking.specs.Unrank.{below}
use Rattle.sizes.proofs.Multinomials.{size_with_two, size_more, size_none, size_over}

none : (f : List ℕ → Bool) (n : ℕ) → ((xs : List ℕ) → f xs ≡ false) → how_many f n ≡ 0
none f zero h = rw (h [])
none f (suc n) h =
    rw (none (λ xs. f (0 ∷ xs)) n (λ xs. h (0 ∷ xs)), none (λ xs. f (1 ∷ xs)) n (λ xs. h (1 ∷ xs)), none (λ xs. f (2 ∷ xs)) n (λ xs. h (2 ∷ xs)))

same : (f g : List ℕ → Bool) (n : ℕ) → ((xs : List ℕ) → f xs ≡ g xs) → how_many f n ≡ how_many g n
same f g n h = ap (λ (k : List ℕ → Bool). how_many k n) (fun_ext h)

-- readings of n + 1 points that begin with a 1, and with a 2
begin_one : (n m o : ℕ) → ((k : ℕ) → how_many (has_counts k o) n ≡ size n k o)
    → how_many (λ xs. eqb (suc (count 1 xs)) m && eqb (count 2 xs) o) n ≡ size_with_one n m o
begin_one n zero o r = none _ n (λ xs. rw (eqb-suc-zero (count 1 xs)))
begin_one n (suc k) o r = same _ _ n (λ xs. rw (eqb-suc-suc (count 1 xs) k)) ∙ r k

begin_two : (n m o : ℕ) → ((k : ℕ) → how_many (has_counts m k) n ≡ size n m k)
    → how_many (λ xs. eqb (count 1 xs) m && eqb (suc (count 2 xs)) o) n ≡ size_with_two n m o
begin_two n m zero r = none _ n (λ xs. rw (eqb-suc-zero (count 2 xs)) (and-false (eqb (count 1 xs) m)))
begin_two n m (suc k) r = same _ _ n (λ xs. rw (eqb-suc-suc (count 2 xs) k)) ∙ r k

-- a size counts the boards of its counts
pub size_counts : (n m o : ℕ) → how_many (has_counts m o) n ≡ size n m o
size_counts zero zero zero = sym size_none
size_counts zero zero (suc o) = rw (eqb-zero-suc o) (sym (size_over 0 0 (suc o) (omega arith)))
size_counts zero (suc m) o = rw (eqb-zero-suc m) (sym (size_over 0 (suc m) o (omega arith)))
size_counts (suc n) m o =
    ap₂ ◌+◌ (ap₂ ◌+◌ (size_counts n m o) (begin_one n m o (λ k. size_counts n k o))) (begin_two n m o (λ k. size_counts n m k))
    ∙ sym (size_more n m o)

none_and : (f : List ℕ → Bool) (n : ℕ) → how_many (λ xs. f xs && false) n ≡ 0
none_and f n = none (λ xs. f xs && false) n (λ xs. and-false (f xs))

add3 : {a b c x y z : ℕ} → a ≡ x → b ≡ y → c ≡ z → a + b + c ≡ x + y + z
add3 p q r = ap₂ ◌+◌ (ap₂ ◌+◌ p q) r

-- of the readings that come before, those that begin lower, and those that begin alike and come before in the rest
pub rank_cons : (x : ℕ) (ys : List ℕ) → x ≤ 2
    → reading_rank (x ∷ ys) ≡ below x (length ys) (count 1 (x ∷ ys)) (count 2 (x ∷ ys)) + reading_rank ys
unfolding reading_rank
rank_cons zero ys h =
    add3 refl (none_and (λ xs. has_counts (count 1 ys) (count 2 ys) (1 ∷ xs)) (length ys))
    (none_and (λ xs. has_counts (count 1 ys) (count 2 ys) (2 ∷ xs)) (length ys)) ∙ omega arith
rank_cons (suc zero) ys h =
    add3 (same _ (has_counts (suc (count 1 ys)) (count 2 ys)) (length ys) (λ xs. and-true _) ∙ size_counts (length ys) (suc (count 1 ys)) (count 2 ys))
    (same _ (λ xs. has_counts (count 1 ys) (count 2 ys) xs && before xs ys) (length ys) (λ xs. rw (eqb-suc-suc (count 1 xs) (count 1 ys))))
    (none_and (λ xs. has_counts (suc (count 1 ys)) (count 2 ys) (2 ∷ xs)) (length ys)) ∙ add-zero _
rank_cons (suc (suc zero)) ys h =
    add3 (same _ (has_counts (count 1 ys) (suc (count 2 ys))) (length ys) (λ xs. and-true _) ∙ size_counts (length ys) (count 1 ys) (suc (count 2 ys)))
    (same _ (λ xs. eqb (suc (count 1 xs)) (count 1 ys) && eqb (count 2 xs) (suc (count 2 ys))) (length ys) (λ xs. and-true _)
    ∙ begin_one (length ys) (count 1 ys) (suc (count 2 ys)) (λ k. size_counts (length ys) k (suc (count 2 ys))))
    (same _ (λ xs. has_counts (count 1 ys) (count 2 ys) xs && before xs ys) (length ys) (λ xs. rw (eqb-suc-suc (count 2 xs) (count 2 ys))))
rank_cons (suc (suc (suc x))) ys h = absurd (omega arith)

pub rank_nil : reading_rank [] ≡ 0
unfolding reading_rank
rank_nil = refl

-- a rank is below the size
pub rank_lt : (ys : List ℕ) → Values ys → reading_rank ys < size (length ys) (count 1 ys) (count 2 ys)
rank_lt [] v = omega (arith, rank_nil, size_none)
rank_lt (zero ∷ ys) v = omega (arith, rank_cons 0 ys v.0, size_more (length ys) (count 1 ys) (count 2 ys), rank_lt ys v.1)
rank_lt (suc zero ∷ ys) v = omega (arith, rank_cons 1 ys v.0, size_more (length ys) (suc (count 1 ys)) (count 2 ys), rank_lt ys v.1)
rank_lt (suc (suc zero) ∷ ys) v = omega (arith, rank_cons 2 ys v.0, size_more (length ys) (count 1 ys) (suc (count 2 ys)), rank_lt ys v.1)
rank_lt (suc (suc (suc x)) ∷ ys) v = absurd (omega arith)
