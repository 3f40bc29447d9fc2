-- How many boards have a lower value at the highest point, and the steps of ranking and unranking a board point by point. Assumes nothing.
use mathlib.Core.Path.{◌≡◌, refl, sym, ap, ap₂, ◌∙◌, subst}
use mathlib.Core.List.{List, [], ◌∷◌, ◌++◌, reverse, reverse-cons, reverse-append}
use Prim.Native.Nat.{ℕ, zero, suc, ◌+◌, ◌-◌, ◌*◌, ◌^◌, ◌≤◌, ◌<◌}
use native.Mathlib.Omega.{arith}
use lib.Dec.{eqb}
use lib.ListN.{length, get_or, take, drop, length-reverse, drop_of_length-le}
use lib.Seq.{take-suc, take_all, take-take, take_at, get_or_at, get_or-take, length-take-le}
use native.Mathlib.Numerals.{add-one}
use Rattle.board.specs.Board.{Values, count, digit, set_of}
use Rattle.board.proofs.Sides.{value_le, set_none, set_step}
use Rattle.sizes.specs.Size.{size, size_with_one}
use Rattle.ranking.specs.Rank.{reading_rank, rank}
use Rattle.ranking.specs.Unrank.{below, top_value, reading_of, unrank}
use Rattle.sizes.proofs.Multinomials.{size_small}
use Rattle.board.proofs.Counts.{count_reverse, count_more, count_le, values_take}
use Rattle.ranking.proofs.Reading.{rank_nil, rank_cons}
use Rattle.ranking.proofs.Inverse.{reading_cons, Rest, rest}
use Rattle.ranking.proofs.Inverse as Inverse

pub below_two : (x n m o : ℕ) → (x ≡ 0 → ⊥) → (x ≡ 1 → ⊥) → below x n m o ≡ size n m o + size_with_one n m o
below_two zero n m o h k = absurd (h refl)
below_two (suc zero) n m o h k = absurd (k refl)
below_two (suc (suc x)) n m o h k = refl

pub with_one : (n m o : ℕ) → (m ≡ 0 → ⊥) → size_with_one n m o ≡ size n (m - 1) o
with_one n zero o h = absurd (h refl)
with_one n (suc m) o h = let e : suc m - 1 ≡ m = omega arith in ap (λ (k : ℕ). size n k o) (sym e)

with_one_small : (n m o : ℕ) → n ≤ 24 → size_with_one n m o ≤ 2 ^ 48
with_one_small n zero o h = omega arith
with_one_small n (suc m) o h = size_small n m o h

pub below_small : (x n m o : ℕ) → n ≤ 24 → below x n m o ≤ 2 ^ 49
below_small zero n m o h = omega arith
below_small (suc zero) n m o h = omega (arith, size_small n m o h)
below_small (suc (suc x)) n m o h = omega (arith, size_small n m o h, with_one_small n m o h)

-- the rank of a board with one point more
pub rank_more : (b : List ℕ) (x : ℕ) → x ≤ 2
    → rank (b ++ (x ∷ [])) ≡ rank b + below x (length b) (count 1 (b ++ (x ∷ []))) (count 2 (b ++ (x ∷ [])))
unfolding rank
rank_more b x h =
    let ys = reverse b in
    let e : reverse (b ++ (x ∷ [])) ≡ x ∷ ys = reverse-append b (x ∷ []) in
    let c : (v : ℕ) → count v (x ∷ ys) ≡ count v (b ++ (x ∷ [])) = λ v. sym (ap (count v) e) ∙ count_reverse v (b ++ (x ∷ [])) in
    ap reading_rank e ∙ rank_cons x ys h ∙ rw (c 1, c 2, length-reverse b) (omega arith)

-- a loop's state once it has passed the points below i of a board: the counts and the rank of that part
pub record Ranking (b : List ℕ) (i m o r : ℕ) : Type 0 where
  pub within : i ≤ length b
  pub mover : m ≡ count 1 (take i b)
  pub opponent : o ≡ count 2 (take i b)
  pub rank_is : r ≡ rank (take i b)

pub rank_none : rank [] ≡ 0
unfolding rank
rank_none = rank_nil

pub ranking_none : (b : List ℕ) → Ranking b 0 0 0 0
ranking_none b = record { within = omega arith; mover = refl; opponent = refl; rank_is = sym rank_none }

pub ranking_more : {b : List ℕ} {i m o r : ℕ} (x v : ℕ) → Ranking b i m o r → Values b → i < length b → x ≡ get_or b i 0
    → v ≡ below x i (m + digit (eqb x 1)) (o + digit (eqb x 2)) → Ranking b (i + 1) (m + digit (eqb x 1)) (o + digit (eqb x 2)) (r + v)
ranking_more {b} {i} {m} {o} {r} x v w vs h e f =
    let t : take (i + 1) b ≡ take i b ++ (x ∷ []) =
    ap (λ (k : ℕ). take k b) (add-one i) ∙ take-suc b i 0 h ∙ ap (λ (y : ℕ). take i b ++ (y ∷ [])) (sym e) in
    let c : (u k : ℕ) → k ≡ count u (take i b) → k + digit (eqb x u) ≡ count u (take (i + 1) b) =
    λ u k q. ap (λ (j : ℕ). j + digit (eqb x u)) q ∙ sym (count_more u (take i b) x) ∙ ap (count u) (sym t) in
    let c1 : m + digit (eqb x 1) ≡ count 1 (take (i + 1) b) = c 1 m w.mover in
    let c2 : o + digit (eqb x 2) ≡ count 2 (take (i + 1) b) = c 2 o w.opponent in
    let l : length (take i b) ≡ i = length-take-le i b (omega arith) in
    let s : x ≤ 2 = subst (λ (y : ℕ). y ≤ 2) (sym e) (value_le b vs i) in
    record {
      within = omega arith;
      mover = c1;
      opponent = c2;
      rank_is = ap₂ ◌+◌ w.rank_is (f ∙ ap₂ (λ (p q : ℕ). below x i p q) (c1 ∙ ap (count 1) t) (c2 ∙ ap (count 2) t)
          ∙ ap (λ (k : ℕ). below x k (count 1 (take i b ++ (x ∷ []))) (count 2 (take i b ++ (x ∷ [])))) (sym l))
          ∙ sym (rank_more (take i b) x s) ∙ ap rank (sym t);
    }

-- its numbers are small
pub record Small (i m o r : ℕ) : Type 0 where
  pub mover : m ≤ i
  pub opponent : o ≤ i
  pub rank_low : r < 2 ^ 48

pub ranking_small : {b : List ℕ} {i m o r : ℕ} → Ranking b i m o r → Values b → length b ≤ 24 → Small i m o r
ranking_small {b} {i} {m} {o} {r} w vs h =
    let l : length (take i b) ≡ i = length-take-le i b w.within in
    record {
      mover = omega (arith, w.mover, count_le 1 (take i b));
      opponent = omega (arith, w.opponent, count_le 2 (take i b));
      rank_low = omega (
        arith,
        w.rank_is,
        w.within,
        Inverse.rank_low (take i b) (values_take i b vs),
        size_small (length (take i b)) (count 1 (take i b)) (count 2 (take i b)) (omega (arith, w.within)),
      );
    }

-- the board of a rank with one point more
pub unrank_more : (n m o r x : ℕ) → x ≡ top_value n m o r
    → unrank (suc n) m o r ≡ unrank n (m - digit (eqb x 1)) (o - digit (eqb x 2)) (r - below x n m o) ++ (x ∷ [])
unfolding unrank
unrank_more n m o r x e =
    ap reverse (reading_cons n m o r x (sym e))
    ∙ reverse-cons x (reading_of n (m - digit (eqb x 1)) (o - digit (eqb x 2)) (r - below x n m o))

length_reading : (n m o r : ℕ) → length (reading_of n m o r) ≡ n
unfolding reading_of
length_reading zero m o r = refl
length_reading (suc n) m o r = ap suc (length_reading n _ _ _)

pub length_unrank : (n m o r : ℕ) → length (unrank n m o r) ≡ n
unfolding unrank
length_unrank n m o r = length-reverse (reading_of n m o r) ∙ length_reading n m o r

pub rest_at : (i m o r x : ℕ) → 0 < i → r < size i m o → x ≡ top_value (i - 1) m o r → Rest (i - 1) m o r x
rest_at i m o r x p h e =
    let d : i ≡ suc (i - 1) = omega arith in
    subst (λ (y : ℕ). Rest (i - 1) m o r y) (sym e) (rest (i - 1) m o r (subst (λ (k : ℕ). r < size k m o) d h))

-- a loop's state once it has passed the points from i up of a board: the sets of that part; the rest is the board of what is left
pub record Unranking (b : List ℕ) (i m o r first second : ℕ) : Type 0 where
  pub within : i ≤ length b
  pub rest_is : take i b ≡ unrank i m o r
  pub rank_low : r < size i m o
  pub mover : first ≡ set_of 1 (drop i b)
  pub opponent : second ≡ set_of 2 (drop i b)

pub unranking_none : (n m o r : ℕ) → r < size n m o → Unranking (unrank n m o r) n m o r 0 0
unranking_none n m o r h =
    let b = unrank n m o r in
    let l : length b ≡ n = length_unrank n m o r in
    record {
      within = omega arith;
      rest_is = take_all n b (omega arith);
      rank_low = h;
      mover = rw (drop_of_length-le b {i = n} (omega arith)) (sym (set_none 1));
      opponent = rw (drop_of_length-le b {i = n} (omega arith)) (sym (set_none 2));
    }

pub unranking_more : {b : List ℕ} {i m o r first second : ℕ} (x : ℕ) → Unranking b i m o r first second → 0 < i
    → x ≡ top_value (i - 1) m o r
    → Unranking b (i - 1) (m - digit (eqb x 1)) (o - digit (eqb x 2)) (r - below x (i - 1) m o)
    (2 * first + digit (eqb x 1)) (2 * second + digit (eqb x 2))
unranking_more {b} {i} {m} {o} {r} {first} {second} x w p e =
    let n : ℕ = i - 1 in
    let d : i ≡ suc n = omega arith in
    let u = unrank n (m - digit (eqb x 1)) (o - digit (eqb x 2)) (r - below x n m o) in
    let l : length u ≡ n = length_unrank n (m - digit (eqb x 1)) (o - digit (eqb x 2)) (r - below x n m o) in
    let t : take i b ≡ u ++ (x ∷ []) = w.rest_is ∙ ap (λ (k : ℕ). unrank k m o r) d ∙ unrank_more n m o r x e in
    let a : get_or b n 0 ≡ x = sym (get_or-take i b n 0 (omega arith)) ∙ ap (λ (c : List ℕ). get_or c n 0) t ∙ get_or_at u x [] 0 n l in
    let s : Rest n m o r x = rest_at i m o r x p w.rank_low e in
    record {
      within = omega (arith, w.within);
      rest_is = sym (take-take n i b (omega arith)) ∙ ap (take n) t ∙ take_at u (x ∷ []) n l;
      rank_low = s.rank_low;
      mover = omega (arith, w.mover, set_step 1 i b p w.within, ap (λ (y : ℕ). digit (eqb y 1)) a);
      opponent = omega (arith, w.opponent, set_step 2 i b p w.within, ap (λ (y : ℕ). digit (eqb y 2)) a);
    }
