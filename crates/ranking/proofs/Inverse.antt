-- Rank and unrank are inverse to each other (demand 2): on readings by induction, and so on boards. Assumes nothing.
use mathlib.Core.Path.{◌≡◌, refl, sym, ap, ap₂, ◌∙◌, subst}
use mathlib.Core.Bool.{Bool, true, false}
use mathlib.Core.List.{List, [], ◌∷◌, reverse, reverse-reverse}
use Prim.Native.Nat.{ℕ, zero, suc, ◌+◌, ◌-◌, ◌≤◌, ◌<◌}
use native.Mathlib.Nat.{sub-zero}
use native.Mathlib.Omega.{arith}
use lib.Dec.{eqb, ltb}
use lib.ListN.{length, length-reverse}
use borrow.Author.Tests.{ltb-true, ltb-false, lt-ltb, le-ltb}
use Rattle.board.specs.Board.{Values, more, count, digit}
use Rattle.sizes.specs.Size.{size, size_with_one}
use Rattle.ranking.specs.Rank.{reading_rank, rank}
use Rattle.ranking.specs.Unrank.{below, top_value, reading_of, unrank}
use Rattle.board.proofs.Counts.{count_reverse, values_reverse}
use Rattle.sizes.proofs.Multinomials.{size_more, size_none, size_over}
use Rattle.ranking.proofs.Reading.{rank_nil, rank_cons, rank_lt}

-- the value at the highest point, by the tests
module _ (n m o r : ℕ) where
  pub top_zero : r < below 1 n m o → top_value n m o r ≡ 0
  unfolding top_value
  top_zero h = rw (lt-ltb r (below 1 n m o) h, top_value)

  pub top_one : below 1 n m o ≤ r → r < below 2 n m o → top_value n m o r ≡ 1
  unfolding top_value
  top_one h l = rw (le-ltb r (below 1 n m o) h, lt-ltb r (below 2 n m o) l, top_value)

  pub top_two : below 2 n m o ≤ r → top_value n m o r ≡ 2
  unfolding top_value
  top_two h = rw (le-ltb r (below 1 n m o) (omega arith), le-ltb r (below 2 n m o) h, top_value)

  -- the reading, once that value is known
  pub reading_cons : (x : ℕ) → top_value n m o r ≡ x
      → reading_of (suc n) m o r ≡ x ∷ reading_of n (m - digit (eqb x 1)) (o - digit (eqb x 2)) (r - below x n m o)
  unfolding reading_of
  reading_cons x e =
      ap (λ (y : ℕ). y ∷ reading_of n (m - digit (eqb y 1)) (o - digit (eqb y 2)) (r - below y n m o)) e

-- what is left below the highest point, where x stands there
pub record Rest (n m o r x : ℕ) : Type 0 where
  pub value : x ≤ 2
  pub mover_left : digit (eqb x 1) ≤ m
  pub opponent_left : digit (eqb x 2) ≤ o
  pub rank_left : below x n m o ≤ r
  pub rank_low : r - below x n m o < size n (m - digit (eqb x 1)) (o - digit (eqb x 2))

rest_zero : (n m o r : ℕ) → r < size n m o → Rest n m o r 0
rest_zero n m o r h =
    let e : size n (m - 0) (o - 0) ≡ size n m o = ap₂ (size n) (sub-zero m) (sub-zero o) in
    record { value = omega arith; mover_left = omega arith; opponent_left = omega arith; rank_left = omega arith; rank_low = omega arith }

rest_one : (n m o r : ℕ) → size n m o ≤ r → r < size n m o + size_with_one n m o → Rest n m o r 1
rest_one n zero o r h l = absurd (omega arith)
rest_one n (suc m) o r h l =
    let d : suc m - 1 ≡ m = omega arith in
    let e : size n (suc m - 1) (o - 0) ≡ size n m o = ap₂ (size n) d (sub-zero o) in
    record { value = omega arith; mover_left = omega arith; opponent_left = omega arith; rank_left = h; rank_low = omega arith }

rest_two : (n m o r : ℕ) → size n m o + size_with_one n m o ≤ r → r < size (suc n) m o → Rest n m o r 2
rest_two n m zero r h l = absurd (omega (arith, size_more n m 0))
rest_two n m (suc o) r h l =
    let d : suc o - 1 ≡ o = omega arith in
    let e : size n (m - 0) (suc o - 1) ≡ size n m o = ap₂ (size n) (sub-zero m) d in
    record {
      value = omega arith;
      mover_left = omega arith;
      opponent_left = omega arith;
      rank_left = h;
      rank_low = omega (arith, e, size_more n m (suc o));
    }

pub rest : (n m o r : ℕ) → r < size (suc n) m o → Rest n m o r (top_value n m o r)
rest n m o r h = go (ltb r (below 1 n m o)) refl (ltb r (below 2 n m o)) refl
  where
    at : {x : ℕ} → top_value n m o r ≡ x → Rest n m o r x → Rest n m o r (top_value n m o r)
    at e w = subst (λ (x : ℕ). Rest n m o r x) (sym e) w

    go : (s : Bool) → ltb r (below 1 n m o) ≡ s → (t : Bool) → ltb r (below 2 n m o) ≡ t → Rest n m o r (top_value n m o r)
    go true p t q = let l = ltb-true r (below 1 n m o) p in at (top_zero n m o r l) (rest_zero n m o r l)
    go false p true q =
        let l = ltb-false r (below 1 n m o) p in
        let u = ltb-true r (below 2 n m o) q in
        at (top_one n m o r l u) (rest_one n m o r l u)
    go false p false q = let l = ltb-false r (below 2 n m o) q in at (top_two n m o r l) (rest_two n m o r l h)

-- ys is the reading of n points with m and o stones that has rank r
pub record ReadingOf (n m o r : ℕ) (ys : List ℕ) : Type 0 where
  pub values : Values ys
  pub points : length ys ≡ n
  pub mover : count 1 ys ≡ m
  pub opponent : count 2 ys ≡ o
  pub rank_is : reading_rank ys ≡ r

-- one point more on top
more_is : (b : Bool) (m k : ℕ) → digit b ≤ m → k ≡ m - digit b → more b k ≡ m
more_is true m k l e = omega arith
more_is false m k l e = omega arith

onto : (n m o r x : ℕ) {ys : List ℕ} → Rest n m o r x
    → ReadingOf n (m - digit (eqb x 1)) (o - digit (eqb x 2)) (r - below x n m o) ys → ReadingOf (suc n) m o r (x ∷ ys)
onto n m o r x {ys} w v =
    let e1 : count 1 (x ∷ ys) ≡ m = more_is (eqb x 1) m (count 1 ys) w.mover_left v.mover in
    let e2 : count 2 (x ∷ ys) ≡ o = more_is (eqb x 2) o (count 2 ys) w.opponent_left v.opponent in
    record {
      values = (w.value, v.values);
      points = ap suc v.points;
      mover = e1;
      opponent = e2;
      rank_is = rank_cons x ys w.value ∙ rw (e1, e2, v.points, v.rank_is) (omega (arith, w.rank_left));
    }

-- each rank below the size has its reading
pub reading_of_lem : (n m o r : ℕ) → r < size n m o → ReadingOf n m o r (reading_of n m o r)
unfolding reading_of
reading_of_lem zero zero zero r h = record { values = tt; points = refl; mover = refl; opponent = refl; rank_is = omega (arith, rank_nil, size_none) }
reading_of_lem zero zero (suc o) r h = absurd (omega (arith, size_over 0 0 (suc o) (omega arith)))
reading_of_lem zero (suc m) o r h = absurd (omega (arith, size_over 0 (suc m) o (omega arith)))
reading_of_lem (suc n) m o r h =
    let w = rest n m o r h in
    onto n m o r (top_value n m o r) w (reading_of_lem n _ _ _ w.rank_low)

-- what stands at the highest point of a reading is the value that its rank gives
top_of : (x : ℕ) (ys : List ℕ) → x ≤ 2 → Values ys
    → top_value (length ys) (count 1 (x ∷ ys)) (count 2 (x ∷ ys)) (reading_rank (x ∷ ys)) ≡ x
top_of zero ys h v = top_zero (length ys) (count 1 ys) (count 2 ys) (reading_rank (0 ∷ ys)) (omega (arith, rank_cons 0 ys h, rank_lt ys v))
top_of (suc zero) ys h v =
    top_one (length ys) (suc (count 1 ys)) (count 2 ys) (reading_rank (1 ∷ ys)) (omega (arith, rank_cons 1 ys h))
    (omega (arith, rank_cons 1 ys h, rank_lt ys v))
top_of (suc (suc zero)) ys h v =
    top_two (length ys) (count 1 ys) (suc (count 2 ys)) (reading_rank (2 ∷ ys)) (omega (arith, rank_cons 2 ys h))
top_of (suc (suc (suc x))) ys h v = absurd (omega arith)

less_digit : (b : Bool) (n : ℕ) → more b n - digit b ≡ n
less_digit true n = omega arith
less_digit false n = omega arith

-- the reading of a reading's rank is the reading
pub reading_back : (ys : List ℕ) → Values ys → reading_of (length ys) (count 1 ys) (count 2 ys) (reading_rank ys) ≡ ys
unfolding reading_of
reading_back [] v = refl
reading_back (x ∷ ys) v =
    let m = count 1 (x ∷ ys) in
    let o = count 2 (x ∷ ys) in
    let e1 : m - digit (eqb x 1) ≡ count 1 ys = less_digit (eqb x 1) (count 1 ys) in
    let e2 : o - digit (eqb x 2) ≡ count 2 ys = less_digit (eqb x 2) (count 2 ys) in
    let e3 : reading_rank (x ∷ ys) - below x (length ys) m o ≡ reading_rank ys = omega (arith, rank_cons x ys v.0) in
    reading_cons (length ys) m o (reading_rank (x ∷ ys)) x (top_of x ys v.0 v.1)
    ∙ ap (λ (l : List ℕ). x ∷ l) (rw (e1, e2, e3) (reading_back ys v.1))

-- b is the board of n points with m and o stones that has rank r
pub record BoardOf (n m o r : ℕ) (b : List ℕ) : Type 0 where
  pub values : Values b
  pub points : length b ≡ n
  pub mover : count 1 b ≡ m
  pub opponent : count 2 b ≡ o
  pub rank_is : rank b ≡ r

-- each rank below the size gives a board of that rank
pub rank_unrank : (n m o r : ℕ) → r < size n m o → BoardOf n m o r (unrank n m o r)
unfolding unrank rank
rank_unrank n m o r h =
    let w = reading_of_lem n m o r h in
    let ys = reading_of n m o r in
    record {
      values = values_reverse ys w.values;
      points = length-reverse ys ∙ w.points;
      mover = count_reverse 1 ys ∙ w.mover;
      opponent = count_reverse 2 ys ∙ w.opponent;
      rank_is = ap reading_rank (reverse-reverse ys) ∙ w.rank_is;
    }

-- each board is the board of its rank
pub unrank_rank : (b : List ℕ) → Values b → unrank (length b) (count 1 b) (count 2 b) (rank b) ≡ b
unfolding unrank rank
unrank_rank b v =
    let ys = reverse b in
    let e = rw (length-reverse b, count_reverse 1 b, count_reverse 2 b) at (reading_back ys (values_reverse b v)) in
    ap reverse e ∙ reverse-reverse b

-- so each rank has one board only
pub rank_one : (b c : List ℕ) → Values b → Values c → length b ≡ length c → count 1 b ≡ count 1 c → count 2 b ≡ count 2 c
    → rank b ≡ rank c → b ≡ c
rank_one b c v w n m o r = sym (unrank_rank b v) ∙ rw (n, m, o, r) (unrank_rank c w)

pub unrank_one : (n m o r : ℕ) (b : List ℕ) → BoardOf n m o r b → b ≡ unrank n m o r
unrank_one n m o r b w = sym (unrank_rank b w.values) ∙ rw (w.points, w.mover, w.opponent, w.rank_is)

-- a board's rank is below the size of its table
pub rank_low : (b : List ℕ) → Values b → rank b < size (length b) (count 1 b) (count 2 b)
unfolding rank
rank_low b v = rw (length-reverse b, count_reverse 1 b, count_reverse 2 b) at (rank_lt (reverse b) (values_reverse b v))
