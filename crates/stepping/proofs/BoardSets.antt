-- The sets of a board that is put together of parts, and of a first board. Assumes nothing.
use mathlib.Core.Path.{◌≡◌, sym, ap, ap₂, ◌∙◌}
use mathlib.Core.List.{List, [], ◌∷◌, ◌++◌, reverse, reverse-cons}
use Prim.Native.Nat.{ℕ, zero, suc, ◌+◌, ◌-◌, ◌*◌, ◌/◌, ◌^◌, ◌≤◌}
use native.Mathlib.Nat.{pow-suc, zero-div}
use native.Mathlib.Numerals.{one-add, add-one}
use native.Mathlib.Omega.{arith}
use lib.Dec.{eqb}
use lib.ListN.{length, drop, length-reverse}
use lib.Pow.{shr-shr, pow-add, pow_pos}
use Rattle.board.specs.Board.{digit, set_of}
use Rattle.board.proofs.Sides.{set_none, set_cons, digit_lt}
use Rattle.stepping.proofs.Extremes.{first, length_first}
use Rattle.stepping.proofs.Following.{next_board}

set_append : (v : ℕ) (a c : List ℕ) → set_of v (a ++ c) ≡ set_of v a + 2 ^ length a * set_of v c
set_append v [] c = omega (arith, set_none v)
set_append v (x ∷ a) c =
    omega (arith, set_cons v x (a ++ c), set_cons v x a, ap (λ (k : ℕ). 2 * k) (set_append v a c), ap (λ (k : ℕ). k * set_of v c) (pow-suc 2 (length a)))

set_drop : (v k : ℕ) (b : List ℕ) → set_of v (drop k b) ≡ set_of v b / 2 ^ k
set_drop v zero b = omega arith
set_drop v (suc k) [] = rw (set_none v) (sym (zero-div (2 ^ suc k)))
set_drop v (suc k) (x ∷ b) =
    let e : (digit (eqb x v) + 2 * set_of v b) / 2 ≡ set_of v b = omega (arith, digit_lt (eqb x v)) in
    set_drop v k b ∙ ap (λ (s : ℕ). s / 2 ^ k) (sym e) ∙ rw (shr-shr (digit (eqb x v) + 2 * set_of v b) 1 k, one-add, set_cons v x b)

-- one point more on top
set_top : (v x : ℕ) (l : List ℕ) → set_of v (reverse (x ∷ l)) ≡ set_of v (reverse l) + 2 ^ length l * digit (eqb x v)
set_top v x l =
    let e : set_of v (x ∷ []) ≡ digit (eqb x v) = omega (arith, set_cons v x [], set_none v) in
    ap (set_of v) (reverse-cons x l) ∙ set_append v (reverse l) (x ∷ []) ∙ rw (e, length-reverse l)

pub mover_low : (z m o : ℕ) → set_of 1 (reverse (first z m o)) ≡ (2 ^ m - 1) * 2 ^ o
mover_low (suc z) m o = set_top 1 0 (first z m o) ∙ omega (arith, mover_low z m o)
mover_low zero (suc m) o =
    let d : 2 ^ suc m - 1 ≡ 2 * (2 ^ m - 1) + 1 = omega (arith, pow-suc 2 m, pow_pos m) in
    let l : length (first zero m o) ≡ m + o = omega (arith, length_first zero m o) in
    let e : 2 ^ length (first zero m o) ≡ (2 ^ m - 1 + 1) * 2 ^ o =
    ap (λ (k : ℕ). 2 ^ k) l ∙ pow-add 2 m o ∙ ap (λ (k : ℕ). k * 2 ^ o) (omega (arith, pow_pos m)) in
    set_top 1 1 (first zero m o) ∙ rw (mover_low zero m o, d, e) (omega arith)
mover_low zero zero (suc o) = set_top 1 2 (first zero zero o) ∙ omega (arith, mover_low zero zero o)
mover_low zero zero zero = set_none 1

pub opponent_low : (z m o : ℕ) → set_of 2 (reverse (first z m o)) ≡ (2 ^ o - 1) * 2 ^ 0
opponent_low (suc z) m o = set_top 2 0 (first z m o) ∙ omega (arith, opponent_low z m o)
opponent_low zero (suc m) o = set_top 2 1 (first zero m o) ∙ omega (arith, opponent_low zero m o)
opponent_low zero zero (suc o) =
    let l : length (first zero zero o) ≡ o = omega (arith, length_first zero zero o) in
    set_top 2 2 (first zero zero o) ∙ omega (arith, opponent_low zero zero o, ap (λ (k : ℕ). 2 ^ k) l, pow-suc 2 o, pow_pos o)
opponent_low zero zero zero = set_none 2

regroup : (a t d q : ℕ) → a + t * (d + 2 * q) ≡ a + (d * t + q * (t * 2))
regroup a t d q = omega arith

-- a side of the next board: its stones below p, at p, and above p as before
pub next_set : (v : ℕ) (b : List ℕ) (p y m o : ℕ) → m + o ≤ p
    → set_of v (next_board b p y m o) ≡ set_of v (reverse (first (p - (m + o)) m o)) + (digit (eqb y v) * 2 ^ p + set_of v b / 2 ^ (p + 1) * 2 ^ (p + 1))
next_set v b p y m o h =
    let f = first (p - (m + o)) m o in
    let a : ℕ = set_of v (reverse f) in
    let d : ℕ = digit (eqb y v) in
    let q : ℕ = set_of v b / 2 ^ (p + 1) in
    let l : length (reverse f) ≡ p = length-reverse f ∙ length_first (p - (m + o)) m o ∙ omega arith in
    let u : 2 ^ (p + 1) ≡ 2 ^ p * 2 = ap (λ (k : ℕ). 2 ^ k) (add-one p) ∙ pow-suc 2 p in
    let e : set_of v (y ∷ drop (suc p) b) ≡ d + 2 * q =
    set_cons v y (drop (suc p) b) ∙ ap (λ (s : ℕ). d + 2 * s) (set_drop v (suc p) b ∙ ap (λ (k : ℕ). set_of v b / 2 ^ k) (sym (add-one p))) in
    set_append v (reverse f) (y ∷ drop (suc p) b) ∙ ap₂ (λ (k s : ℕ). a + 2 ^ k * s) l e ∙ regroup a (2 ^ p) d q
    ∙ ap (λ (k : ℕ). a + (d * 2 ^ p + q * k)) (sym u)
