-- A board's two sides as sets: what each point's digit says, the count, the bound, and the way back to the board. Assumes nothing.
use mathlib.Core.Path.{◌≡◌, refl, ap, ap₂, ◌∙◌, subst, sym}
use mathlib.Core.Bool.{Bool, true, false}
use mathlib.Core.List.{List, [], ◌∷◌}
use Prim.Native.Nat.{ℕ, zero, suc, ◌+◌, ◌-◌, ◌*◌, ◌/◌, ◌%◌, ◌^◌, ◌≤◌, ◌<◌}
use native.Mathlib.Nat.{pow-suc, lt_of_lt_of_le, not-suc-le-zero, le_of_suc-le-suc}
use native.Mathlib.Omega.{arith}
use lib.Dec.{eqb}
use borrow.Author.Tests.{eqb-true}
use lib.Count.{ones, ones_step}
use lib.Pow.{pow_mono}
use lib.ListN.{length, get_or, take, drop, length-drop}
use lib.Seq.{drop-cons, ext_get_or}
use Rattle.sets.specs.Sets.{bit, members}
use Rattle.sets.proofs.Laws.{bit_zero, bit_suc, members_all}
use Rattle.lists.specs.Lists.{values}
use Rattle.board.specs.declared.Position.{Position}
use Rattle.board.specs.Board.{Values, more, count, digit, set_of, position_of, value_at, board_of, OnBoard}
use Rattle.lists.proofs.Table.{rule, length_values, take_values}

pub digit_lt : (b : Bool) → digit b < 2
digit_lt true = omega arith
digit_lt false = omega arith

pub more_digit : (b : Bool) (n : ℕ) → more b n ≡ n + digit b
more_digit true n = omega arith
more_digit false n = omega arith

-- each value of a board is 0, 1 or 2
pub value_le : (b : List ℕ) → Values b → (p : ℕ) → get_or b p 0 ≤ 2
value_le [] v p = omega arith
value_le (x ∷ b) v zero = v.0
value_le (x ∷ b) v (suc p) = value_le b v.1 p

-- a set has no points beyond the board
pub set_lt : (v : ℕ) (b : List ℕ) → set_of v b < 2 ^ length b
unfolding set_of
set_lt v [] = omega arith
set_lt v (x ∷ b) = rw (pow-suc 2 (length b)) (omega (arith, set_lt v b, digit_lt (eqb x v)))

pub set_small : (v i : ℕ) (b : List ℕ) → length b ≤ 24 → set_of v (drop i b) < 2 ^ 24
set_small v i b h =
    lt_of_lt_of_le (set_lt v (drop i b)) (pow_mono {i = length (drop i b)} {j = 24} (omega (arith, length-drop i b)))

-- no points at all
pub set_none : (v : ℕ) → set_of v [] ≡ 0
unfolding set_of
set_none v = refl

-- the lowest point, and the points above it
pub set_cons : (v x : ℕ) (b : List ℕ) → set_of v (x ∷ b) ≡ digit (eqb x v) + 2 * set_of v b
unfolding set_of
set_cons v x b = refl

-- one point more, from the highest down
pub set_step : (v i : ℕ) (b : List ℕ) → 0 < i → i ≤ length b
    → set_of v (drop (i - 1) b) ≡ digit (eqb (get_or b (i - 1) 0) v) + 2 * set_of v (drop i b)
unfolding set_of
set_step v i b p h =
    let e : suc (i - 1) ≡ i = omega arith in
    ap (set_of v) (drop-cons b (i - 1) 0 (omega arith)) ∙ ap (λ (k : ℕ). digit (eqb (get_or b (i - 1) 0) v) + 2 * set_of v (drop k b)) e

-- a point is a member exactly where the board holds v
pub bit_set : (v : ℕ) (b : List ℕ) (p : ℕ) → p < length b → bit (set_of v b) p ≡ digit (eqb (get_or b p 0) v)
unfolding set_of
bit_set v [] p h = absurd (not-suc-le-zero h)
bit_set v (x ∷ b) zero h = bit_zero (digit (eqb x v) + 2 * set_of v b) ∙ omega (arith, digit_lt (eqb x v))
bit_set v (x ∷ b) (suc p) h =
    let e : (digit (eqb x v) + 2 * set_of v b) / 2 ≡ set_of v b = omega (arith, digit_lt (eqb x v)) in
    bit_suc (digit (eqb x v) + 2 * set_of v b) p ∙ ap (λ (s : ℕ). bit s p) e ∙ bit_set v b p (le_of_suc-le-suc h)

ones_set : (v : ℕ) (b : List ℕ) → ones (set_of v b) ≡ count v b
unfolding set_of ones
ones_set v [] = refl
ones_set v (x ∷ b) =
    let d : ℕ = digit (eqb x v) in
    let e : (d + 2 * set_of v b) / 2 ≡ set_of v b = omega (arith, digit_lt (eqb x v)) in
    let f : (d + 2 * set_of v b) % 2 ≡ d = omega (arith, digit_lt (eqb x v)) in
    ones_step (d + 2 * set_of v b) ∙ ap₂ ◌+◌ f (ap ones e ∙ ones_set v b) ∙ omega (arith, more_digit (eqb x v) (count v b))

-- the members of a side's set are its stones
pub members_count : (v : ℕ) (b : List ℕ) → length b ≤ 24 → members (set_of v b) 32 ≡ count v b
members_count v b h =
    members_all (set_of v b) 32 (lt_of_lt_of_le (set_lt v b) (pow_mono {i = length b} {j = 32} (omega arith))) ∙ ones_set v b

-- a board's position is its two sets
pub position_sides : (b : List ℕ) → position_of b ≡ record { mover = set_of 1 b; opponent = set_of 2 b }
unfolding position_of
position_sides b = refl

-- the board of a position
pub length_board : (points : ℕ) (p : Position) → length (board_of points p) ≡ points
unfolding board_of
length_board points p = length_values (value_at p) points 0

pub board_at_lem : (points : ℕ) (p : Position) (q : ℕ) → q < points → get_or (board_of points p) q 0 ≡ value_at p q
unfolding board_of
board_at_lem points p q h = rule (value_at p) points q h

-- the digits of a value say which side stands there, if any
one_digit : (x : ℕ) → x ≤ 2 → digit (eqb (digit (eqb x 1)) 1) + 2 * digit (eqb (digit (eqb x 2)) 1) ≡ x
one_digit zero h = refl
one_digit (suc zero) h = refl
one_digit (suc (suc zero)) h = refl
one_digit (suc (suc (suc x))) h = absurd (omega arith)

-- a board's position stands for the board
pub board_position : (b : List ℕ) → Values b → board_of (length b) (position_of b) ≡ b
unfolding position_of value_at
board_position b v =
    let l = length_board (length b) (position_of b) in
    ext_get_or 0 (board_of (length b) (position_of b)) b l (λ p h. at p (subst (λ (n : ℕ). p < n) l h))
  where
    at : (p : ℕ) → p < length b → get_or (board_of (length b) (position_of b)) p 0 ≡ get_or b p 0
    at p h =
        board_at_lem (length b) (position_of b) p h
        ∙ ap₂ (λ (x y : ℕ). digit (eqb x 1) + 2 * digit (eqb y 1)) (bit_set 1 b p h) (bit_set 2 b p h) ∙ one_digit (get_or b p 0) (value_le b v p)

apart_digits : (x : ℕ) → digit (eqb x 1) + digit (eqb x 2) ≤ 1
apart_digits x = go (eqb x 1) refl (eqb x 2) refl
  where
    go : (a : Bool) → eqb x 1 ≡ a → (b : Bool) → eqb x 2 ≡ b → digit a + digit b ≤ 1
    go true p true q = absurd (omega (arith, eqb-true x 1 p, eqb-true x 2 q))
    go true p false q = omega arith
    go false p true q = omega arith
    go false p false q = omega arith

pub position_on : (b : List ℕ) → OnBoard (length b) (position_of b)
unfolding position_of
position_on b = record {
  mover_within = set_lt 1 b;
  opponent_within = set_lt 2 b;
  apart = λ q h. omega (arith, bit_set 1 b q h, bit_set 2 b q h, apart_digits (get_or b q 0));
}

-- what two digits that are not both 1 say of a point: a value, and from it the digits again
pub record Said (x y : ℕ) : Type 0 where
  pub low : digit (eqb x 1) + 2 * digit (eqb y 1) ≤ 2
  pub mover : digit (eqb (digit (eqb x 1) + 2 * digit (eqb y 1)) 1) ≡ x
  pub opponent : digit (eqb (digit (eqb x 1) + 2 * digit (eqb y 1)) 2) ≡ y

pub said : (x y : ℕ) → x + y ≤ 1 → Said x y
said zero zero h = record { low = omega arith; mover = refl; opponent = refl }
said (suc zero) zero h = record { low = omega arith; mover = refl; opponent = refl }
said zero (suc zero) h = record { low = omega arith; mover = refl; opponent = refl }
said zero (suc (suc y)) h = absurd (omega arith)
said (suc zero) (suc y) h = absurd (omega arith)
said (suc (suc x)) y h = absurd (omega arith)

-- a board by its rule at each point
pub values_all : (f : ℕ → ℕ) (n i : ℕ) → ((q : ℕ) → q < i + n → f q ≤ 2) → Values (values f i n)
values_all f zero i h = tt
values_all f (suc n) i h = (h i (omega arith), values_all f n (suc i) (λ q l. h q (omega arith)))

-- the first points of a position's board are its board of so many points
pub take_board : (n points : ℕ) (p : Position) → n ≤ points → take n (board_of points p) ≡ board_of n p
unfolding board_of
take_board n points p h = take_values (value_at p) n points 0 h

-- the board of a position has no other values than 0, 1 and 2
pub board_values : (points : ℕ) (p : Position) → OnBoard points p → Values (board_of points p)
unfolding board_of value_at
board_values points p w =
    values_all (value_at p) points 0 (λ q h. (said (bit p.mover q) (bit p.opponent q) (w.apart q (omega arith))).low)

-- a position that was made of a board
module _ (b : List ℕ) (p : Position) (e : p ≡ position_of b) where
  -- the members of each side's set are its stones
  pub mover_stones : length b ≤ 24 → members p.mover 32 ≡ count 1 b
  mover_stones h = ap (λ (q : Position). members q.mover 32) (e ∙ position_sides b) ∙ members_count 1 b h

  pub opponent_stones : length b ≤ 24 → members p.opponent 32 ≡ count 2 b
  opponent_stones h = ap (λ (q : Position). members q.opponent 32) (e ∙ position_sides b) ∙ members_count 2 b h

  pub on_board : OnBoard (length b) p
  on_board = subst (λ (q : Position). OnBoard (length b) q) (sym e) (position_on b)
