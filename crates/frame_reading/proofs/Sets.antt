-- Whether a character is wrong, and a loop's step over a frame by one byte: the set of the points that hold a value. Assumes nothing.
use mathlib.Core.Path.{◌≡◌, refl, sym, ap, ◌∙◌}
use mathlib.Core.Bool.{Bool, true, false}
use Rattle.std.specs.Bool.{MatchBool}
use Rattle.std.specs.List.{AllWithin, HoldsAt}
use mathlib.Core.List.{List, [], ◌∷◌}
use Prim.Native.Nat.{ℕ, zero, suc, ◌+◌, ◌*◌, ◌/◌, ◌%◌, ◌^◌, ◌≤◌, ◌<◌}
use native.Mathlib.Nat.{not-suc-le-zero, le_of_suc-le-suc, lt_of_lt_of_le}
use native.Mathlib.Omega.{arith}
use lib.Dec.{eqb}
use lib.Pow.{pow_mono}
use lib.ListN.{length, get_or, drop, length-drop}
use Rattle.lists.proofs.Tests.{or_left, or_right, left_or, right_or}
use Rattle.board.specs.Board.{digit, set_of}
use Rattle.board.proofs.Sides.{set_lt, set_none, set_cons}
use Rattle.frames.specs.Frame.{outside, any_outside, frame_length, byte_of, bytes_in, points_in, rings_in}
use Rattle.frames.proofs.Characters.{drop_two}

-- what a search for a character outside answers
found : (f : List ℕ) (k : ℕ) → k < length f → outside (get_or f k 0) ≡ true → any_outside f ≡ true
unfolding any_outside
found [] k h e = absurd (not-suc-le-zero h)
found (c ∷ f) zero h e = left_or (outside c) (any_outside f) e
found (c ∷ f) (suc k) h e = right_or (outside c) (any_outside f) (found f k (le_of_suc-le-suc h) e)

none : (f : List ℕ) → ((k : ℕ) → k < length f → outside (get_or f k 0) ≡ false) → any_outside f ≡ false
unfolding any_outside
none [] h = refl
none (c ∷ f) h = rw (h 0 (omega arith)) (none f (λ k l. h (suc k) (omega arith)))

pub answered : (b : Bool) (f : List ℕ)
    → MatchBool b ((k : ℕ) × (k < length f) × HoldsAt (λ x. outside x ≡ true) f k) (AllWithin (λ x. outside x ≡ false) f 0 (length f))
    → b ≡ any_outside f
answered true f h = sym (found f h.0 h.1 (h.2 0))
answered false f h = sym (none f (λ k l. h k 0 (omega arith) l))

pub inside_at_lem : (f : List ℕ) → any_outside f ≡ false → (i : ℕ) → i < length f → outside (get_or f i 0) ≡ false
unfolding any_outside
inside_at_lem [] e i h = absurd (not-suc-le-zero h)
inside_at_lem (c ∷ f) e zero h = or_left (outside c) (any_outside f) e
inside_at_lem (c ∷ f) e (suc i) h = inside_at_lem f (or_right (outside c) (any_outside f) e) i (le_of_suc-le-suc h)

-- the rings are the first two characters
pub rings_first : (f : List ℕ) → 2 ≤ length f → rings_in f ≡ byte_of (get_or f 0 0) (get_or f 1 0)
unfolding rings_in bytes_in
rings_first [] h = absurd (omega arith)
rings_first (c ∷ []) h = absurd (omega arith)
rings_first (c ∷ d ∷ f) h = refl

-- the set of four points and those above them
set_four : (v a b c d : ℕ) (l : List ℕ)
    → set_of v (a ∷ b ∷ c ∷ d ∷ l)
    ≡ digit (eqb a v) + 2 * digit (eqb b v) + 4 * (digit (eqb c v) + 2 * digit (eqb d v)) + 16 * set_of v l
set_four v a b c d l =
    omega (arith, set_cons v a (b ∷ c ∷ d ∷ l), set_cons v b (c ∷ d ∷ l), set_cons v c (d ∷ l), set_cons v d l)

-- of one byte
pub set_one : (v b : ℕ)
    → set_of v (points_in (b ∷ []))
    ≡ digit (eqb (b % 4) v) + 2 * digit (eqb (b / 4 % 4) v) + 4 * (digit (eqb (b / 16 % 4) v) + 2 * digit (eqb (b / 64 % 4) v))
unfolding points_in
set_one v b = omega (arith, set_four v (b % 4) (b / 4 % 4) (b / 16 % 4) (b / 64 % 4) [], set_none v)

-- one byte more, from the last on
pub set_byte : (v i : ℕ) (f : List ℕ) → i + 2 ≤ length f
    → set_of v (points_in (bytes_in (drop i f)))
    ≡ set_of v (points_in (byte_of (get_or f i 0) (get_or f (i + 1) 0) ∷ [])) + 16 * set_of v (points_in (bytes_in (drop (i + 2) f)))
unfolding points_in bytes_in
set_byte v i f h =
    let b = byte_of (get_or f i 0) (get_or f (i + 1) 0) in
    let rest = points_in (bytes_in (drop (i + 2) f)) in
    ap (λ (l : List ℕ). set_of v (points_in (bytes_in l))) (drop_two f i h)
    ∙ omega (arith, set_four v (b % 4) (b / 4 % 4) (b / 16 % 4) (b / 64 % 4) rest, set_one v b)

-- the set of the bytes passed is below 2 ^ 24
points_le : (f : List ℕ) → length (points_in (bytes_in f)) ≤ 2 * length f
unfolding points_in bytes_in
points_le [] = omega arith
points_le (c ∷ []) = omega arith
points_le (c ∷ d ∷ f) = omega (arith, points_le f)

pub set_small : (v i : ℕ) (f : List ℕ) → 2 ≤ i → length f ≤ frame_length 3 → set_of v (points_in (bytes_in (drop i f))) < 2 ^ 24
set_small v i f p h =
    lt_of_lt_of_le (set_lt v (points_in (bytes_in (drop i f))))
    (pow_mono {i = length (points_in (bytes_in (drop i f)))} {j = 24} (omega (arith, points_le (drop i f), length-drop i f)))
