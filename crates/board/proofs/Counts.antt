-- Counts and values of a board are those of its reading, and of its parts together. Assumes nothing.
use mathlib.Core.Path.{◌≡◌, refl, ap, ◌∙◌}
use mathlib.Core.List.{List, [], ◌∷◌, ◌++◌, reverse, reverse-cons}
use Prim.Native.Nat.{ℕ, zero, suc, ◌+◌, ◌≤◌}
use native.Mathlib.Omega.{arith}
use lib.Dec.{eqb}
use lib.ListN.{length, get_or, take, drop}
use lib.Seq.{take-suc}
use Rattle.sets.specs.Sets.{members}
use Rattle.board.specs.Board.{Values, count, digit, set_of}
use Rattle.board.proofs.Sides.{more_digit, digit_lt, bit_set}

pub count_append : (v : ℕ) (a b : List ℕ) → count v (a ++ b) ≡ count v a + count v b
count_append v [] b = omega arith
count_append v (x ∷ a) b =
    omega (arith, more_digit (eqb x v) (count v (a ++ b)), more_digit (eqb x v) (count v a), count_append v a b)

-- one point more
pub count_more : (v : ℕ) (b : List ℕ) (x : ℕ) → count v (b ++ (x ∷ [])) ≡ count v b + digit (eqb x v)
count_more v b x = omega (arith, count_append v b (x ∷ []), more_digit (eqb x v) 0)

pub count_reverse : (v : ℕ) (b : List ℕ) → count v (reverse b) ≡ count v b
count_reverse v [] = refl
count_reverse v (x ∷ b) =
    ap (count v) (reverse-cons x b) ∙ omega (arith, count_more v (reverse b) x, count_reverse v b, more_digit (eqb x v) (count v b))

pub count_le : (v : ℕ) (b : List ℕ) → count v b ≤ length b
count_le v [] = omega arith
count_le v (x ∷ b) = omega (arith, more_digit (eqb x v) (count v b), digit_lt (eqb x v), count_le v b)

pub values_append : (a b : List ℕ) → Values a → Values b → Values (a ++ b)
values_append [] b p q = q
values_append (x ∷ a) b p q = (p.0, values_append a b p.1 q)

pub values_reverse : (b : List ℕ) → Values b → Values (reverse b)
values_reverse [] p = tt
values_reverse (x ∷ b) p = rw (reverse-cons x b) (values_append (reverse b) (x ∷ []) (values_reverse b p.1) (p.0, tt))

pub values_take : (n : ℕ) (b : List ℕ) → Values b → Values (take n b)
values_take zero b p = tt
values_take (suc n) [] p = tt
values_take (suc n) (x ∷ b) p = (p.0, values_take n b p.1)

pub values_drop : (n : ℕ) (b : List ℕ) → Values b → Values (drop n b)
values_drop zero b v = v
values_drop (suc n) [] v = tt
values_drop (suc n) (x ∷ b) v = values_drop n b v.1

-- every point holds one of three values
pub count_all : (b : List ℕ) → Values b → count 0 b + count 1 b + count 2 b ≡ length b
count_all [] v = refl
count_all (zero ∷ b) v = omega (arith, count_all b v.1)
count_all (suc zero ∷ b) v = omega (arith, count_all b v.1)
count_all (suc (suc zero) ∷ b) v = omega (arith, count_all b v.1)
count_all (suc (suc (suc x)) ∷ b) v = absurd (omega (arith, v.0))

-- the stones below a point are the members there of their set
pub count_members : (v : ℕ) (b : List ℕ) (p : ℕ) → p ≤ length b → count v (take p b) ≡ members (set_of v b) p
unfolding members
count_members v b zero h = refl
count_members v b (suc p) h =
    ap (count v) (take-suc b p 0 h) ∙ omega (arith, count_more v (take p b) (get_or b p 0), count_members v b p (omega arith), bit_set v b p h)
