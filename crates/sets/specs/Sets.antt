-- A set of points is a number: point p is a member where the binary digit of weight 2 ^ p is 1 (document 01: a point set).
-- Assumes nothing.
use Rattle.std.specs.Prelude.{ℕ, zero, suc, ◌+◌, ◌-◌, ◌*◌, ◌/◌, ◌%◌, ◌^◌, Bool, List, [], ◌∷◌, eqb, get_or}
use Rattle.std.specs.Int.Bits.{bit_and}
use Rattle.lists.specs.Lists.{range, keep}

-- the digit of s at p: 1 for a member, else 0
abbrev pub bit : ℕ → ℕ → ℕ
bit s p = s / 2 ^ p % 2

-- p is a member of s
abbrev pub has : ℕ → ℕ → Bool
has s p = eqb (bit s p) 1

-- s with the member p, which may have been one before
abbrev pub with : ℕ → ℕ → ℕ
with s p = s + (1 - bit s p) * 2 ^ p

-- s without the member p, which need not have been one before
abbrev pub without : ℕ → ℕ → ℕ
without s p = s - bit s p * 2 ^ p

-- how many of the points below n are members
unfoldable pub members : ℕ → ℕ → ℕ
members s zero = 0
members s (suc n) = members s n + bit s n

-- how many points are members of both
abbrev pub shared : ℕ → ℕ → ℕ
shared s t = members (bit_and s t) 32

-- the members below n, by rising number
unfoldable pub elements : ℕ → ℕ → List ℕ
elements n s = keep (λ p. has s p) (range 0 n)

-- the least member of a set of 32 points
unfoldable pub lowest : ℕ → ℕ
lowest s = get_or (elements 32 s) 0 0

-- s with all members of a list
unfoldable pub with_all : ℕ → List ℕ → ℕ
with_all s [] = s
with_all s (p ∷ ps) = with_all (with s p) ps

-- the set of a list's members
unfoldable pub set_from : List ℕ → ℕ
set_from ps = with_all 0 ps
