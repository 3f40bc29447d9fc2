-- The laws of point sets: what each operation does to each digit, and to the count.
-- Assumes nothing.
use mathlib.Core.Path.{◌≡◌, refl, sym, ap, ap₂, ◌∙◌, subst}
use mathlib.Core.Logic.{◌⊎◌, inl, inr, ⊎_elim}
use Prim.Native.Nat.{ℕ, zero, suc, ◌+◌, ◌-◌, ◌*◌, ◌/◌, ◌%◌, ◌^◌, ◌≤◌, ◌<◌, min}
use native.Mathlib.Nat.{pow-suc, mod-lt, zero-mul, one-mul, mod-eq_of_lt, mod-one, zero-div}
use native.Mathlib.Numerals.{one-add}
use native.Mathlib.Omega.{arith}
use mathlib.Core.Bool.{false, ◌&&◌}
use lib.Dec.{eqb}
use lib.Bits.{bit_and, bit_or, and_step, or_add_and, or_lt, and_high, and_zero_r}
use lib.Count.{ones, ones_step, ones_cat}
use lib.Arith.{digits_div, digits_mod}
use lib.Pow.{shr-shr, mod-pow-add, pow-lt, pow_pos}
use Rattle.sets.specs.Sets.{bit, has, with, without, members}

-- a digit by recursion on its place
pub bit_zero : (s : ℕ) → bit s 0 ≡ s % 2
bit_zero s = omega arith

pub bit_suc : (s p : ℕ) → bit s (suc p) ≡ bit (s / 2) p
bit_suc s p = rw (shr-shr s 1 p, one-add)

pub bit_lt : (s p : ℕ) → bit s p < 2
bit_lt s p = omega arith

two : (n : ℕ) → n < 2 → (n ≡ 0) ⊎ (n ≡ 1)
two zero h = inl refl
two (suc zero) h = inr refl
two (suc (suc n)) h = absurd (omega arith)

-- what holds at 0 and at 1 holds at each digit
digit_ind : (P : ℕ → Type 0) → P 0 → P 1 → (n : ℕ) → n < 2 → P n
digit_ind P a b zero h = a
digit_ind P a b (suc zero) h = b
digit_ind P a b (suc (suc n)) h = absurd (omega arith)

pub bit_cases : (s p : ℕ) → (bit s p ≡ 0) ⊎ (bit s p ≡ 1)
bit_cases s p = two (bit s p) (bit_lt s p)

-- the halves of s + 2 ^ suc p
half_add : (s p : ℕ) → (s + 2 ^ suc p) / 2 ≡ s / 2 + 2 ^ p
half_add s p = rw (pow-suc 2 p) (omega arith)

odd_add : (s p : ℕ) → (s + 2 ^ suc p) % 2 ≡ s % 2
odd_add s p = rw (pow-suc 2 p) (omega arith)

-- a new member: one more in the count, 1 at its own place, the others as they were
pub ones_add : (s p : ℕ) → bit s p ≡ 0 → ones (s + 2 ^ p) ≡ suc (ones s)
ones_add s zero h =
    let e : (s + 1) / 2 ≡ s / 2 = omega arith in
    omega (arith, ones_step (s + 1), ones_step s, ap ones e)
ones_add s (suc p) h =
    let ih : ones (s / 2 + 2 ^ p) ≡ suc (ones (s / 2)) = ones_add (s / 2) p (sym (bit_suc s p) ∙ h) in
    omega (arith, ones_step (s + 2 ^ suc p), ones_step s, ap ones (half_add s p), odd_add s p, ih)

pub bit_add_same : (s p : ℕ) → bit s p ≡ 0 → bit (s + 2 ^ p) p ≡ 1
bit_add_same s zero h = omega (arith, bit_zero s, bit_zero (s + 1))
bit_add_same s (suc p) h =
    bit_suc (s + 2 ^ suc p) p ∙ ap (λ (x : ℕ). bit x p) (half_add s p) ∙ bit_add_same (s / 2) p (sym (bit_suc s p) ∙ h)

pub bit_add_other : (s p q : ℕ) → bit s p ≡ 0 → (q ≡ p → ⊥) → bit (s + 2 ^ p) q ≡ bit s q
bit_add_other s zero zero h n = absurd (n refl)
bit_add_other s zero (suc q) h n =
    let e : (s + 1) / 2 ≡ s / 2 = omega arith in
    bit_suc (s + 1) q ∙ ap (λ (x : ℕ). bit x q) e ∙ sym (bit_suc s q)
bit_add_other s (suc p) zero h n = bit_zero (s + 2 ^ suc p) ∙ odd_add s p ∙ sym (bit_zero s)
bit_add_other s (suc p) (suc q) h n =
    bit_suc (s + 2 ^ suc p) q ∙ ap (λ (x : ℕ). bit x q) (half_add s p)
    ∙ bit_add_other (s / 2) p q (sym (bit_suc s p) ∙ h) (λ e. n (ap suc e)) ∙ sym (bit_suc s q)

-- a member taken away
pub bit_le : (s p : ℕ) → bit s p ≡ 1 → 2 ^ p ≤ s
bit_le s zero h = omega (arith, bit_zero s)
bit_le s (suc p) h = omega (arith, pow-suc 2 p, bit_le (s / 2) p (sym (bit_suc s p) ∙ h))

half_sub : (s p : ℕ) → (s - 2 ^ suc p) / 2 ≡ s / 2 - 2 ^ p
half_sub s p = rw (pow-suc 2 p) (omega arith)

pub bit_sub_same : (s p : ℕ) → bit s p ≡ 1 → bit (s - 2 ^ p) p ≡ 0
bit_sub_same s zero h = omega (arith, bit_zero s, bit_zero (s - 1))
bit_sub_same s (suc p) h =
    bit_suc (s - 2 ^ suc p) p ∙ ap (λ (x : ℕ). bit x p) (half_sub s p) ∙ bit_sub_same (s / 2) p (sym (bit_suc s p) ∙ h)

sub_add : (s p : ℕ) → bit s p ≡ 1 → s - 2 ^ p + 2 ^ p ≡ s
sub_add s p h = omega (arith, bit_le s p h)

-- sets below 2 ^ n with the same members are the same
pub same_set : (n s t : ℕ) → s < 2 ^ n → t < 2 ^ n → ((p : ℕ) → p < n → bit s p ≡ bit t p) → s ≡ t
same_set zero s t hs ht h = omega arith
same_set (suc n) s t hs ht h =
    let e : s / 2 ≡ t / 2 =
    same_set n (s / 2) (t / 2) (omega (arith, pow-suc 2 n)) (omega (arith, pow-suc 2 n))
    (λ p l. sym (bit_suc s p) ∙ h (suc p) (omega arith) ∙ bit_suc t p) in
    omega (arith, e, bit_zero s, bit_zero t, h 0 (omega arith))

-- with and without, by cases on the digit
pub with_absent : (s p : ℕ) → bit s p ≡ 0 → with s p ≡ s + 2 ^ p
with_absent s p h = rw h (omega arith)

pub with_member : (s p : ℕ) → bit s p ≡ 1 → with s p ≡ s
with_member s p h = rw h (omega arith)

pub without_absent : (s p : ℕ) → bit s p ≡ 0 → without s p ≡ s
without_absent s p h = rw h (omega arith)

pub without_member : (s p : ℕ) → bit s p ≡ 1 → without s p ≡ s - 2 ^ p
without_member s p h = rw h (omega arith)

pub without_le : (s p : ℕ) → without s p ≤ s
without_le s p = omega arith

pub bit_with_same : (s p : ℕ) → bit (with s p) p ≡ 1
bit_with_same s p =
    ⊎_elim (λ h. ap (λ (x : ℕ). bit x p) (with_absent s p h) ∙ bit_add_same s p h)
    (λ h. ap (λ (x : ℕ). bit x p) (with_member s p h) ∙ h) (bit_cases s p)

pub bit_with_other : (s p q : ℕ) → (q ≡ p → ⊥) → bit (with s p) q ≡ bit s q
bit_with_other s p q n =
    ⊎_elim (λ h. ap (λ (x : ℕ). bit x q) (with_absent s p h) ∙ bit_add_other s p q h n)
    (λ h. ap (λ (x : ℕ). bit x q) (with_member s p h)) (bit_cases s p)

pub bit_without_same : (s p : ℕ) → bit (without s p) p ≡ 0
bit_without_same s p =
    ⊎_elim (λ h. ap (λ (x : ℕ). bit x p) (without_absent s p h) ∙ h)
    (λ h. ap (λ (x : ℕ). bit x p) (without_member s p h) ∙ bit_sub_same s p h) (bit_cases s p)

pub bit_without_other : (s p q : ℕ) → (q ≡ p → ⊥) → bit (without s p) q ≡ bit s q
bit_without_other s p q n =
    ⊎_elim (λ h. ap (λ (x : ℕ). bit x q) (without_absent s p h))
    (λ h. ap (λ (x : ℕ). bit x q) (without_member s p h) ∙ sym (bit_add_other (s - 2 ^ p) p q (bit_sub_same s p h) n)
    ∙ ap (λ (x : ℕ). bit x q) (sub_add s p h)) (bit_cases s p)

pub ones_with : (s p : ℕ) → bit s p ≡ 0 → ones (with s p) ≡ suc (ones s)
ones_with s p h = ap ones (with_absent s p h) ∙ ones_add s p h

pub ones_without : (s p : ℕ) → bit s p ≡ 1 → suc (ones (without s p)) ≡ ones s
ones_without s p h =
    ap (λ (x : ℕ). suc (ones x)) (without_member s p h) ∙ sym (ones_add (s - 2 ^ p) p (bit_sub_same s p h)) ∙ ap ones (sub_add s p h)

-- the code's masks
pub and_bit : (s p : ℕ) → bit_and s (2 ^ p) ≡ bit s p * 2 ^ p
and_bit s p =
    let e : 2 ^ (1 + p) - 2 ^ p ≡ 2 ^ p = rw (one-add p, pow-suc 2 p) (omega arith) in
    ap (bit_and s) (sym e) ∙ and_high s 1 p

pub or_bit : (s p : ℕ) → bit_or s (2 ^ p) ≡ with s p
or_bit s p =
    ⊎_elim
    (λ h. let a : bit_and s (2 ^ p) ≡ 0 = and_bit s p ∙ ap (λ (x : ℕ). x * 2 ^ p) h ∙ zero-mul (2 ^ p) in
    omega (arith, with_absent s p h, or_add_and s (2 ^ p)))
    (λ h. let a : bit_and s (2 ^ p) ≡ 2 ^ p = and_bit s p ∙ ap (λ (x : ℕ). x * 2 ^ p) h ∙ one-mul (2 ^ p) in
    omega (arith, with_member s p h, or_add_and s (2 ^ p)))
    (bit_cases s p)

pub shl_one : (p : ℕ) → p < 32 → 1 * 2 ^ p % 2 ^ 32 ≡ 2 ^ p
shl_one p h = ap (λ (x : ℕ). x % 2 ^ 32) (one-mul (2 ^ p)) ∙ mod-eq_of_lt (pow-lt h)

pub with_lt : (k s p : ℕ) → s < 2 ^ k → p < k → with s p < 2 ^ k
with_lt k s p hs hp = subst (λ (x : ℕ). x < 2 ^ k) (or_bit s p) (or_lt k s (2 ^ p) hs (pow-lt hp))

-- the count of the digits is the number of members
ones_digit : (b : ℕ) → b < 2 → ones b ≡ b
unfolding ones
ones_digit b h = ⊎_elim (λ e. rw e refl) (λ e. rw e refl) (two b h)

pub members_ones : (s n : ℕ) → members s n ≡ ones (s % 2 ^ n)
unfolding members ones
members_ones s zero = rw (mod-one s) refl
members_ones s (suc n) =
    let e : s % 2 ^ suc n ≡ bit s n * 2 ^ n + s % 2 ^ n = ap (λ (k : ℕ). s % 2 ^ k) (sym (one-add n)) ∙ mod-pow-add s 1 n in
    let d : ones (s % 2 ^ suc n) ≡ ones (bit s n) + ones (s % 2 ^ n) = ap ones e ∙ ones_cat n (bit s n) (s % 2 ^ n) (mod-lt s (pow_pos n)) in
    omega (arith, members_ones s n, d, ones_digit (bit s n) (bit_lt s n))

pub members_le : (s n : ℕ) → members s n ≤ n
unfolding members
members_le s zero = omega arith
members_le s (suc n) = omega (arith, members_le s n, bit_lt s n)

pub members_all : (s n : ℕ) → s < 2 ^ n → members s n ≡ ones s
members_all s n h = members_ones s n ∙ ap ones (mod-eq_of_lt h)

-- the digits of a common part
min_lt : (s t : ℕ) → min (s % 2) (t % 2) < 2
min_lt s t = omega arith

and_odd : (s t : ℕ) → bit_and s t % 2 ≡ min (s % 2) (t % 2)
and_odd s t = ap (λ (x : ℕ). x % 2) (and_step s t) ∙ digits_mod (bit_and (s / 2) (t / 2)) (min_lt s t)

and_half : (s t : ℕ) → bit_and s t / 2 ≡ bit_and (s / 2) (t / 2)
and_half s t = ap (λ (x : ℕ). x / 2) (and_step s t) ∙ digits_div (bit_and (s / 2) (t / 2)) (min_lt s t)

pub bit_and_lem : (s t p : ℕ) → bit (bit_and s t) p ≡ min (bit s p) (bit t p)
bit_and_lem s t zero = bit_zero (bit_and s t) ∙ and_odd s t ∙ ap₂ min (sym (bit_zero s)) (sym (bit_zero t))
bit_and_lem s t (suc p) =
    bit_suc (bit_and s t) p ∙ ap (λ (x : ℕ). bit x p) (and_half s t) ∙ bit_and_lem (s / 2) (t / 2) p
    ∙ ap₂ min (sym (bit_suc s p)) (sym (bit_suc t p))

-- the count of a common part with a mask that has one more member
ones_and_step : (s t : ℕ) → ones (bit_and s t) ≡ min (s % 2) (t % 2) + ones (bit_and (s / 2) (t / 2))
ones_and_step s t = ones_step (bit_and s t) ∙ ap₂ ◌+◌ (and_odd s t) (ap ones (and_half s t))

pub ones_and_add : (s m p : ℕ) → bit m p ≡ 0 → ones (bit_and s (m + 2 ^ p)) ≡ ones (bit_and s m) + bit s p
ones_and_add s m zero h =
    let e : (m + 1) / 2 ≡ m / 2 = omega arith in
    let f : (m + 1) % 2 ≡ 1 = omega arith in
    let g : m % 2 ≡ 0 = omega arith in
    let a : ones (bit_and s (m + 1)) ≡ min (s % 2) 1 + ones (bit_and (s / 2) (m / 2)) =
    ones_and_step s (m + 1) ∙ ap₂ (λ (x y : ℕ). min (s % 2) x + ones (bit_and (s / 2) y)) f e in
    let b : ones (bit_and s m) ≡ min (s % 2) 0 + ones (bit_and (s / 2) (m / 2)) =
    ones_and_step s m ∙ ap (λ (x : ℕ). min (s % 2) x + ones (bit_and (s / 2) (m / 2))) g in
    omega (arith, bit_zero s)
ones_and_add s m (suc p) h =
    let a : ones (bit_and s (m + 2 ^ suc p)) ≡ min (s % 2) (m % 2) + ones (bit_and (s / 2) (m / 2 + 2 ^ p)) =
    ones_and_step s (m + 2 ^ suc p) ∙ ap₂ (λ (x y : ℕ). min (s % 2) x + ones (bit_and (s / 2) y)) (odd_add m p) (half_add m p) in
    let b : ones (bit_and (s / 2) (m / 2 + 2 ^ p)) ≡ ones (bit_and (s / 2) (m / 2)) + bit (s / 2) p =
    ones_and_add (s / 2) (m / 2) p (sym (bit_suc m p) ∙ h) in
    omega (arith, a, b, ones_and_step s m, bit_suc s p)

pub ones_and_with : (s m p : ℕ) → bit m p ≡ 0 → ones (bit_and s (with m p)) ≡ ones (bit_and s m) + bit s p
ones_and_with s m p h = ap (λ (x : ℕ). ones (bit_and s x)) (with_absent m p h) ∙ ones_and_add s m p h

-- the mask of three different points
pub bit_empty : (p : ℕ) → bit 0 p ≡ 0
bit_empty p = ap (λ (x : ℕ). x % 2) (zero-div (2 ^ p))

pub ones_three : (s a b c : ℕ) → (b ≡ a → ⊥) → (c ≡ a → ⊥) → (c ≡ b → ⊥)
    → ones (bit_and s (with (with (with 0 a) b) c)) ≡ bit s a + bit s b + bit s c
unfolding ones
ones_three s a b c ba ca cb =
    let ha : bit 0 a ≡ 0 = bit_empty a in
    let hb : bit (with 0 a) b ≡ 0 = bit_with_other 0 a b ba ∙ bit_empty b in
    let hc : bit (with (with 0 a) b) c ≡ 0 = bit_with_other (with 0 a) b c cb ∙ bit_with_other 0 a c ca ∙ bit_empty c in
    let z : ones (bit_and s 0) ≡ 0 = ap ones (and_zero_r s) in
    omega (arith, ones_and_with s (with (with 0 a) b) c hc, ones_and_with s (with 0 a) b hb, ones_and_with s 0 a ha, z)

-- three digits sum to 3 exactly when each is 1
three : (x y z : ℕ) → x < 2 → y < 2 → z < 2 → eqb (x + y + z) 3 ≡ (eqb x 1 && (eqb y 1 && eqb z 1))
three x y z hx hy hz =
    digit_ind (λ (x : ℕ). eqb (x + y + z) 3 ≡ (eqb x 1 && (eqb y 1 && eqb z 1)))
    (digit_ind (λ (y : ℕ). eqb (0 + y + z) 3 ≡ false)
    (digit_ind (λ (z : ℕ). eqb (0 + 0 + z) 3 ≡ false) refl refl z hz)
    (digit_ind (λ (z : ℕ). eqb (0 + 1 + z) 3 ≡ false) refl refl z hz) y hy)
    (digit_ind (λ (y : ℕ). eqb (1 + y + z) 3 ≡ (eqb y 1 && eqb z 1))
    (digit_ind (λ (z : ℕ). eqb (1 + 0 + z) 3 ≡ false) refl refl z hz)
    (digit_ind (λ (z : ℕ). eqb (1 + 1 + z) 3 ≡ eqb z 1) refl refl z hz) y hy) x hx

pub three_members : (s a b c : ℕ) → eqb (bit s a + bit s b + bit s c) 3 ≡ (has s a && (has s b && has s c))
three_members s a b c = three (bit s a) (bit s b) (bit s c) (bit_lt s a) (bit_lt s b) (bit_lt s c)
