-- The digits of a number made of three bytes, and of the bytes of a number. Assumes nothing.
use mathlib.Core.Path.{◌≡◌}
use Prim.Native.Nat.{ℕ, zero, suc, ◌+◌, ◌*◌, ◌/◌, ◌%◌, ◌<◌}
use native.Mathlib.Omega.{arith}
use Rattle.sets.specs.Sets.{bit}

-- what holds at eight numbers
eight : (P : ℕ → Type 0) → P 0 → P 1 → P 2 → P 3 → P 4 → P 5 → P 6 → P 7 → (p : ℕ) → p < 8 → P p
eight P a b c d e f g h zero l = a
eight P a b c d e f g h (suc zero) l = b
eight P a b c d e f g h (suc (suc zero)) l = c
eight P a b c d e f g h (suc (suc (suc zero))) l = d
eight P a b c d e f g h (suc (suc (suc (suc zero)))) l = e
eight P a b c d e f g h (suc (suc (suc (suc (suc zero))))) l = f
eight P a b c d e f g h (suc (suc (suc (suc (suc (suc zero)))))) l = g
eight P a b c d e f g h (suc (suc (suc (suc (suc (suc (suc zero))))))) l = h
eight P a b c d e f g h (suc (suc (suc (suc (suc (suc (suc (suc p)))))))) l = absurd (omega arith)

module _ (a b c : ℕ) (la : a < 256) (lb : b < 256) where
  pub joined_first : (p : ℕ) → p < 8 → bit (a + 256 * b + 65536 * c) p ≡ bit a p
  joined_first = eight (λ p. bit (a + 256 * b + 65536 * c) p ≡ bit a p)
      (omega arith) (omega arith) (omega arith) (omega arith) (omega arith) (omega arith) (omega arith) (omega arith)

  pub joined_second : (p : ℕ) → p < 8 → bit (a + 256 * b + 65536 * c) (8 + p) ≡ bit b p
  joined_second = eight (λ p. bit (a + 256 * b + 65536 * c) (8 + p) ≡ bit b p)
      (omega arith) (omega arith) (omega arith) (omega arith) (omega arith) (omega arith) (omega arith) (omega arith)

  pub joined_third : (p : ℕ) → p < 8 → bit (a + 256 * b + 65536 * c) (16 + p) ≡ bit c p
  joined_third = eight (λ p. bit (a + 256 * b + 65536 * c) (16 + p) ≡ bit c p)
      (omega arith) (omega arith) (omega arith) (omega arith) (omega arith) (omega arith) (omega arith) (omega arith)

module _ (s : ℕ) where
  pub first_byte : (p : ℕ) → p < 8 → bit (s % 256) p ≡ bit s p
  first_byte = eight (λ p. bit (s % 256) p ≡ bit s p)
      (omega arith) (omega arith) (omega arith) (omega arith) (omega arith) (omega arith) (omega arith) (omega arith)

  pub second_byte : (p : ℕ) → p < 8 → bit (s / 256 % 256) p ≡ bit s (8 + p)
  second_byte = eight (λ p. bit (s / 256 % 256) p ≡ bit s (8 + p))
      (omega arith) (omega arith) (omega arith) (omega arith) (omega arith) (omega arith) (omega arith) (omega arith)

  pub third_byte : (p : ℕ) → p < 8 → bit (s / 65536) p ≡ bit s (16 + p)
  third_byte = eight (λ p. bit (s / 65536) p ≡ bit s (16 + p))
      (omega arith) (omega arith) (omega arith) (omega arith) (omega arith) (omega arith) (omega arith) (omega arith)
