-- Digits of a union of sets, and what a point's digits say of a board's stones. Assumes nothing.
use mathlib.Core.Path.{◌≡◌, sym, ap, ◌∙◌}
use mathlib.Core.Bool.{true, false}
use mathlib.Core.Logic.{⊎_elim}
use Prim.Native.Nat.{ℕ, suc, ◌/◌, ◌%◌, ◌^◌, ◌<◌, max}
use native.Mathlib.Omega.{arith}
use lib.Arith.{digits_mod}
use lib.Bits.{bit_or, or_step, or_shr}
use lib.ListN.{get_or}
use borrow.Author.Tests.{eqb-true, eqb-false}
use Rattle.sets.specs.Sets.{bit, has}
use Rattle.sets.proofs.Laws.{bit_lt, bit_cases}
use Rattle.board.specs.declared.Position.{Position}
use Rattle.board.specs.Board.{digit, value_at, board_of, OnBoard}
use Rattle.board.proofs.Sides.{board_at_lem}
use Rattle.board.proofs.OneToOne.{vacant_at}

or_odd : (s t : ℕ) → bit_or s t % 2 ≡ max (s % 2) (t % 2)
or_odd s t = ap (λ (x : ℕ). x % 2) (or_step s t) ∙ digits_mod (bit_or (s / 2) (t / 2)) (omega arith)

pub bit_or_lem : (s t p : ℕ) → bit (bit_or s t) p ≡ max (bit s p) (bit t p)
bit_or_lem s t p = ap (λ (x : ℕ). x % 2) (or_shr s t p) ∙ or_odd (s / 2 ^ p) (t / 2 ^ p)

-- a digit of the union by those of the two sets, where they are not both 1
neither : (x y : ℕ) → max x y < 2 → (max x y ≡ 1 → ⊥) → (x ≡ 0) × (y ≡ 0)
neither x y l h = (omega arith, omega arith)

-- the points of both sides
abbrev pub stones : Position → ℕ
stones p = bit_or p.mover p.opponent

module _ (points : ℕ) (p : Position) (w : OnBoard points p) where
  pub vacant_value : (q : ℕ) → q < points → has (stones p) q ≡ false → get_or (board_of points p) q 0 ≡ 0
  vacant_value q l h =
      let e = bit_or_lem p.mover p.opponent q in
      let z = neither (bit p.mover q) (bit p.opponent q) (omega (arith, e, bit_lt (stones p) q)) (λ o. eqb-false (bit (stones p) q) 1 h (e ∙ o)) in
      vacant_at points p w q l z.0 z.1

  pub stone_value : (q : ℕ) → q < points → has (stones p) q ≡ true → get_or (board_of points p) q 0 ≡ suc (digit (has p.opponent q))
  unfolding value_at
  stone_value q l h = board_at_lem points p q l ∙ ⊎_elim none some (bit_cases p.opponent q)
    where
      e : max (bit p.mover q) (bit p.opponent q) ≡ 1
      e = sym (bit_or_lem p.mover p.opponent q) ∙ eqb-true (bit (stones p) q) 1 h

      none : bit p.opponent q ≡ 0 → value_at p q ≡ suc (digit (has p.opponent q))
      none z = let m : bit p.mover q ≡ 1 = omega (arith, e, z) in rw (m, z)

      some : bit p.opponent q ≡ 1 → value_at p q ≡ suc (digit (has p.opponent q))
      some z = let m : bit p.mover q ≡ 0 = omega (arith, w.apart q l, z) in rw (m, z)
