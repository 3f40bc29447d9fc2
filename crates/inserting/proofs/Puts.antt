-- A position with one stone put on a vacant point, or one taken off: a position of the board, which stands for the board with the value stored.
-- Assumes nothing.
use mathlib.Core.Path.{◌≡◌, refl, sym, ap, ap₂, subst, ◌∙◌}
use mathlib.Core.Bool.{Bool, true, false}
use Prim.Native.Nat.{ℕ, suc, ◌+◌, ◌*◌, ◌^◌, ◌≤◌, ◌<◌}
use native.Mathlib.Nat.{lt_of_lt_of_le}
use native.Mathlib.Omega.{arith}
use lib.Count.{ones}
use lib.Dec.{eqb}
use lib.ListN.{length, get_or, set, length-set}
use lib.Pow.{pow_mono}
use lib.Seq.{ext_get_or, get_or-set_same, get_or-set_other}
use borrow.Author.Tests.{eqb-true, eqb-false}
use Rattle.sets.specs.Sets.{bit, with, without}
use Rattle.sets.proofs.Laws.{bit_with_same, bit_with_other, bit_without_same, bit_without_other, with_lt, without_le, members_all}
use Rattle.board.specs.declared.Position.{Position}
use Rattle.board.specs.Board.{count, digit, value_at, board_of, OnBoard}
use Rattle.board.proofs.Sides.{length_board, board_at_lem}
use Rattle.board.proofs.OneToOne.{mover_count, opponent_count, vacant_bits}
use Rattle.inserting.specs.Inner.Inserting.{Vacant, put_stone}

-- what a position has at a point, by its digits
value_is : (p : Position) (q x y : ℕ) → bit p.mover q ≡ x → bit p.opponent q ≡ y → value_at p q ≡ digit (eqb x 1) + 2 * digit (eqb y 1)
unfolding value_at
value_is p q x y d e = ap₂ (λ (i j : ℕ). digit (eqb i 1) + 2 * digit (eqb j 1)) d e

value_of : (p : Position) (q : ℕ) → value_at p q ≡ digit (eqb (bit p.mover q) 1) + 2 * digit (eqb (bit p.opponent q) 1)
value_of p q = value_is p q (bit p.mover q) (bit p.opponent q) refl refl

-- each side's stones are the digits of its set that are 1
module _ (points : ℕ) (few : points ≤ 24) (p : Position) (w : OnBoard points p) where
  fits : (s : ℕ) → s < 2 ^ points → s < 2 ^ 32
  fits s h = lt_of_lt_of_le h (pow_mono {i = points} {j = 32} (omega arith))

  pub mover_ones : count 1 (board_of points p) ≡ ones p.mover
  mover_ones = sym (mover_count points p w few) ∙ members_all p.mover 32 (fits p.mover w.mover_within)

  pub opponent_ones : count 2 (board_of points p) ≡ ones p.opponent
  opponent_ones = sym (opponent_count points p w few) ∙ members_all p.opponent 32 (fits p.opponent w.opponent_within)

-- two positions that differ at one point only
abbrev Elsewhere : Position → Position → ℕ → Type 0
Elsewhere p p' q = (r : ℕ) → (r ≡ q → ⊥) → (bit p'.mover r ≡ bit p.mover r) × (bit p'.opponent r ≡ bit p.opponent r)

module _ (points : ℕ) (p : Position) (w : OnBoard points p) (q : ℕ) (low : q < points) where
  stored : (p' : Position) (v : ℕ) → value_at p' q ≡ v → Elsewhere p p' q → board_of points p' ≡ set (board_of points p) q v
  stored p' v here there =
      ext_get_or 0 (board_of points p') (set (board_of points p) q v) (length_board points p' ∙ sym whole)
      (λ r l. at r (subst (λ (n : ℕ). r < n) (length_board points p') l) (eqb r q) refl)
    where
      whole : length (set (board_of points p) q v) ≡ points
      whole = length-set (board_of points p) q v ∙ length_board points p

      at : (r : ℕ) → r < points → (b : Bool) → eqb r q ≡ b → get_or (board_of points p') r 0 ≡ get_or (set (board_of points p) q v) r 0
      at r l true e =
          let same = eqb-true r q e in
          board_at_lem points p' r l ∙ ap (value_at p') same ∙ here
          ∙ sym (ap (λ (k : ℕ). get_or (set (board_of points p) q v) k 0) same
          ∙ get_or-set_same (board_of points p) q v 0 (subst (λ (n : ℕ). q < n) (sym (length_board points p)) low))
      at r l false e =
          let other = eqb-false r q e in
          board_at_lem points p' r l ∙ value_is p' r (bit p.mover r) (bit p.opponent r) (there r other).0 (there r other).1
          ∙ sym (get_or-set_other (board_of points p) q r v 0 other ∙ board_at_lem points p r l ∙ value_of p r)

  on : (p' : Position) → p'.mover < 2 ^ points → p'.opponent < 2 ^ points → bit p'.mover q + bit p'.opponent q ≤ 1 → Elsewhere p p' q
      → OnBoard points p'
  on p' m o here there = record { mover_within = m; opponent_within = o; apart = λ r l. at r l (eqb r q) refl }
    where
      at : (r : ℕ) → r < points → (b : Bool) → eqb r q ≡ b → bit p'.mover r + bit p'.opponent r ≤ 1
      at r l true e = subst (λ (k : ℕ). bit p'.mover k + bit p'.opponent k ≤ 1) (sym (eqb-true r q e)) here
      at r l false e = let t = there r (eqb-false r q e) in omega (arith, t.0, t.1, w.apart r l)

  -- one of the mover's stones put on a point
  module _ (none : bit p.opponent q ≡ 0) where
    abbrev pub put_mover : Position
    put_mover = record { mover = with p.mover q; opponent = p.opponent }

    mover_elsewhere : Elsewhere p put_mover q
    mover_elsewhere r n = (bit_with_other p.mover q r n, refl)

    pub put_mover_on : OnBoard points put_mover
    put_mover_on =
        on put_mover (with_lt points p.mover q w.mover_within low) w.opponent_within
        (omega (arith, bit_with_same p.mover q, none)) mover_elsewhere

    pub put_mover_board : board_of points put_mover ≡ set (board_of points p) q 1
    put_mover_board = stored put_mover 1 (value_is put_mover q 1 0 (bit_with_same p.mover q) none) mover_elsewhere

    -- or taken off it
    abbrev pub take_mover : Position
    take_mover = record { mover = without p.mover q; opponent = p.opponent }

    taken_elsewhere : Elsewhere p take_mover q
    taken_elsewhere r n = (bit_without_other p.mover q r n, refl)

    pub take_mover_on : OnBoard points take_mover
    take_mover_on =
        on take_mover (omega (arith, without_le p.mover q, w.mover_within)) w.opponent_within
        (omega (arith, bit_without_same p.mover q, none)) taken_elsewhere

    pub take_mover_board : board_of points take_mover ≡ set (board_of points p) q 0
    take_mover_board = stored take_mover 0 (value_is take_mover q 0 0 (bit_without_same p.mover q) none) taken_elsewhere

  -- one of the opponent's stones put on a point
  module _ (free : bit p.mover q ≡ 0) where
    abbrev pub put_opponent : Position
    put_opponent = record { mover = p.mover; opponent = with p.opponent q }

    opponent_elsewhere : Elsewhere p put_opponent q
    opponent_elsewhere r n = (refl, bit_with_other p.opponent q r n)

    pub put_opponent_on : OnBoard points put_opponent
    put_opponent_on =
        on put_opponent w.mover_within (with_lt points p.opponent q w.opponent_within low)
        (omega (arith, bit_with_same p.opponent q, free)) opponent_elsewhere

    pub put_opponent_board : board_of points put_opponent ≡ set (board_of points p) q 2
    put_opponent_board = stored put_opponent 2 (value_is put_opponent q 0 1 free (bit_with_same p.opponent q)) opponent_elsewhere

-- one of either side's, by what the board has there
module _ (points : ℕ) (p : Position) (w : OnBoard points p) (q : ℕ) (v : Vacant (board_of points p) q) where
  pub vacant_low : q < points
  vacant_low = subst (λ (n : ℕ). q < n) (length_board points p) v.low

  empty : (bit p.mover q ≡ 0) × (bit p.opponent q ≡ 0)
  empty = vacant_bits points p w q vacant_low v.empty

  pub put_stone_on : (x : Bool) → OnBoard points (put_stone x p q)
  put_stone_on true = put_opponent_on points p w q vacant_low empty.0
  put_stone_on false = put_mover_on points p w q vacant_low empty.1

  pub put_stone_board : (x : Bool) → board_of points (put_stone x p q) ≡ set (board_of points p) q (suc (digit x))
  put_stone_board true = put_opponent_board points p w q vacant_low empty.0
  put_stone_board false = put_mover_board points p w q vacant_low empty.1
