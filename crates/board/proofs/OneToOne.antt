-- Boards of so many points and their positions are one-to-one, and a position's sets count its stones: with `board-position`, the two ways
-- between bytes and sets undo each other. Assumes nothing.
use mathlib.Core.Path.{◌≡◌, sym, ap, ◌∙◌, subst}
use Prim.Native.Nat.{ℕ, ◌+◌, ◌^◌, ◌≤◌, ◌<◌}
use native.Mathlib.Omega.{arith}
use lib.Dec.{eqb}
use lib.ListN.{get_or}
use Rattle.sets.specs.Sets.{bit, members}
use Rattle.sets.proofs.Laws.{same_set}
use Rattle.sets.proofs.Elements.{bit_low}
use Rattle.board.specs.declared.Position.{Position}
use Rattle.board.specs.Board.{count, digit, set_of, position_of, value_at, board_of, OnBoard}
use Rattle.board.proofs.Sides.{set_lt, bit_set, members_count, length_board, board_at_lem, said, board_values}
use Rattle.board.proofs.Stores.{three_sets}

module _ (points : ℕ) (p : Position) (w : OnBoard points p) where
  -- the set of the board's points that hold v is a side, if its digits say so
  side : (v s : ℕ) → s < 2 ^ points → ((q : ℕ) → q < points → digit (eqb (value_at p q) v) ≡ bit s q) → set_of v (board_of points p) ≡ s
  side v s l h =
      same_set points (set_of v (board_of points p)) s (subst (λ (n : ℕ). set_of v (board_of points p) < 2 ^ n) (length_board points p)
      (set_lt v (board_of points p))) l
      (λ q m. bit_set v (board_of points p) q (subst (λ (n : ℕ). q < n) (sym (length_board points p)) m)
      ∙ ap (λ (x : ℕ). digit (eqb x v)) (board_at_lem points p q m) ∙ h q m)

  pub mover_set_lem : set_of 1 (board_of points p) ≡ p.mover
  unfolding value_at
  mover_set_lem = side 1 p.mover w.mover_within (λ q m. (said (bit p.mover q) (bit p.opponent q) (w.apart q m)).mover)

  pub opponent_set : set_of 2 (board_of points p) ≡ p.opponent
  unfolding value_at
  opponent_set = side 2 p.opponent w.opponent_within (λ q m. (said (bit p.mover q) (bit p.opponent q) (w.apart q m)).opponent)

  -- a position is that of its board
  pub position_board : position_of (board_of points p) ≡ p
  unfolding position_of
  position_board = rw (mover_set_lem, opponent_set)

  -- and has as many stones
  pub mover_count : points ≤ 24 → members p.mover 32 ≡ count 1 (board_of points p)
  mover_count h = ap (λ (s : ℕ). members s 32) (sym mover_set_lem) ∙ members_count 1 (board_of points p) (omega (arith, length_board points p))

  pub opponent_count : points ≤ 24 → members p.opponent 32 ≡ count 2 (board_of points p)
  opponent_count h = ap (λ (s : ℕ). members s 32) (sym opponent_set) ∙ members_count 2 (board_of points p) (omega (arith, length_board points p))

  -- and leaves the other points vacant
  pub vacant_sum : set_of 0 (board_of points p) + p.mover + p.opponent + 1 ≡ 2 ^ points
  vacant_sum =
      let e = three_sets (board_of points p) (board_values points p w) in
      omega (arith, e, mover_set_lem, opponent_set, ap (λ (n : ℕ). 2 ^ n) (length_board points p))

  -- what stands at a point, by the digits of the two sets
  pub mover_at : (q : ℕ) → bit p.mover q ≡ 1 → (q < points) × (get_or (board_of points p) q 0 ≡ 1)
  unfolding value_at
  mover_at q m =
      let l = bit_low points p.mover q w.mover_within m in
      let z : bit p.opponent q ≡ 0 = omega (arith, w.apart q l, m) in
      (l, board_at_lem points p q l ∙ rw (m, z))

  pub vacant_at : (q : ℕ) → q < points → bit p.mover q ≡ 0 → bit p.opponent q ≡ 0 → get_or (board_of points p) q 0 ≡ 0
  unfolding value_at
  vacant_at q l m o = board_at_lem points p q l ∙ rw (m, o)

  pub vacant_bits : (q : ℕ) → q < points → get_or (board_of points p) q 0 ≡ 0 → (bit p.mover q ≡ 0) × (bit p.opponent q ≡ 0)
  vacant_bits q l e =
      let h = subst (λ (n : ℕ). q < n) (sym (length_board points p)) l in (
        ap (λ (s : ℕ). bit s q) (sym mover_set_lem) ∙ bit_set 1 (board_of points p) q h ∙ ap (λ (x : ℕ). digit (eqb x 1)) e,
        ap (λ (s : ℕ). bit s q) (sym opponent_set) ∙ bit_set 2 (board_of points p) q h ∙ ap (λ (x : ℕ). digit (eqb x 2)) e,
      )

  pub mover_bit : (q : ℕ) → q < points → get_or (board_of points p) q 0 ≡ 1 → bit p.mover q ≡ 1
  mover_bit q l e =
      ap (λ (s : ℕ). bit s q) (sym mover_set_lem) ∙ bit_set 1 (board_of points p) q (subst (λ (n : ℕ). q < n) (sym (length_board points p)) l)
      ∙ ap (λ (x : ℕ). digit (eqb x 1)) e
