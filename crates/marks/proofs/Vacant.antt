-- A vacant point is vacant on the board, and a table's room by other names. Assumes nothing.
use mathlib.Core.Path.{◌≡◌, sym, ap₂, subst, ◌∙◌}
use Prim.Native.Nat.{ℕ, ◌+◌, ◌*◌, ◌≤◌, ◌<◌}
use Rattle.board.specs.declared.Position.{Position}
use Rattle.board.specs.Board.{board_of}
use Rattle.board.proofs.Sides.{length_board}
use Rattle.board.proofs.OneToOne.{vacant_at}
use Rattle.sizes.specs.Size.{size}
use Rattle.inserting.specs.Inner.Inserting.{Vacant}
use Rattle.plies.specs.Inner.Positions.{Placed}
use Rattle.marks.specs.Inner.Putting.{VacantAt, Room}

-- a vacant point of the board
pub vacant_board : (rings : ℕ) (position : Position) → Placed rings position → (p : ℕ) → VacantAt rings position p
    → Vacant (board_of (8 * rings) position) p
vacant_board rings position placed p v = record {
  low = subst (λ (n : ℕ). p < n) (sym (length_board (8 * rings) position)) v.low;
  empty = vacant_at (8 * rings) position placed.on p v.low v.free v.none;
}

-- a table's room, by other names of its counts and of the places
pub room_same : {points m o start end places m' o' places' : ℕ} → Room points m o start end places → m ≡ m' → o ≡ o' → places ≡ places'
    → Room points m' o' start end places'
room_same {points} {m} {o} {start} {end} w e f g = record {
  whole = w.whole ∙ ap₂ (λ (x y : ℕ). start + size points x y) e f;
  within = subst (λ (n : ℕ). end ≤ n) g w.within;
}
