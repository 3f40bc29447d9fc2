-- A position that stands in a tablebase: its board is one of the tables, so its table lies within the tablebase. Assumes nothing.
use mathlib.Core.Path.{◌≡◌, refl, ap, ◌∙◌}
use mathlib.Core.List.{List}
use Prim.Native.Nat.{ℕ, ◌+◌, ◌*◌, ◌≤◌}
use native.Mathlib.Omega.{arith}
use lib.ListN.{get_or}
use Rattle.board.specs.declared.Position.{Position}
use Rattle.board.specs.Board.{Values, board_of, count}
use Rattle.board.proofs.Counts.{count_all}
use Rattle.board.proofs.Sides.{length_board, board_values}
use Rattle.sizes.specs.Size.{size}
use Rattle.ranking.specs.Rank.{rank}
use Rattle.layout.specs.Layout.{start}
use Rattle.layout.proofs.OneToOne.{end_is, end_within, in_range}
use Rattle.outcomes.specs.Places.{entry_at}
use Rattle.outcomes.proofs.Boards.{InTables, place_sum, entry_read}
use Rattle.entries.specs.Inner.Whole.{InTablebase}

module _ {n : ℕ} (rings k : ℕ) (p : Position) (w : InTablebase n rings k p) where
  abbrev board : List ℕ
  board = board_of (8 * rings) p

  pub in_tables : InTables rings k board
  in_tables =
      let v : Values board = board_values (8 * rings) p w.placed.on in
      record {
        points = length_board (8 * rings) p;
        values = v;
        is_table = record {
          mover_low = w.mover_low;
          mover_high = w.mover_high;
          opponent_low = w.opponent_low;
          opponent_high = w.opponent_high;
          stones_fit = omega (arith, count_all board v, length_board (8 * rings) p);
        };
      }

  -- the table of its counts
  pub table_room : (s : ℕ) → s ≡ start (8 * rings) k (count 1 board) (count 2 board) → s + size (8 * rings) (count 1 board) (count 2 board) ≤ n
  table_room s e =
      let m = count 1 board in
      let o = count 2 board in
      omega (arith, w.exact, end_is (8 * rings) k m o, end_within (8 * rings) k (in_range {points = 8 * rings} in_tables.is_table))

  -- what stands there at its rank is its entry
  pub entry_there : (tablebase : List ℕ) (s : ℕ) → s ≡ start (8 * rings) k (count 1 board) (count 2 board)
      → get_or tablebase (s + rank board) 0 ≡ entry_at rings k tablebase board
  entry_there tablebase s e =
      ap (λ (i : ℕ). get_or tablebase i 0) (place_sum rings k board s (rank board) e refl) ∙ entry_read rings k board tablebase
