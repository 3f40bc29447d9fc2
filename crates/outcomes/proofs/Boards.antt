-- The place of a board: it is the place of its rank in the table of its counts, and so lies within the tablebase. Assumes nothing.
use mathlib.Core.Path.{◌≡◌, refl, ap₂, subst}
use mathlib.Core.List.{List}
use Prim.Native.Nat.{ℕ, ◌+◌, ◌*◌, ◌<◌}
use lib.ListN.{length, get_or}
use Rattle.board.specs.Board.{Values, count}
use Rattle.sizes.specs.Size.{size}
use Rattle.ranking.specs.Rank.{rank}
use Rattle.ranking.proofs.Inverse.{rank_low}
use Rattle.layout.specs.Layout.{start, tablebase_length}
use Rattle.layout.proofs.OneToOne.{IsTable, PlaceOf, place_low}
use Rattle.outcomes.specs.Places.{place_of, entry_at}

-- b is a board of the tables of largest count k
pub record InTables (rings k : ℕ) (b : List ℕ) : Type 0 where
  pub points : length b ≡ 8 * rings
  pub values : Values b
  pub is_table : IsTable (8 * rings) k (count 1 b) (count 2 b)

module _ (rings k : ℕ) (b : List ℕ) where
  pub place_of_lem : InTables rings k b → PlaceOf (8 * rings) k (count 1 b) (count 2 b) (rank b) (place_of rings k b)
  unfolding place_of
  place_of_lem w = record {
    is_table = w.is_table;
    rank_low = subst (λ (n : ℕ). rank b < size n (count 1 b) (count 2 b)) w.points (rank_low b w.values);
    at = refl;
  }

  pub place_within : InTables rings k b → place_of rings k b < tablebase_length (8 * rings) k
  place_within w = place_low (8 * rings) k (place_of_lem w)

  -- the entry is read there
  pub entry_read : (tablebase : List ℕ) → get_or tablebase (place_of rings k b) 0 ≡ entry_at rings k tablebase b
  unfolding entry_at
  entry_read tablebase = refl

  -- the place by where the table starts and by the rank
  pub place_sum : (s r : ℕ) → s ≡ start (8 * rings) k (count 1 b) (count 2 b) → r ≡ rank b → s + r ≡ place_of rings k b
  unfolding place_of
  place_sum s r e f = ap₂ ◌+◌ e f
