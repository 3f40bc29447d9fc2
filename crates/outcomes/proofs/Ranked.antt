-- Boards of a tablebase and its places: the board of a rank stands at that rank's place in its table, each board of the tablebase at a place of
-- its own. Assumes nothing.
use mathlib.Core.Path.{◌≡◌, refl, sym, ap, subst, subst₂, ◌∙◌}
use mathlib.Core.List.{List}
use Prim.Native.Nat.{ℕ, ◌+◌, ◌*◌, ◌<◌}
use lib.ListN.{length}
use Rattle.board.specs.Board.{Values, count}
use Rattle.sizes.specs.Size.{size}
use Rattle.sizes.proofs.Multinomials.{stones_few}
use Rattle.ranking.specs.Rank.{rank}
use Rattle.ranking.specs.Unrank.{unrank}
use Rattle.ranking.proofs.Inverse.{rank_unrank, unrank_rank, rank_one, rank_low}
use Rattle.layout.specs.Layout.{start}
use Rattle.layout.proofs.OneToOne.{InRange, PlaceOf, place_one}
use Rattle.outcomes.specs.Places.{place_of}
use Rattle.outcomes.proofs.Boards.{InTables, place_of_lem}

-- a board of table (x, y)
pub record InTable (rings x y : ℕ) (b : List ℕ) : Type 0 where
  pub values : Values b
  pub points : length b ≡ 8 * rings
  pub mover : count 1 b ≡ x
  pub opponent : count 2 b ≡ y

pub unrank_in : (rings x y r : ℕ) → r < size (8 * rings) x y → InTable rings x y (unrank (8 * rings) x y r)
unrank_in rings x y r h = let w = rank_unrank (8 * rings) x y r h in
    record { values = w.values; points = w.points; mover = w.mover; opponent = w.opponent }

-- the place of a board, by its table and its rank
pub place_at : (rings k x y : ℕ) (b : List ℕ) → InTable rings x y b → place_of rings k b ≡ start (8 * rings) k x y + rank b
unfolding place_of
place_at rings k x y b w = rw (w.mover, w.opponent)

pub place_unrank : (rings k x y r : ℕ) → r < size (8 * rings) x y → place_of rings k (unrank (8 * rings) x y r) ≡ start (8 * rings) k x y + r
place_unrank rings k x y r h =
    place_at rings k x y (unrank (8 * rings) x y r) (unrank_in rings x y r h)
    ∙ ap (λ (s : ℕ). start (8 * rings) k x y + s) (rank_unrank (8 * rings) x y r h).rank_is

module _ (rings x y : ℕ) (b : List ℕ) (w : InTable rings x y b) where
  pub rank_in : rank b < size (8 * rings) x y
  rank_in = rw (w.points, w.mover, w.opponent) at (rank_low b w.values)

  pub unrank_of : unrank (8 * rings) x y (rank b) ≡ b
  unrank_of = rw (w.points, w.mover, w.opponent) at (unrank_rank b w.values)

-- a board's counts make a table where they are in range
pub in_tables : (rings k : ℕ) (b : List ℕ) → Values b → length b ≡ 8 * rings → InRange k (count 1 b) (count 2 b) → InTables rings k b
in_tables rings k b v e r = record {
  points = e;
  values = v;
  is_table = record {
    mover_low = r.mover_low;
    mover_high = r.mover_high;
    opponent_low = r.opponent_low;
    opponent_high = r.opponent_high;
    stones_fit = stones_few (8 * rings) (count 1 b) (count 2 b) (rank b)
        (rank_in rings (count 1 b) (count 2 b) b record { values = v; points = e; mover = refl; opponent = refl });
  };
}

pub unrank_stands : (rings k x y r : ℕ) → InRange k x y → r < size (8 * rings) x y → InTables rings k (unrank (8 * rings) x y r)
unrank_stands rings k x y r w h =
    let i = unrank_in rings x y r h in
    in_tables rings k (unrank (8 * rings) x y r) i.values i.points (subst₂ (λ (a b : ℕ). InRange k a b) (sym i.mover) (sym i.opponent) w)

module _ (rings k : ℕ) where
  pub own_table : (b : List ℕ) → InTables rings k b → InTable rings (count 1 b) (count 2 b) b
  own_table b s = record { values = s.values; points = s.points; mover = refl; opponent = refl }

  -- two boards of a tablebase at one place are one board
  pub one_board : (b c : List ℕ) → InTables rings k b → InTables rings k c → place_of rings k b ≡ place_of rings k c → b ≡ c
  one_board b c s t e =
      let q = place_one (8 * rings) k (place_of_lem rings k b s) (subst (PlaceOf (8 * rings) k (count 1 c) (count 2 c) (rank c)) (sym e) (place_of_lem rings k c t)) in
      rank_one b c s.values t.values (s.points ∙ sym t.points) q.0 q.1 q.2
