-- The symmetries are maps of a pair's game where its lower tables have one entry for all images of a position. Assumes nothing.
use mathlib.Core.Path.{◌≡◌, refl, sym, ap, ap₂, subst₂, ◌∙◌}
use mathlib.Core.List.{List}
use Prim.Native.Nat.{ℕ, ◌+◌, ◌*◌, ◌≤◌, ◌<◌}
use native.Mathlib.Omega.{arith}
use lib.ListN.{length, get_or}
use Rattle.board.specs.Board.{count}
use Rattle.ranking.specs.Rank.{rank}
use Rattle.layout.specs.Layout.{start}
use Rattle.rules.specs.Ply.{Rule, successors}
use Rattle.rules.proofs.Listed.{TakesOpponent}
use Rattle.outcomes.specs.Places.{entry_at}
use Rattle.outcomes.specs.Pair.{Pair, in_pair, given, pair_seed, LowerTables}
use Rattle.outcomes.specs.Filled.{BothTables}
use Rattle.outcomes.proofs.Ranked.{InTable, rank_in, unrank_of}
use Rattle.outcomes.proofs.PairGame.{Counts, OnPair, InPair, in_pair_lem, PairReached, of_pair, two_left, below, reached, seed_in, seed_two, seed_given}
use Rattle.outcomes.proofs.Entries.{entry_rank}
use Rattle.symmetry.specs.Symmetries.{symmetries, image}
use Rattle.symmetry.proofs.Group.{compose, inverse}
use Rattle.symmetry.proofs.Images.{image_zero, image_length, image_values}
use Rattle.symmetry.proofs.Compose.{image_compose, image_back, image_count}
use Rattle.game.proofs.Maps.{Maps}
use Rattle.invariance.specs.Symmetric.{LowerSymmetric}
use Rattle.invariance.proofs.Groups.{Group}
use Rattle.invariance.proofs.Plies.{successors_image, image_successors, Commutes}

module _ (rings : ℕ) (few : rings ≤ 3) (g : ℕ) (h : g < symmetries) where
  -- the image of a board of a table is of that table
  pub image_table : (x y : ℕ) (b : List ℕ) → InTable rings x y b → InTable rings x y (image rings g b)
  image_table x y b w = record {
    values = image_values rings g b w.values;
    points = image_length rings g b ∙ w.points;
    mover = image_count rings few b w.points g 1 h ∙ w.mover;
    opponent = image_count rings few b w.points g 2 h ∙ w.opponent;
  }

  pub image_on : (m o : ℕ) (b : List ℕ) → OnPair rings m o b → OnPair rings m o (image rings g b)
  image_on m o b w = record {
    values = image_values rings g b w.values;
    points = image_length rings g b ∙ w.points;
    counts =
        subst₂ (λ (x y : ℕ). Counts m o x y) (sym (image_count rings few b w.points g 1 h)) (sym (image_count rings few b w.points g 2 h)) w.counts;
  }

  pub image_own : (m o : ℕ) (b : List ℕ) → InPair rings m o b → InPair rings m o (image rings g b)
  image_own m o b w = record {
    values = image_values rings g b w.values;
    points = image_length rings g b ∙ w.points;
    counts =
        subst₂ (λ (x y : ℕ). BothTables m o x y) (sym (image_count rings few b w.points g 1 h)) (sym (image_count rings few b w.points g 2 h))
        w.counts;
  }

  pub image_pair : (m o : ℕ) (b : List ℕ) → length b ≡ 8 * rings → in_pair m o (image rings g b) ≡ in_pair m o b
  unfolding in_pair
  image_pair m o b points = rw (image_count rings few b points g 1 h, image_count rings few b points g 2 h)

module _ (rule : Rule) (takes : TakesOpponent rule) (commutes : Commutes rule) (rings k m o : ℕ) (pair : Pair rings k m o) (maps : ℕ) (w : Group maps)
    (before : List ℕ) (symmetric : LowerSymmetric maps rings k m o before) where
  -- a board of a lower table
  lower_symmetric : (g : ℕ) → g < maps → (b : List ℕ) → OnPair rings m o b → LowerTables m o (count 1 b) (count 2 b)
      → entry_at rings k before (image rings g b) ≡ entry_at rings k before b
  lower_symmetric g l b s t =
      let h : g < symmetries = omega (arith, w.high) in
      let i : InTable rings (count 1 b) (count 2 b) b = record { values = s.values; points = s.points; mover = refl; opponent = refl } in
      sym (entry_rank rings k before (image rings g b))
      ∙ ap₂ (λ (x y : ℕ). get_or before (start (8 * rings) k x y + rank (image rings g b)) 0)
      (image_count rings pair.small b s.points g 1 h) (image_count rings pair.small b s.points g 2 h)
      ∙ ap (λ (c : List ℕ). get_or before (start (8 * rings) k (count 1 b) (count 2 b) + rank (image rings g c)) 0)
      (sym (unrank_of rings (count 1 b) (count 2 b) b i))
      ∙ symmetric (count 1 b) (count 2 b) t (rank b) g (rank_in rings (count 1 b) (count 2 b) b i) l
      ∙ entry_rank rings k before b

  seed_image : (g : ℕ) → g < maps → (b : List ℕ) → OnPair rings m o b → pair_seed rings k m o before (image rings g b) ≡ pair_seed rings k m o before b
  seed_image g l b s = go (reached b s)
    where
      h : g < symmetries
      h = omega (arith, w.high)

      same : in_pair m o (image rings g b) ≡ in_pair m o b
      same = image_pair rings pair.small g h m o b s.points

      stones : count 1 (image rings g b) ≡ count 1 b
      stones = image_count rings pair.small b s.points g 1 h

      go : PairReached rings m o b → pair_seed rings k m o before (image rings g b) ≡ pair_seed rings k m o before b
      go (of_pair i) = seed_in rings k m o before (image rings g b) (same ∙ in_pair_lem i) ∙ sym (seed_in rings k m o before b (in_pair_lem i))
      go (two_left f n) =
          seed_two rings k m o before (image rings g b) (same ∙ f) (omega (arith, stones)) ∙ sym (seed_two rings k m o before b f n)
      go (below f t) =
          seed_given rings k m o before (image rings g b) (same ∙ f) (omega (arith, stones, t.0))
          ∙ ap given (lower_symmetric g l b s t) ∙ sym (seed_given rings k m o before b f t.0)

  pub pair_maps : Maps (successors rule rings) (λ b. pair_seed rings k m o before b) (OnPair rings m o) maps (λ g b. image rings g b)
  pair_maps = record {
    within = λ g l b s. image_on rings pair.small g (omega (arith, w.high)) m o b s;
    seeds = λ g l b s. seed_image g l b s;
    forth = λ g l b s e c n. image_successors rule takes commutes rings pair.small g (omega (arith, w.high)) b s.points c n;
    back = λ g l b s e c n. successors_image rule takes commutes rings pair.small g (omega (arith, w.high)) b s.points c n;
    stays = λ b s. (0, w.low, image_zero rings b);
    undone = λ g l b s. (inverse g, w.inverts g l, image_back rings pair.small b s.points g (omega (arith, w.high)));
    composed = λ g h l n b s. (
      compose g h,
      w.composes g h l n,
      image_compose rings pair.small b s.points g h (omega (arith, w.high)) (omega (arith, w.high)),
    );
  }
