-- Over a tablebase whose lower tables hold the true entries, the game of a pair is the whole game on the pair: a pair's fill leaves true entries, and
-- a forced end beyond the limit is one of the whole game. Assumes nothing.
use mathlib.Core.Path.{◌≡◌, sym, ◌∙◌}
use mathlib.Core.Bool.{false}
use mathlib.Core.List.{List}
use mathlib.Core.Logic.{inl, inr}
use Prim.Native.Nat.{ℕ, ◌+◌, ◌*◌, ◌≤◌, ◌<◌}
use native.Mathlib.Omega.{arith}
use lib.ListN.{get_or}
use Rattle.board.specs.Board.{count}
use Rattle.sizes.specs.Size.{size}
use Rattle.ranking.specs.Unrank.{unrank}
use Rattle.layout.specs.Layout.{start}
use Rattle.rules.specs.Ply.{Rule, successors}
use Rattle.rules.proofs.Listed.{TakesOpponent}
use Rattle.game.specs.Game.{Entry, Seed, ended}
use Rattle.game.proofs.Compose.{Faithful, both_live, true_depth, true_draw, same_seed, same_ended, entry_back}
use Rattle.outcomes.specs.Places.{entry_at}
use Rattle.outcomes.specs.Whole.{whole_seed, TrueEntry}
use Rattle.outcomes.specs.Pair.{Pair, in_pair, pair_seed, LowerTables, LowerValid}
use Rattle.outcomes.specs.Filled.{BothTables, Filled, TooDeep}
use Rattle.outcomes.specs.Order.{TrueEntries}
use Rattle.outcomes.proofs.Ranked.{unrank_in}
use Rattle.outcomes.proofs.PairGame.{OnPair, on_pair, pair_table, PairReached, of_pair, two_left, below, reached}
use Rattle.outcomes.proofs.PairGame.{given_draw, given_ends, seed_two, seed_given, stands, three_own}
use Rattle.outcomes.proofs.WholeGame.{whole_two, whole_live, table_true}
use Rattle.outcomes.proofs.PairLevels.{Valid, pair_live, pair_ground}

-- the lower tables hold the true entries
abbrev pub LowerTrue : Rule → ℕ → ℕ → ℕ → ℕ → List ℕ → Type 0
LowerTrue rule rings k m o tablebase = TrueEntries rule rings k (LowerTables m o) tablebase

-- a true entry is not void
entry_valid : (rule : Rule) → (rings : ℕ) (b : List ℕ) (e : ℕ) → TrueEntry rule rings b e → Valid e
entry_valid rule rings b e (inl a) = inl a.0
entry_valid rule rings b e (inr a) = inr a.0

pub lower_valid : (rule : Rule) → (rings k m o : ℕ) (tablebase : List ℕ) → LowerTrue rule rings k m o tablebase → LowerValid rings k m o tablebase
lower_valid rule rings k m o tablebase low x y r t h =
    entry_valid rule rings (unrank (8 * rings) x y r) (get_or tablebase (start (8 * rings) k x y + r) 0) (low x y r t h)

module _ (rule : Rule) (takes : TakesOpponent rule) (rings k m o : ℕ) (pair : Pair rings k m o) (before : List ℕ)
    (low : LowerTrue rule rings k m o before) where
  valid : LowerValid rings k m o before
  valid = lower_valid rule rings k m o before low

  abbrev seed : List ℕ → Seed
  seed b = pair_seed rings k m o before b

  -- a board of a lower table has its true entry
  entry_true : (b : List ℕ) → OnPair rings m o b → LowerTables m o (count 1 b) (count 2 b) → TrueEntry rule rings b (entry_at rings k before b)
  entry_true b s t = table_true rule rings k (LowerTables m o) before low b (stands rings k m o pair b s t.0) t

  -- what the pair's game is given is true
  faithful : (b : List ℕ) → OnPair rings m o b → Faithful (successors rule rings) (λ c. whole_seed c) (λ c. seed c) b
  faithful b s = go (reached b s)
    where
      lower_true : in_pair m o b ≡ false → 3 ≤ count 1 b → TrueEntry rule rings b (entry_at rings k before b)
          → Faithful (successors rule rings) (λ c. whole_seed c) (λ c. seed c) b
      lower_true f l (inl a) =
          true_depth (entry_at rings k before b) (seed_given rings k m o before b f l ∙ given_ends (entry_at rings k before b) (λ q. omega (arith, a.0))) a.1
      lower_true f l (inr a) = true_draw (seed_given rings k m o before b f l ∙ given_draw (entry_at rings k before b) a.0) a.1

      go : PairReached rings m o b → Faithful (successors rule rings) (λ c. whole_seed c) (λ c. seed c) b
      go (of_pair i) = both_live (whole_live b (three_own rings k m o pair b i)) (pair_live rings k m o pair before valid b i)
      go (two_left f l) = same_seed (successors rule rings) (λ c. whole_seed c) (λ c. seed c) b
          (seed_two rings k m o before b f l ∙ sym (whole_two b l))
      go (below f t) = lower_true f t.0 (entry_true b s t)

  -- so both games end within the same n
  ended_same : (n : ℕ) (b : List ℕ) → OnPair rings m o b → ended (successors rule rings) (λ c. whole_seed c) n b
      ≡ ended (successors rule rings) (λ c. seed c) n b
  ended_same = same_ended (successors rule rings) (λ c. whole_seed c) (λ c. seed c) (OnPair rings m o)
      (pair_ground rule takes rings k m o pair before valid).closed faithful

  entry_same : (b : List ℕ) (e : ℕ) → OnPair rings m o b → Entry (successors rule rings) (λ c. seed c) b e → TrueEntry rule rings b e
  entry_same = entry_back (successors rule rings) (λ c. whole_seed c) (λ c. seed c) (OnPair rings m o)
      (pair_ground rule takes rings k m o pair before valid).closed faithful

  ranked : (x y r : ℕ) → BothTables m o x y → r < size (8 * rings) x y → OnPair rings m o (unrank (8 * rings) x y r)
  ranked x y r t h = on_pair (pair_table t (unrank_in rings x y r h))

  module _ (limit : ℕ) (after : List ℕ) where
    pub filled_true : Filled rule rings k limit (BothTables m o) (λ b. pair_seed rings k m o before b) before after
        → Filled rule rings k limit (BothTables m o) (λ b. whole_seed b) before after
    filled_true f = record {
      kept = f.kept;
      entries = λ x y r t h.
          entry_same (unrank (8 * rings) x y r) (get_or after (start (8 * rings) k x y + r) 0) (ranked x y r t h) (f.entries x y r t h);
      within = λ x y r t h n e.
          let b = unrank (8 * rings) x y r in
          let s = ranked x y r t h in
          ended_same limit b s ∙ f.within x y r t h n (sym (ended_same n b s) ∙ e);
    }

    pub deep_true : TooDeep rule rings k limit (BothTables m o) (λ b. pair_seed rings k m o before b) before after
        → TooDeep rule rings k limit (BothTables m o) (λ b. whole_seed b) before after
    deep_true d =
        let b = unrank (8 * rings) d.mover d.opponent d.rank in
        let s = ranked d.mover d.opponent d.rank d.in_table d.rank_low in
        record {
          kept = d.kept;
          void = d.void;
          mover = d.mover;
          opponent = d.opponent;
          rank = d.rank;
          in_table = d.in_table;
          rank_low = d.rank_low;
          plies = d.plies;
          forced = ended_same d.plies b s ∙ d.forced;
          beyond = ended_same limit b s ∙ d.beyond;
        }
