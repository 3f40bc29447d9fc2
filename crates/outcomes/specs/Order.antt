-- Pairs filled in order: rows m = 3, 4, .., and in a row o = 3, .., m, so that the lower tables of a pair are done before it. What it is
-- for tables to hold true entries, and for a tablebase to be filled pair by pair. Assumes nothing.
use Rattle.std.specs.Prelude.{◌≡◌, true, false, List, ℕ, ◌+◌, ◌*◌, ◌≤◌, ◌<◌, get_or}
use Rattle.sizes.specs.Size.{size}
use Rattle.ranking.specs.Unrank.{unrank}
use Rattle.layout.specs.Layout.{start}
use Rattle.rules.specs.Ply.{Rule, successors}
use Rattle.game.specs.Game.{ended}
use Rattle.outcomes.specs.Whole.{whole_seed, TrueEntry}
use Rattle.outcomes.specs.Pair.{Pair, pair_seed}
use Rattle.outcomes.specs.Filled.{AllTables, BothTables, Filled}

-- the tables of T hold, at the place of each rank, the true entry of the position of that rank
abbrev pub TrueEntries : Rule → ℕ → ℕ → (ℕ → ℕ → Type 0) → List ℕ → Type 0
TrueEntries rule rings k T tablebase = (x y r : ℕ) → T x y → r < size (8 * rings) x y
    → TrueEntry rule rings (unrank (8 * rings) x y r) (get_or tablebase (start (8 * rings) k x y + r) 0)

-- some position of the whole tablebase has a forced end beyond the limit
pub record Beyond (rule : Rule) (rings k limit : ℕ) : Type 0 where
  pub mover : ℕ
  pub opponent : ℕ
  pub rank : ℕ
  pub in_table : AllTables rings k mover opponent
  pub rank_low : rank < size (8 * rings) mover opponent
  pub plies : ℕ
  pub forced : ended (successors rule rings) (λ c. whole_seed c) plies (unrank (8 * rings) mover opponent rank) ≡ true
  pub beyond : ended (successors rule rings) (λ c. whole_seed c) limit (unrank (8 * rings) mover opponent rank) ≡ false

-- a tablebase filled pair by pair, pair (m, o) being next: it begins as any tablebase, each pair is filled over the entries so far with a limit of its
-- own, and a pair whose stones do not fit the points has no position to fill
pub data InOrder (rule : Rule) (rings k : ℕ) : ℕ → ℕ → List ℕ → Type 0 where
  at_first : (tablebase : List ℕ) → InOrder rule rings k 3 3 tablebase
  one_pair : (m o limit : ℕ) (before after : List ℕ) → Pair rings k m o → o ≤ m → InOrder rule rings k m o before
      → Filled rule rings k limit (BothTables m o) (λ b. pair_seed rings k m o before b) before after → InOrder rule rings k m (o + 1) after
  no_room : (m o : ℕ) (tablebase : List ℕ) → 8 * rings < m + o → InOrder rule rings k m o tablebase → InOrder rule rings k m (o + 1) tablebase
  next_row : (m : ℕ) (tablebase : List ℕ) → InOrder rule rings k m (m + 1) tablebase → InOrder rule rings k (m + 1) 3 tablebase
