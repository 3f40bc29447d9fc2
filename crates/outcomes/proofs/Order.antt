-- A tablebase filled pair by pair in order is the tablebase that a whole fill leaves: each pair finds its lower tables done, and after the last row
-- every table is done. Assumes nothing.
use mathlib.Core.Path.{◌≡◌, ◌∙◌}
use mathlib.Core.List.{List}
use mathlib.Core.Logic.{◌⊎◌, inl, inr}
use Prim.Native.Nat.{ℕ, ◌+◌, ◌*◌, ◌≤◌, ◌<◌}
use native.Mathlib.Decide.{ℕ_discrete}
use native.Mathlib.Omega.{arith}
use lib.ListN.{length}
use Rattle.sizes.specs.Size.{size}
use Rattle.sizes.proofs.Multinomials.{size_over}
use Rattle.layout.specs.Layout.{tablebase_length}
use Rattle.layout.proofs.OneToOne.{InRange, listed_table}
use Rattle.rules.specs.Ply.{Rule}
use Rattle.rules.proofs.Listed.{TakesOpponent}
use Rattle.game.specs.Game.{void_entry}
use Rattle.outcomes.specs.Whole.{whole_seed}
use Rattle.outcomes.specs.Pair.{Pair, pair_seed, LowerTables}
use Rattle.outcomes.specs.Filled.{AllTables, BothTables, Filled, TooDeep}
use Rattle.outcomes.specs.Order.{TrueEntries, Beyond, InOrder, at_first, one_pair, no_room, next_row}
use Rattle.outcomes.specs.Inner.Done.{TrueOn, DoneBefore, rows, mine, yours}
use Rattle.outcomes.proofs.PairTrue.{LowerTrue}
use Rattle.outcomes.proofs.TrueTables.{true_fewer, filled_limit, true_more, deep_beyond}
use Rattle.outcomes.proofs.Unique.{entries_one}

-- nothing is before the first pair
before_none : (x y : ℕ) → DoneBefore 3 3 x y → ⊥
before_none x y (rows a b c d) = omega arith
before_none x y (mine a b c) = omega arith
before_none x y (yours a b c) = omega arith

-- a pair is before the next of its row
before_more : (m o x y : ℕ) → DoneBefore m (o + 1) x y → DoneBefore m o x y ⊎ BothTables m o x y
before_more m o x y (rows a b c d) = inl (rows a b c d)
before_more m o x y (mine a b c) = go (ℕ_discrete y o)
  where
    go : Dec (y ≡ o) → DoneBefore m o x y ⊎ BothTables m o x y
    go (yes q) = inr (inl (a, q))
    go (no q) = inl (mine a b (omega (arith, q)))
before_more m o x y (yours a b c) = go (ℕ_discrete x o)
  where
    go : Dec (x ≡ o) → DoneBefore m o x y ⊎ BothTables m o x y
    go (yes q) = inr (inr (q, c))
    go (no q) = inl (yours a (omega (arith, q)) c)

-- a row ends with the pair (m, m)
before_row : (m x y : ℕ) → DoneBefore (m + 1) 3 x y → DoneBefore m (m + 1) x y
before_row m x y (rows a b c d) = go (ℕ_discrete x m) (ℕ_discrete y m)
  where
    go : Dec (x ≡ m) → Dec (y ≡ m) → DoneBefore m (m + 1) x y
    go (yes p) q = mine p c d
    go (no p) (yes q) = yours a b q
    go (no p) (no q) = rows a (omega (arith, p)) c (omega (arith, q))
before_row m x y (mine a b c) = absurd (omega arith)
before_row m x y (yours a b c) = absurd (omega arith)

-- after row k every table is done
before_all : (rings k m x y : ℕ) → k < m → AllTables rings k x y → DoneBefore m 3 x y
before_all rings k m x y l t =
    let w = listed_table (8 * rings) k x y t in
    rows w.mover_low (omega (arith, w.mover_high)) w.opponent_low (omega (arith, w.opponent_high))

module _ (rule : Rule) (takes : TakesOpponent rule) (rings k m o : ℕ) (pair : Pair rings k m o) (order : o ≤ m) where
  -- the tables before a pair are in range, and its lower tables are among them
  before_range : (x y : ℕ) → DoneBefore m o x y → InRange k x y
  before_range x y (rows a b c d) = record {
    mover_low = a;
    mover_high = omega (arith, pair.mover_high);
    opponent_low = c;
    opponent_high = omega (arith, pair.mover_high);
  }
  before_range x y (mine a b c) = record {
    mover_low = omega (arith, pair.mover_low);
    mover_high = omega (arith, pair.mover_high);
    opponent_low = b;
    opponent_high = omega (arith, pair.opponent_high);
  }
  before_range x y (yours a b c) = record {
    mover_low = a;
    mover_high = omega (arith, pair.opponent_high);
    opponent_low = omega (arith, pair.mover_low);
    opponent_high = omega (arith, pair.mover_high);
  }

  before_lower : (x y : ℕ) → LowerTables m o x y → DoneBefore m o x y
  before_lower x y (l, inl q) = yours l (omega (arith, q)) q.1
  before_lower x y (l, inr q) = go (ℕ_discrete o m)
    where
      go : Dec (o ≡ m) → DoneBefore m o x y
      go (yes e) = yours l (omega (arith, q)) (q.1 ∙ e)
      go (no e) = rows l (omega (arith, q)) (omega (arith, q, pair.opponent_low)) (omega (arith, q, e))

  module _ (limit : ℕ) (before after : List ℕ) (done : TrueOn rule rings k limit (DoneBefore m o) before) where
    -- the lower tables are done
    pub done_lower : LowerTrue rule rings k m o before
    done_lower x y r t = done.entries x y r (before_lower x y t)

    pub done_pair : Filled rule rings k limit (BothTables m o) (λ b. pair_seed rings k m o before b) before after
        → TrueOn rule rings k limit (DoneBefore m (o + 1)) after
    done_pair f =
        true_fewer rule rings k limit (λ x y. DoneBefore m o x y ⊎ BothTables m o x y) (DoneBefore m (o + 1)) after (before_more m o)
        (true_more rule takes rings k m o pair limit (DoneBefore m o) before after before_range before_lower done f)

    pub deep_whole : TooDeep rule rings k limit (BothTables m o) (λ b. pair_seed rings k m o before b) before after → Beyond rule rings k limit
    deep_whole = deep_beyond rule takes rings k m o pair limit before after done_lower

module _ (rule : Rule) (rings k limit : ℕ) (tablebase : List ℕ) where
  pub done_first : TrueOn rule rings k limit (DoneBefore 3 3) tablebase
  done_first = record { entries = λ x y r t. absurd (before_none x y t); within = λ x y r t. absurd (before_none x y t) }

  -- a pair whose stones do not fit the points has no position
  done_unfit : (m o : ℕ) → 8 * rings < m + o → TrueOn rule rings k limit (DoneBefore m o) tablebase
      → TrueOn rule rings k limit (DoneBefore m (o + 1)) tablebase
  done_unfit m o l w = record {
    entries = λ x y r t h. w.entries x y r (old x y r h (before_more m o x y t)) h;
    within = λ x y r t h. w.within x y r (old x y r h (before_more m o x y t)) h;
  }
    where
      old : (x y r : ℕ) → r < size (8 * rings) x y → DoneBefore m o x y ⊎ BothTables m o x y → DoneBefore m o x y
      old x y r h (inl b) = b
      old x y r h (inr (inl q)) = absurd (omega (arith, size_over (8 * rings) x y (omega (arith, q))))
      old x y r h (inr (inr q)) = absurd (omega (arith, size_over (8 * rings) x y (omega (arith, q))))

  pub done_row : (m : ℕ) → TrueOn rule rings k limit (DoneBefore m (m + 1)) tablebase → TrueOn rule rings k limit (DoneBefore (m + 1) 3) tablebase
  done_row m = true_fewer rule rings k limit (DoneBefore m (m + 1)) (DoneBefore (m + 1) 3) tablebase (before_row m)

  pub done_all : (m : ℕ) → k < m → TrueOn rule rings k limit (DoneBefore m 3) tablebase → TrueOn rule rings k limit (AllTables rings k) tablebase
  done_all m l = true_fewer rule rings k limit (DoneBefore m 3) (AllTables rings k) tablebase (λ x y. before_all rings k m x y l)

module _ (rule : Rule) (takes : TakesOpponent rule) (rings k : ℕ) where
  in_order_true : (m o : ℕ) (tablebase : List ℕ) → InOrder rule rings k m o tablebase → TrueOn rule rings k void_entry (DoneBefore m o) tablebase
  in_order_true m o tablebase (at_first t) = done_first rule rings k void_entry t
  in_order_true m o tablebase (one_pair n p limit before after pair order w f) =
      done_pair rule takes rings k n p pair order void_entry before after (in_order_true n p before w)
      (filled_limit rule rings k limit (BothTables n p) (λ b. pair_seed rings k n p before b) before after f)
  in_order_true m o tablebase (no_room n p t l w) = done_unfit rule rings k void_entry t n p l (in_order_true n p t w)
  in_order_true m o tablebase (next_row n t w) = done_row rule rings k void_entry t n (in_order_true n (n + 1) t w)

  -- after the last row every entry of every table is true
  pub in_order_whole : (tablebase : List ℕ) → InOrder rule rings k (k + 1) 3 tablebase → TrueEntries rule rings k (AllTables rings k) tablebase
  in_order_whole tablebase w = (done_all rule rings k void_entry tablebase (k + 1) (omega arith) (in_order_true (k + 1) 3 tablebase w)).entries

  -- and the tablebase is the one that a whole fill leaves
  pub in_order_one : (limit : ℕ) (a b b' : List ℕ) → InOrder rule rings k (k + 1) 3 a → length a ≡ tablebase_length (8 * rings) k
      → length b ≡ tablebase_length (8 * rings) k → Filled rule rings k limit (AllTables rings k) (λ c. whole_seed c) b b' → a ≡ b'
  in_order_one limit a b b' w n n' f =
      entries_one rule rings k (λ c. whole_seed c) a b' n (f.kept.same_length ∙ n') (in_order_whole a w) f.entries
