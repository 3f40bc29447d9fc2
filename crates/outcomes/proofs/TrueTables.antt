-- Tables that hold true entries: one more pair, where its lower tables are among them; fewer tables; all of them, which is a whole fill; and a pair
-- too deep, which is a whole fill too deep. Assumes nothing.
use mathlib.Core.Path.{◌≡◌, refl, sym, subst, subst₂, ◌∙◌}
use mathlib.Core.Bool.{Bool, true, false}
use mathlib.Core.List.{List}
use mathlib.Core.Logic.{◌⊎◌, inl, inr}
use Prim.Native.Nat.{ℕ, ◌+◌, ◌*◌, ◌<◌}
use native.Mathlib.Omega.{arith}
use lib.Dec.{ltb}
use lib.ListN.{length, get_or, get_or-eq_default}
use borrow.Author.Tests.{ltb-true, ltb-false}
use Rattle.sizes.specs.Size.{size}
use Rattle.ranking.specs.Unrank.{unrank}
use Rattle.layout.specs.Layout.{start, tablebase_length}
use Rattle.layout.proofs.OneToOne.{InRange, IsTable, place_found, place_low, table_listed, listed_table}
use Rattle.rules.specs.Ply.{Rule, successors}
use Rattle.rules.proofs.Listed.{TakesOpponent}
use Rattle.game.specs.Game.{Seed, void_entry}
use Rattle.game.proofs.Entries.{entry_ended}
use Rattle.outcomes.specs.Whole.{whole_seed, TrueEntry}
use Rattle.outcomes.specs.Pair.{Pair, pair_seed, LowerTables}
use Rattle.outcomes.specs.Filled.{AllTables, BothTables, Kept, Filled, TooDeep}
use Rattle.outcomes.specs.Order.{Beyond}
use Rattle.outcomes.specs.Inner.Done.{WithinLimit, TrueOn}
use Rattle.outcomes.proofs.Ranked.{unrank_in, unrank_stands}
use Rattle.outcomes.proofs.PairGame.{both_or_not}
use Rattle.outcomes.proofs.Entries.{entry_unrank, kept_standing, pair_stands}
use Rattle.outcomes.proofs.PairTrue.{LowerTrue, filled_true, deep_true}

pub true_fewer : (rule : Rule) → (rings k limit : ℕ) (T T' : ℕ → ℕ → Type 0) (tablebase : List ℕ) → ((x y : ℕ) → T' x y → T x y)
    → TrueOn rule rings k limit T tablebase → TrueOn rule rings k limit T' tablebase
true_fewer rule rings k limit T T' tablebase of w = record {
  entries = λ x y r t. w.entries x y r (of x y t);
  within = λ x y r t. w.within x y r (of x y t);
}

-- an entry states a depth below void: so what is filled is filled whatever the limit was
pub filled_limit : (rule : Rule) → (rings k limit : ℕ) (T : ℕ → ℕ → Type 0) (seed : List ℕ → Seed) (before after : List ℕ)
    → Filled rule rings k limit T seed before after
    → Filled rule rings k void_entry T seed before after
filled_limit rule rings k limit T seed before after f = record {
  kept = f.kept;
  entries = f.entries;
  within = λ x y r t h. entry_ended (successors rule rings) seed (unrank (8 * rings) x y r) (f.entries x y r t h);
}

module _ (rule : Rule) (takes : TakesOpponent rule) (rings k m o : ℕ) (pair : Pair rings k m o) where
  -- a table that is not of the pair keeps its entries
  kept_entry : (before after : List ℕ) → Kept rings k (BothTables m o) before after → (x y r : ℕ) → InRange k x y → r < size (8 * rings) x y
      → (BothTables m o x y → ⊥) → get_or before (start (8 * rings) k x y + r) 0 ≡ get_or after (start (8 * rings) k x y + r) 0
  kept_entry before after w x y r i h out =
      let b = unrank (8 * rings) x y r in
      let c = unrank_in rings x y r h in
      sym (entry_unrank rings k x y r before h)
      ∙ sym (kept_standing rings k (BothTables m o) before after w (pair_stands rings k m o pair) b (unrank_stands rings k x y r i h)
      (λ t. out (subst₂ (λ (p q : ℕ). BothTables m o p q) c.mover c.opponent t)))
      ∙ entry_unrank rings k x y r after h

  pub true_more : (limit : ℕ) (T : ℕ → ℕ → Type 0) (before after : List ℕ) → ((x y : ℕ) → T x y → InRange k x y)
      → ((x y : ℕ) → LowerTables m o x y → T x y) → TrueOn rule rings k limit T before
      → Filled rule rings k limit (BothTables m o) (λ b. pair_seed rings k m o before b) before after
      → TrueOn rule rings k limit (λ x y. T x y ⊎ BothTables m o x y) after
  true_more limit T before after range lower w f = record {
    entries = λ x y r t h. entry x y r t h (both_or_not m o x y);
    within = bound;
  }
    where
      g : Filled rule rings k limit (BothTables m o) (λ b. whole_seed b) before after
      g = filled_true rule takes rings k m o pair before (λ x y r t. w.entries x y r (lower x y t)) limit after f

      entry : (x y r : ℕ) → T x y ⊎ BothTables m o x y → r < size (8 * rings) x y → BothTables m o x y ⊎ (BothTables m o x y → ⊥)
          → TrueEntry rule rings (unrank (8 * rings) x y r) (get_or after (start (8 * rings) k x y + r) 0)
      entry x y r t h (inl b) = g.entries x y r b h
      entry x y r (inr b) h (inr out) = absurd (out b)
      entry x y r (inl t) h (inr out) =
          subst (λ (e : ℕ). TrueEntry rule rings (unrank (8 * rings) x y r) e)
          (kept_entry before after f.kept x y r (range x y t) h out) (w.entries x y r t h)

      bound : WithinLimit rule rings limit (λ x y. T x y ⊎ BothTables m o x y)
      bound x y r (inl t) = w.within x y r t
      bound x y r (inr b) = g.within x y r b

  -- a forced end beyond the limit in the pair's game is one in the whole tablebase
  pub deep_beyond : (limit : ℕ) (before after : List ℕ) → LowerTrue rule rings k m o before
      → TooDeep rule rings k limit (BothTables m o) (λ b. pair_seed rings k m o before b) before after → Beyond rule rings k limit
  deep_beyond limit before after low d =
      let e = deep_true rule takes rings k m o pair before low limit after d in
      record {
        mover = e.mover;
        opponent = e.opponent;
        rank = e.rank;
        in_table = listed e.mover e.opponent e.rank e.in_table e.rank_low;
        rank_low = e.rank_low;
        plies = e.plies;
        forced = e.forced;
        beyond = e.beyond;
      }
    where
      listed : (x y r : ℕ) → BothTables m o x y → r < size (8 * rings) x y → AllTables rings k x y
      listed x y r t h =
          let c = unrank_in rings x y r h in
          table_listed (8 * rings) k x y
          (subst₂ (λ (p q : ℕ). IsTable (8 * rings) k p q) c.mover c.opponent (pair_stands rings k m o pair x y r t h).is_table)

-- every place is of some table, so a fill of all tables may change each
kept_all : (rings k : ℕ) (before after : List ℕ) → length before ≡ tablebase_length (8 * rings) k → length after ≡ length before
    → Kept rings k (AllTables rings k) before after
kept_all rings k before after n e = record { same_length = e; rest = λ j none. at j none (ltb j (tablebase_length (8 * rings) k)) refl }
  where
    at : (j : ℕ) → ((x y r : ℕ) → AllTables rings k x y → r < size (8 * rings) x y → start (8 * rings) k x y + r ≡ j → ⊥)
        → (b : Bool) → ltb j (tablebase_length (8 * rings) k) ≡ b → get_or after j 0 ≡ get_or before j 0
    at j none true f =
        let p = place_found (8 * rings) k j (ltb-true j (tablebase_length (8 * rings) k) f) in
        let w = p.place in
        absurd (none p.mover p.opponent p.rank (table_listed (8 * rings) k p.mover p.opponent w.is_table) w.rank_low w.at)
    at j none false f =
        let l = ltb-false j (tablebase_length (8 * rings) k) f in
        get_or-eq_default after 0 (omega arith) ∙ sym (get_or-eq_default before 0 (omega arith))

module _ (rule : Rule) (rings k limit : ℕ) (before after : List ℕ) (room : length before ≡ tablebase_length (8 * rings) k)
    (same : length after ≡ length before) where
  pub true_whole : TrueOn rule rings k limit (AllTables rings k) after → Filled rule rings k limit (AllTables rings k) (λ b. whole_seed b) before after
  true_whole w = record { kept = kept_all rings k before after room same; entries = w.entries; within = w.within }

  pub deep_void : Beyond rule rings k limit → ((j : ℕ) → j < length after → get_or after j 0 ≡ void_entry)
      → TooDeep rule rings k limit (AllTables rings k) (λ b. whole_seed b) before after
  deep_void d void = record {
    kept = kept_all rings k before after room same;
    void = λ x y r t h. void (start (8 * rings) k x y + r) (low x y r t h);
    mover = d.mover;
    opponent = d.opponent;
    rank = d.rank;
    in_table = d.in_table;
    rank_low = d.rank_low;
    plies = d.plies;
    forced = d.forced;
    beyond = d.beyond;
  }
    where
      low : (x y r : ℕ) → AllTables rings k x y → r < size (8 * rings) x y → start (8 * rings) k x y + r < length after
      low x y r t h =
          let l = place_low (8 * rings) k record { is_table = listed_table (8 * rings) k x y t; rank_low = h; at = refl } in
          omega (arith, l)
