-- What the solver of a pair answers, past the last level: every entry is true, or one look finds a position whose forced end lies beyond the limit.
-- Assumes nothing.
use mathlib.Core.Path.{◌≡◌, refl, sym, ap, ap₂, subst, ◌∙◌}
use mathlib.Core.Bool.{Bool, true, false, ◌&&◌}
use mathlib.Core.List.{List}
use mathlib.Core.Logic.{◌⊎◌, inl, inr}
use Prim.Native.Nat.{ℕ, ◌*◌, ◌≤◌, ◌<◌}
use native.Mathlib.Omega.{arith}
use lib.Dec.{eqb}
use lib.ListN.{length}
use borrow.Author.Tests.{eqb-true, eq-eqb}
use Rattle.lists.proofs.Tests.{clash, and_left, and_right}
use Rattle.sizes.specs.Size.{size}
use Rattle.ranking.specs.Unrank.{unrank}
use Rattle.rules.specs.Ply.{Rule, successors}
use Rattle.rules.proofs.Listed.{TakesOpponent}
use Rattle.game.specs.Game.{Seed, draw_entry, void_entry, ended, Entry}
use Rattle.game.specs.Judgement.{decided}
use Rattle.game.proofs.Least.{mono_le}
use Rattle.game.proofs.Within.{ended_mono}
use Rattle.game.proofs.Levels.{beyond, settled}
use Rattle.outcomes.specs.Places.{entry_at, successor_entry}
use Rattle.outcomes.specs.Pair.{pair_seed, LowerValid}
use Rattle.outcomes.specs.Filled.{BothTables, Kept, Filled, TooDeep}
use Rattle.outcomes.proofs.Ranked.{unrank_in}
use Rattle.outcomes.proofs.PairGame.{OnPair, InPair, on_pair, pair_table}
use Rattle.outcomes.proofs.Entries.{entry_unrank, kept_then}
use Rattle.outcomes.proofs.PairLevels.{pair_live, live_pair, pair_ground, pair_entry}
use Rattle.tables.specs.declared.Table.{Table}
use Rattle.deciding.specs.Inner.Open.{open_decided}
use Rattle.levels.proofs.Sides.{Side, decided_is}
use Rattle.pairs.specs.Inner.Pairs.{PairFound, pair_filled}
use Rattle.filling.specs.Inner.Solve.{Setting}
use Rattle.filling.proofs.PairTables.{first_side, second_side, pair_kept, pair_filled_lem}
use Rattle.filling.proofs.States.{State, Rank, in_first, in_second, rank_of}
use Rattle.filling.proofs.NextLevel.{setting_now}

-- some position of the tables of T has a forced end beyond the limit
pub record Deep (rule : Rule) (rings k limit : ℕ) (T : ℕ → ℕ → Type 0) (seed : List ℕ → Seed) : Type 0 where
  pub mover : ℕ
  pub opponent : ℕ
  pub rank : ℕ
  pub in_table : T mover opponent
  pub rank_low : rank < size (8 * rings) mover opponent
  pub plies : ℕ
  pub forced : ended (successors rule rings) seed plies (unrank (8 * rings) mover opponent rank) ≡ true
  pub beyond : ended (successors rule rings) seed limit (unrank (8 * rings) mover opponent rank) ≡ false

-- then both tables are left void
pub voided : (rule : Rule) → (rings k m o : ℕ) (a b : Table) (before now after : List ℕ) → Setting (length before) rings k m o a b
    → Kept rings k (BothTables m o) before now
    → (limit : ℕ) (seed : List ℕ → Seed) → Deep rule rings k limit (BothTables m o) seed → after ≡ pair_filled a b void_entry now
    → TooDeep rule rings k limit (BothTables m o) seed before after
voided rule rings k m o a b before now after s kept limit seed d e = subst (TooDeep rule rings k limit (BothTables m o) seed before) (sym e) record {
  kept = kept_then rings k (BothTables m o) before now (pair_filled a b void_entry now) kept (pair_kept rings k m o a b now here void_entry);
  void = λ x y r t l. sym (entry_unrank rings k x y r (pair_filled a b void_entry now) l)
      ∙ pair_filled_lem rings k m o a b now here void_entry (unrank (8 * rings) x y r) (pair_table t (unrank_in rings x y r l));
  mover = d.mover;
  opponent = d.opponent;
  rank = d.rank;
  in_table = d.in_table;
  rank_low = d.rank_low;
  plies = d.plies;
  forced = d.forced;
  beyond = d.beyond;
}
  where
    here : Setting (length now) rings k m o a b
    here = setting_now (length now) kept.same_length s

module _ (rule : Rule) (takes : TakesOpponent rule) (rings k m o : ℕ) (a b : Table) (before : List ℕ) (s : Setting (length before) rings k m o a b)
    (valid : LowerValid rings k m o before)
    (limit level : ℕ) (now : List ℕ) (st : State rule takes rings k m o a b before s valid limit level now) where
  -- a position of the pair, by its table and its rank
  board_in_lem : (x y r : ℕ) → BothTables m o x y → r < size (8 * rings) x y → InPair rings m o (unrank (8 * rings) x y r)
  board_in_lem x y r t h = pair_table t (unrank_in rings x y r h)

  first_size : size (8 * rings) a.mover a.opponent ≡ size (8 * rings) m o
  first_size = ap₂ (size (8 * rings)) s.first.mover_is s.first.opponent_is

  second_size : size (8 * rings) b.mover b.opponent ≡ size (8 * rings) o m
  second_size = ap₂ (size (8 * rings)) s.second.mover_is s.second.opponent_is

  -- every entry is true
  pub all_true : ((c : List ℕ) → OnPair rings m o c → Entry (successors rule rings) (λ x. pair_seed rings k m o before x) c
      (successor_entry rings k now c))
      → Filled rule rings k limit (BothTables m o) (λ x. pair_seed rings k m o before x) before now
  all_true entry = record {
    kept = st.kept;
    entries = λ x y r t h. subst (λ (e : ℕ). Entry (successors rule rings) (λ c. pair_seed rings k m o before c) (unrank (8 * rings) x y r) e)
        (entry_unrank rings k x y r now h) (own (unrank (8 * rings) x y r) (board_in_lem x y r t h));
    within = λ x y r t h n e. let i = board_in_lem x y r t h in in_time (unrank (8 * rings) x y r) n e (own (unrank (8 * rings) x y r) i)
        (st.most (unrank (8 * rings) x y r) i);
  }
    where
      own : (c : List ℕ) → InPair rings m o c → Entry (successors rule rings) (λ x. pair_seed rings k m o before x) c (entry_at rings k now c)
      own c i = subst (λ (e : ℕ). Entry (successors rule rings) (λ x. pair_seed rings k m o before x) c e)
          (pair_entry rings k m o s.pair before valid now c i)
          (entry c (on_pair i))

      in_time : (c : List ℕ) (n : ℕ) → ended (successors rule rings) (λ x. pair_seed rings k m o before x) n c ≡ true
          → Entry (successors rule rings) (λ x. pair_seed rings k m o before x) c (entry_at rings k now c) → (entry_at rings k now c ≤ limit) ⊎
          (entry_at rings k now c ≡ draw_entry)
          → ended (successors rule rings) (λ x. pair_seed rings k m o before x) limit c ≡ true
      in_time c n e (inl d) (inl l) = mono_le _ (ended_mono (successors rule rings) (λ x. pair_seed rings k m o before x) c) l d.1.holds
      in_time c n e (inl d) (inr q) = absurd (omega (arith, d.0))
      in_time c n e (inr d) l = clash e (d.1 n)

  module _ (past : limit < level) (low : level ≤ void_entry) where
    -- a look at a position of the pair
    look : (x y r : ℕ) (t : Table) (same : ℕ) → Side rings k m o x y t same → r < size (8 * rings) x y
        → open_decided rule rings t same now r ≡ (eqb (entry_at rings k now (unrank (8 * rings) x y r)) draw_entry
        && decided (successors rule rings) (λ c. successor_entry rings k now c) (unrank (8 * rings) x y r))
    look x y r t same side h = decided_is rule takes rings k m o s.pair x y t same side r h now

    -- it finds none: every entry is true
    pub nothing_decided : PairFound rule rings a b now false → Filled rule rings k limit (BothTables m o)
        (λ x. pair_seed rings k m o before x) before now
    nothing_decided f = all_true (settled (successors rule rings) (λ x. pair_seed rings k m o before x) (OnPair rings m o)
        (pair_ground rule takes rings k m o s.pair before valid)
        level low (λ c. successor_entry rings k now c) st.exact (λ c i e v. undecided c (live_pair rings k m o s.pair before valid c i e) v))
      where
        at : (x y r : ℕ) (t : Table) (same : ℕ) → Side rings k m o x y t same → r < size (8 * rings) x y → open_decided rule rings t same now r ≡ false
            → entry_at rings k now (unrank (8 * rings) x y r) ≡ draw_entry → decided (successors rule rings) (λ c. successor_entry rings k now c)
            (unrank (8 * rings) x y r) ≡ false
        at x y r t same side h g v =
            sym (ap (λ (e : Bool). e && decided (successors rule rings) (λ c. successor_entry rings k now c) (unrank (8 * rings) x y r))
            (eq-eqb (entry_at rings k now (unrank (8 * rings) x y r)) draw_entry v)) ∙ sym (look x y r t same side h) ∙ g

        undecided : (c : List ℕ) → InPair rings m o c → successor_entry rings k now c ≡ draw_entry
            → decided (successors rule rings) (λ x. successor_entry rings k now x)
            c ≡ false
        undecided c i v = go (rank_of rings k m o a b before s valid c i)
          where
            open_c : entry_at rings k now c ≡ draw_entry
            open_c = sym (pair_entry rings k m o s.pair before valid now c i) ∙ v

            go : Rank rings k m o a b before s valid c → decided (successors rule rings) (λ x. successor_entry rings k now x) c ≡ false
            go (in_first r h q) = subst (λ (x : List ℕ). decided (successors rule rings) (λ y. successor_entry rings k now y) x ≡ false) (sym q)
                (at m o r a b.own.start (first_side s) h (f.0 r (subst (λ (n : ℕ). r < n) (sym first_size) h))
                (ap (entry_at rings k now) (sym q) ∙ open_c))
            go (in_second r h q) = subst (λ (x : List ℕ). decided (successors rule rings) (λ y. successor_entry rings k now y) x ≡ false) (sym q)
                (at o m r b a.own.start (second_side s) h (f.1 r (subst (λ (n : ℕ). r < n) (sym second_size) h))
                (ap (entry_at rings k now) (sym q) ∙ open_c))

    -- it finds one: that position has a forced end beyond the limit
    pub one_decided : PairFound rule rings a b now true → Deep rule rings k limit (BothTables m o) (λ x. pair_seed rings k m o before x)
    one_decided f = go f
      where
        at : (x y r : ℕ) (t : Table) (same : ℕ) → Side rings k m o x y t same → BothTables m o x y → r < size (8 * rings) x y
            → open_decided rule rings t same now r ≡ true → Deep rule rings k limit (BothTables m o) (λ c. pair_seed rings k m o before c)
        at x y r t same side both h g =
            let c = unrank (8 * rings) x y r in
            let i = board_in_lem x y r both h in
            let d = sym (look x y r t same side h) ∙ g in
            let v = eqb-true (entry_at rings k now c) draw_entry (and_left _ _ d) in
            let far = beyond (successors rule rings) (λ z. pair_seed rings k m o before z) (OnPair rings m o)
            (pair_ground rule takes rings k m o s.pair before valid) level low
            (λ z. successor_entry rings k now z) st.exact c (on_pair i) (pair_live rings k m o s.pair before valid c i)
            (pair_entry rings k m o s.pair before valid now c i ∙ v) (and_right (eqb (entry_at rings k now c) draw_entry) _ d) in
            record {
              mover = x;
              opponent = y;
              rank = r;
              in_table = both;
              rank_low = h;
              plies = far.0.0;
              forced = far.0.1;
              beyond = far.1 limit past;
            }

        go : PairFound rule rings a b now true → Deep rule rings k limit (BothTables m o) (λ c. pair_seed rings k m o before c)
        go (inl (r, h, g)) = at m o r a b.own.start (first_side s) (inl (refl, refl)) (subst (λ (n : ℕ). r < n) first_size h) g
        go (inr (r, h, g)) = at o m r b a.own.start (second_side s) (inr (refl, refl)) (subst (λ (n : ℕ). r < n) second_size h) g
