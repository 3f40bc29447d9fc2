-- The levels of a pair's solver: what holds before each level, that a sweep and the step to the next level keep it, and what the solver answers in
-- the end. Assumes nothing.
use mathlib.Core.Path.{◌≡◌, refl, sym, subst, ◌∙◌}
use mathlib.Core.Bool.{Bool, true, false}
use mathlib.Core.List.{List}
use mathlib.Core.Logic.{◌⊎◌, inl, inr}
use Prim.Native.Nat.{ℕ, suc, ◌*◌, ◌≤◌, ◌<◌}
use native.Mathlib.Omega.{arith}
use lib.Dec.{eqb}
use lib.ListN.{length}
use borrow.Author.Tests.{eqb-true}
use Rattle.board.specs.Board.{count}
use Rattle.sizes.specs.Size.{size}
use Rattle.ranking.specs.Rank.{rank}
use Rattle.ranking.specs.Unrank.{unrank}
use Rattle.rules.specs.Ply.{Rule, successors}
use Rattle.rules.proofs.Listed.{TakesOpponent}
use Rattle.game.specs.Game.{live, draw_entry, void_entry, Depth, Entry}
use Rattle.game.proofs.Depths.{NotBefore, before_or_not}
use Rattle.game.proofs.Levels.{Exact, exact_start, level_start, level_done}
use Rattle.outcomes.specs.Places.{entry_at, successor_entry}
use Rattle.outcomes.specs.Pair.{pair_seed, LowerValid}
use Rattle.outcomes.specs.Filled.{BothTables, Kept}
use Rattle.outcomes.proofs.Ranked.{InTable, unrank_of, rank_in}
use Rattle.outcomes.proofs.PairGame.{OnPair, InPair, on_pair}
use Rattle.outcomes.proofs.Entries.{kept_then}
use Rattle.outcomes.proofs.PairLevels.{Amid, pair_live, live_pair, pair_ground, pair_seeded, pair_entry}
use Rattle.tables.specs.declared.Table.{Table}
use Rattle.ending.specs.Inner.Blocked.{blocked_first}
use Rattle.levels.proofs.LevelZero.{blocked_kept, blocked_table}
use Rattle.levels.proofs.Sides.{Side, sizes}
use Rattle.pairs.specs.Inner.Pairs.{pair_filled}
use Rattle.filling.specs.Inner.Solve.{Setting}
use Rattle.filling.proofs.PairTables.{pair_kept, pair_filled_lem}

module _ (rings k m o : ℕ) (a b : Table) (before : List ℕ) (s : Setting (length before) rings k m o a b) (valid : LowerValid rings k m o before) where
  -- a board of the pair is the board of a rank of one of its tables
  pub data Rank (c : List ℕ) : Type 0 where
    in_first : (r : ℕ) → r < size (8 * rings) m o → c ≡ unrank (8 * rings) m o r → Rank c
    in_second : (r : ℕ) → r < size (8 * rings) o m → c ≡ unrank (8 * rings) o m r → Rank c

  pub rank_of : (c : List ℕ) → InPair rings m o c → Rank c
  rank_of c i = go i.counts
    where
      whose : (x y : ℕ) → count 1 c ≡ x → count 2 c ≡ y → InTable rings x y c
      whose x y e f = record { values = i.values; points = i.points; mover = e; opponent = f }

      go : BothTables m o (count 1 c) (count 2 c) → Rank c
      go (inl q) = let w = whose m o q.0 q.1 in in_first (rank c) (rank_in rings m o c w) (sym (unrank_of rings m o c w))
      go (inr q) = let w = whose o m q.0 q.1 in in_second (rank c) (rank_in rings o m c w) (sym (unrank_of rings o m c w))

module _ (rule : Rule) (takes : TakesOpponent rule) (rings k m o : ℕ) (a b : Table) (before : List ℕ) (s : Setting (length before) rings k m o a b)
    (valid : LowerValid rings k m o before) where
  -- every position of the pair has its depth if that is below the level, and is open otherwise
  abbrev pub ExactBelow : ℕ → List ℕ → Type 0
  ExactBelow level now = Exact (successors rule rings) (λ c. pair_seed rings k m o before c)
      (OnPair rings m o) (λ c. successor_entry rings k now c) level

  -- before a level; past the last that can write anything, every entry is true
  pub record State (limit level : ℕ) (now : List ℕ) : Type 0 where
    pub kept : Kept rings k (BothTables m o) before now
    pub exact : ExactBelow level now
    pub most : (c : List ℕ) → InPair rings m o c → (entry_at rings k now c ≤ limit) ⊎ (entry_at rings k now c ≡ draw_entry)
    pub over : void_entry < level → (c : List ℕ) → OnPair rings m o c
        → Entry (successors rule rings) (λ x. pair_seed rings k m o before x) c (successor_entry rings k now c)

  -- the tables opened
  pub state_start : (limit : ℕ) → State limit 0 (pair_filled a b draw_entry before)
  state_start limit = record {
    kept = w;
    exact = exact_start (successors rule rings) (λ c. pair_seed rings k m o before c) (OnPair rings m o) (λ c. successor_entry rings k opened c)
        (pair_seeded rule takes rings k m o s.pair before valid opened w)
        (λ c i e. blank c (live_pair rings k m o s.pair before valid c i e));
    most = λ c i. inr (pair_filled_lem rings k m o a b before s draw_entry c i);
    over = λ l. absurd (omega arith);
  }
    where
      opened : List ℕ
      opened = pair_filled a b draw_entry before

      w : Kept rings k (BothTables m o) before opened
      w = pair_kept rings k m o a b before s draw_entry

      blank : (c : List ℕ) → InPair rings m o c → successor_entry rings k opened c ≡ draw_entry
      blank c i = pair_entry rings k m o s.pair before valid opened c i ∙ pair_filled_lem rings k m o a b before s draw_entry c i

  -- an exact table holds depths below the level, and draws
  pub exact_most : (level limit : ℕ) (now : List ℕ) → level ≤ suc limit → level ≤ void_entry → ExactBelow level now
      → (c : List ℕ) → InPair rings m o c → (entry_at rings k now c ≤ limit) ⊎ (entry_at rings k now c ≡ draw_entry)
  exact_most level limit now h v x c i = go (before_or_not (successors rule rings) (λ y. pair_seed rings k m o before y) level c)
    where
      is : successor_entry rings k now c ≡ entry_at rings k now c
      is = pair_entry rings k m o s.pair before valid now c i

      seed_live : pair_seed rings k m o before c ≡ live
      seed_live = pair_live rings k m o s.pair before valid c i

      go : ((j : ℕ) × (j < level) × Depth (successors rule rings) (λ y. pair_seed rings k m o before y) j c)
          ⊎ NotBefore (successors rule rings) (λ y. pair_seed rings k m o before y) level c
          → (entry_at rings k now c ≤ limit) ⊎ (entry_at rings k now c ≡ draw_entry)
      go (inl (j, l, d)) = inl (omega (arith, is, x.low c (on_pair i) seed_live j l d))
      go (inr n) = inr (sym is ∙ x.blank c (on_pair i) seed_live n)

  -- in the middle of a level: the positions of D are done
  module _ (level : ℕ) (low : level < void_entry) where
    pub record AtLevel (D : List ℕ → Type 0) (now : List ℕ) : Type 0 where
      pub kept : Kept rings k (BothTables m o) before now
      pub amid : Amid rule takes rings k m o s.pair before valid level D now

    -- one of the tables
    module _ (x y : ℕ) (t : Table) (same : ℕ) (side : Side rings k m o x y t same) (D : List ℕ → Type 0) (now : List ℕ) (w : AtLevel D now) where
      abbrev DoneToo : List ℕ → Type 0
      DoneToo c = D c ⊎ InTable rings x y c

      pub blocked_step : level ≡ 0 → AtLevel DoneToo (blocked_first rings t now (size (8 * rings) t.mover t.opponent))
      blocked_step z =
          subst (λ (n : ℕ). AtLevel DoneToo (blocked_first rings t now n)) (sym (sizes rings k m o s.pair x y t same side)) record {
            kept = kept_then rings k (BothTables m o) before now (blocked_first rings t now (size (8 * rings) x y)) w.kept
                (blocked_kept rings k m o s.pair x y t same side now (size (8 * rings) x y) (omega arith));
            amid = subst (λ (n : ℕ). Amid rule takes rings k m o s.pair before valid n DoneToo (blocked_first rings t now (size (8 * rings) x y)))
                (sym z) (blocked_table rule takes rings k m o s.pair x y t same side before valid D now (w.kept.same_length ∙ s.room)
                (subst (λ (n : ℕ). Amid rule takes rings k m o s.pair before valid n D now) z w.amid));
          }

    abbrev pub None : List ℕ → Type 0
    None c = ⊥

    abbrev pub Once : List ℕ → Type 0
    Once c = None c ⊎ InTable rings m o c

    abbrev pub Twice : List ℕ → Type 0
    Twice c = Once c ⊎ InTable rings o m c

    pub level_begun : (limit : ℕ) (now : List ℕ) → State limit level now → AtLevel None now
    level_begun limit now st = record {
      kept = st.kept;
      amid = level_start (successors rule rings) (λ c. pair_seed rings k m o before c) (OnPair rings m o)
          (λ c. successor_entry rings k now c) level st.exact;
    }

    -- once every board of the pair is done, the level is
    ended_level : (D : List ℕ → Type 0) (now : List ℕ) → AtLevel D now → ((c : List ℕ) → InPair rings m o c → D c)
        → Kept rings k (BothTables m o) before now × ExactBelow (suc level) now
    ended_level D now w all = (
      w.kept,
      level_done (successors rule rings) (λ c. pair_seed rings k m o before c) (OnPair rings m o)
          (pair_ground rule takes rings k m o s.pair before valid) level low
          (λ c. successor_entry rings k now c) D w.amid (λ c i e d. all c (live_pair rings k m o s.pair before valid c i e)),
    )

    -- both tables, or the one where they are the same
    pub both_ended : (once twice after : List ℕ) → AtLevel Once once → AtLevel Twice twice
        → after ≡ elim (eqb a.mover a.opponent) [ true ↦ once | false ↦ twice ] → Kept rings k (BothTables m o) before after
        × ExactBelow (suc level) after
    both_ended once twice after v w is = go (eqb a.mover a.opponent) refl
      where
        whose : (c : List ℕ) → InPair rings m o c → (x y : ℕ) → count 1 c ≡ x → count 2 c ≡ y → InTable rings x y c
        whose c i x y e f = record { values = i.values; points = i.points; mover = e; opponent = f }

        all_once : m ≡ o → (c : List ℕ) → InPair rings m o c → BothTables m o (count 1 c) (count 2 c) → Once c
        all_once e c i (inl q) = inr (whose c i m o q.0 q.1)
        all_once e c i (inr q) = inr (whose c i m o (q.0 ∙ sym e) (q.1 ∙ e))

        all_twice : (c : List ℕ) → InPair rings m o c → BothTables m o (count 1 c) (count 2 c) → Twice c
        all_twice c i (inl q) = inl (inr (whose c i m o q.0 q.1))
        all_twice c i (inr q) = inr (whose c i o m q.0 q.1)

        go : (d : Bool) → eqb a.mover a.opponent ≡ d → Kept rings k (BothTables m o) before after × ExactBelow (suc level) after
        go true f =
            let e : after ≡ once = is ∙ rw f in
            let q : m ≡ o = sym s.first.mover_is ∙ eqb-true a.mover a.opponent f ∙ s.first.opponent_is in
            subst (λ (l : List ℕ). Kept rings k (BothTables m o) before l × ExactBelow (suc level) l) (sym e)
            (ended_level Once once v (λ c i. all_once q c i i.counts))
        go false f =
            let e : after ≡ twice = is ∙ rw f in
            subst (λ (l : List ℕ). Kept rings k (BothTables m o) before l × ExactBelow (suc level) l) (sym e)
            (ended_level Twice twice w (λ c i. all_twice c i i.counts))
