-- From level 0 of a pair to level 1, and what a level beyond the limit shows. Assumes nothing.
use mathlib.Core.Path.{◌≡◌, refl, sym, ap, subst, ◌∙◌}
use mathlib.Core.Bool.{true, false}
use mathlib.Core.List.{List}
use mathlib.Core.Logic.{◌⊎◌, inl, inr}
use Prim.Native.Nat.{ℕ, suc, ◌+◌, ◌-◌, ◌*◌, ◌≤◌, ◌<◌}
use native.Mathlib.Decide.{ℕ_discrete}
use native.Mathlib.Omega.{arith}
use lib.ListN.{length, get_or}
use Rattle.board.specs.Board.{count}
use Rattle.sizes.specs.Size.{size}
use Rattle.ranking.specs.Unrank.{unrank}
use Rattle.layout.specs.Layout.{start}
use Rattle.rules.specs.Ply.{Rule, successors}
use Rattle.rules.proofs.Listed.{TakesOpponent}
use Rattle.game.specs.Game.{live, draw_entry, void_entry, Depth}
use Rattle.game.proofs.Depths.{NotBefore, before_or_not}
use Rattle.game.proofs.Levels.{exact_upto}
use Rattle.outcomes.specs.Places.{place_of, entry_at, successor_entry}
use Rattle.outcomes.specs.Pair.{pair_seed, LowerValid}
use Rattle.outcomes.specs.Filled.{BothTables}
use Rattle.outcomes.proofs.Ranked.{unrank_in}
use Rattle.outcomes.proofs.PairGame.{OnPair, InPair, on_pair, pair_table}
use Rattle.outcomes.proofs.Entries.{entry_place, entry_unrank}
use Rattle.outcomes.proofs.PairLevels.{pair_live, pair_ground, pair_entry}
use Rattle.tables.specs.declared.Table.{Table}
use Rattle.tables.specs.Inner.Tables.{Located}
use Rattle.ending.specs.Inner.Blocked.{blocked_first}
use Rattle.pairs.specs.Inner.Pairs.{pair_blocked}
use Rattle.depths.specs.Inner.Depths.{Holds, WroteBeyond}
use Rattle.filling.specs.Inner.Solve.{Setting}
use Rattle.filling.proofs.Answered.{Deep}
use Rattle.filling.proofs.PairTables.{first_side, second_side, part_end, part_place}
use Rattle.filling.proofs.States.{ExactBelow, State, AtLevel, None, Once, Twice, level_begun, blocked_step, both_ended, exact_most}

module _ (rule : Rule) (takes : TakesOpponent rule) (rings k m o : ℕ) (a b : Table) (before : List ℕ) (s : Setting (length before) rings k m o a b)
    (valid : LowerValid rings k m o before)
    (limit : ℕ) where
  -- level 0
  pub after_blocked : (now : List ℕ) → State rule takes rings k m o a b before s valid limit 0 now → (after : List ℕ)
      → after ≡ pair_blocked rings a b now
      → State rule takes rings k m o a b before s valid limit 1 after
  unfolding pair_blocked
  after_blocked now st after is =
      let w = both_ended rule takes rings k m o a b before s valid 0 (omega arith) once twice after once_done twice_done is in
      record {
        kept = w.0;
        exact = w.1;
        most = exact_most rule takes rings k m o a b before s valid 1 limit after (omega arith) (omega arith) w.1;
        over = λ l. absurd (omega arith);
      }
    where
      once : List ℕ
      once = blocked_first rings a now (size (8 * rings) a.mover a.opponent)

      twice : List ℕ
      twice = blocked_first rings b once (size (8 * rings) b.mover b.opponent)

      once_done : AtLevel rule takes rings k m o a b before s valid 0 (omega arith)
          (Once rule takes rings k m o a b before s valid 0 (omega arith)) once
      once_done = blocked_step rule takes rings k m o a b before s valid 0 (omega arith) m o a b.own.start (first_side s)
          (None rule takes rings k m o a b before s valid 0 (omega arith)) now
          (level_begun rule takes rings k m o a b before s valid 0 (omega arith) limit now st) refl

      twice_done : AtLevel rule takes rings k m o a b before s valid 0 (omega arith)
          (Twice rule takes rings k m o a b before s valid 0 (omega arith)) twice
      twice_done = blocked_step rule takes rings k m o a b before s valid 0 (omega arith) o m b a.own.start (second_side s)
          (Once rule takes rings k m o a b before s valid 0 (omega arith)) once once_done refl

  -- a level above 0
  module _ (level : ℕ) (pos : 0 < level) (low : level < void_entry) (now : List ℕ)
      (st : State rule takes rings k m o a b before s valid limit level now) where
    -- an entry in the part of a table is that of a board
    held_board : (x y : ℕ) (t : Table) → Located (8 * rings) k x y t → (after : List ℕ) → Holds after t.own level
        → (r : ℕ) × (r < size (8 * rings) x y) × (entry_at rings k after (unrank (8 * rings) x y r) ≡ level)
    held_board x y t l after (j, h, u, e) =
        let n = part_end rings k x y t l in
        let z = l.start_is in
        let f : r < size (8 * rings) x y = omega (arith, n) in
        let q : start (8 * rings) k x y + r ≡ j = omega arith in
        (r, f, entry_unrank rings k x y r after f ∙ ap (λ (i : ℕ). get_or after i 0) q ∙ e)
      where
        r : ℕ
        r = j - t.own.start

    module _ (after : List ℕ) (exact : ExactBelow rule takes rings k m o a b before s valid (suc level) after) where
      -- a position of the pair that the level wrote has that depth
      written_depth : (c : List ℕ) → InPair rings m o c → entry_at rings k after c ≡ level
          → Depth (successors rule rings) (λ x. pair_seed rings k m o before x) level c
      written_depth c i e =
          let v : successor_entry rings k after c ≡ level = pair_entry rings k m o s.pair before valid after c i ∙ e in
          subst (λ (n : ℕ). Depth (successors rule rings) (λ x. pair_seed rings k m o before x) n c) v
          ((exact_upto (successors rule rings) (λ x. pair_seed rings k m o before x) (OnPair rings m o)
          (pair_ground rule takes rings k m o s.pair before valid) (suc level) low
          (λ x. successor_entry rings k after x) exact).sound c (on_pair i) (omega arith))

      -- one that is written beyond the limit is too deep
      pub beyond_limit : WroteBeyond a b limit level after true → Deep rule rings k limit (BothTables m o) (λ x. pair_seed rings k m o before x)
      beyond_limit (far, held) = go held
        where
          at : (x y : ℕ) → BothTables m o x y
              → (r : ℕ) × (r < size (8 * rings) x y) × (entry_at rings k after (unrank (8 * rings) x y r) ≡ level)
              → Deep rule rings k limit (BothTables m o) (λ x. pair_seed rings k m o before x)
          at x y both (r, h, e) =
              let d = written_depth (unrank (8 * rings) x y r) (pair_table both (unrank_in rings x y r h)) e in
              record { mover = x; opponent = y; rank = r; in_table = both; rank_low = h; plies = level; forced = d.holds; beyond = d.below limit far }

          go : Holds after a.own level ⊎ Holds after b.own level → Deep rule rings k limit (BothTables m o) (λ x. pair_seed rings k m o before x)
          go (inl q) = at m o (inl (refl, refl)) (held_board m o a s.first after q)
          go (inr q) = at o m (inr (refl, refl)) (held_board o m b s.second after q)

      -- where it wrote nothing beyond, the entries are within the limit
      pub within_limit : WroteBeyond a b limit level after false → (c : List ℕ) → InPair rings m o c
          → (entry_at rings k after c ≤ limit) ⊎ (entry_at rings k after c ≡ draw_entry)
      within_limit (inl h) c i = exact_most rule takes rings k m o a b before s valid (suc level) limit after (omega arith) low exact c i
      within_limit (inr none) c i = go (before_or_not (successors rule rings) (λ x. pair_seed rings k m o before x) (suc level) c)
        where
          is : successor_entry rings k after c ≡ entry_at rings k after c
          is = pair_entry rings k m o s.pair before valid after c i

          seed_live : pair_seed rings k m o before c ≡ live
          seed_live = pair_live rings k m o s.pair before valid c i

          held : (x y : ℕ) (t : Table) → Located (8 * rings) k x y t → count 1 c ≡ x → count 2 c ≡ y → entry_at rings k after c ≡ level
              → Holds after t.own level
          held x y t l e f v =
              let p = part_place rings k x y t l c record { values = i.values; points = i.points; mover = e; opponent = f } in
              (place_of rings k c, p.0, p.1, sym (entry_place rings k after c) ∙ v)

          not_level : BothTables m o (count 1 c) (count 2 c) → entry_at rings k after c ≡ level → ⊥
          not_level (inl q) v = none.0 (held m o a s.first q.0 q.1 v)
          not_level (inr q) v = none.1 (held o m b s.second q.0 q.1 v)

          old : (j : ℕ) → j < level → Depth (successors rule rings) (λ x. pair_seed rings k m o before x) j c → entry_at rings k after c ≡ j
              → (entry_at rings k now c ≤ limit) ⊎ (entry_at rings k now c ≡ draw_entry) → (entry_at rings k after c ≤ limit)
              ⊎ (entry_at rings k after c ≡ draw_entry)
          old j l d e w =
              let u = st.exact.low c (on_pair i) seed_live j l d in
              let v = pair_entry rings k m o s.pair before valid now c i in
              same (omega arith) w
            where
              same : entry_at rings k now c ≡ j → (entry_at rings k now c ≤ limit) ⊎ (entry_at rings k now c ≡ draw_entry)
                  → (entry_at rings k after c ≤ limit) ⊎ (entry_at rings k after c ≡ draw_entry)
              same q (inl x) = inl (omega arith)
              same q (inr x) = absurd (omega arith)

          go : ((j : ℕ) × (j < suc level) × Depth (successors rule rings) (λ x. pair_seed rings k m o before x) j c)
              ⊎ NotBefore (successors rule rings) (λ x. pair_seed rings k m o before x) (suc level) c
              → (entry_at rings k after c ≤ limit) ⊎ (entry_at rings k after c ≡ draw_entry)
          go (inr n) = inr (sym is ∙ exact.blank c (on_pair i) seed_live n)
          go (inl (j, l, d)) = last (ℕ_discrete j level)
            where
              e : entry_at rings k after c ≡ j
              e = sym is ∙ exact.low c (on_pair i) seed_live j l d

              last : Dec (j ≡ level) → (entry_at rings k after c ≤ limit) ⊎ (entry_at rings k after c ≡ draw_entry)
              last (yes q) = absurd (not_level i.counts (e ∙ q))
              last (no q) = old j (omega (arith, q)) d e (st.most c i)
