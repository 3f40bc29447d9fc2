-- A level by marks and classes in the pair's game: once the marks are made, each marked position is judged, so that the level writes what a sweep of
-- the whole table would. Assumes nothing.
use mathlib.Core.Path.{◌≡◌, refl, sym, ap, subst, ◌∙◌}
use mathlib.Core.Bool.{Bool, true, false}
use mathlib.Core.List.{List}
use mathlib.Core.Logic.{◌⊎◌, inl, inr}
use Prim.Native.Nat.{ℕ, ◌+◌, ◌*◌, ◌≤◌, ◌<◌}
use native.Mathlib.Omega.{arith}
use lib.Dec.{ltb}
use lib.ListN.{length, get_or}
use borrow.Author.Tests.{ltb-true, ltb-false}
use Rattle.board.specs.Board.{count}
use Rattle.sizes.specs.Size.{size}
use Rattle.ranking.specs.Unrank.{unrank}
use Rattle.layout.specs.Layout.{start, tablebase_length}
use Rattle.rules.specs.Ply.{Rule, successors}
use Rattle.rules.proofs.Listed.{TakesOpponent}
use Rattle.game.specs.Game.{Seed, live, ends, drawn, draw_entry, void_entry, Depth}
use Rattle.game.proofs.Depths.{NotBefore, before_or_not}
use Rattle.game.proofs.Tables.{Seeded}
use Rattle.game.proofs.Levels.{Fresh, within_same}
use Rattle.outcomes.specs.Places.{place_of, entry_at, successor_entry}
use Rattle.outcomes.specs.Pair.{Pair, pair_seed, LowerValid}
use Rattle.outcomes.specs.Filled.{BothTables, Kept}
use Rattle.outcomes.proofs.Ranked.{InTable, unrank_in, place_unrank, one_board}
use Rattle.outcomes.proofs.PairGame.{OnPair, InPair, on_pair, pair_table, stands_own}
use Rattle.outcomes.proofs.Entries.{entry_place, entry_two, entry_three, kept_then}
use Rattle.outcomes.proofs.PairLevels.{Amid, pair_live, live_pair, pair_ground, pair_seeded, pair_entry}
use Rattle.symmetry.specs.Symmetries.{image}
use Rattle.game.proofs.Maps.{Image}
use Rattle.game.proofs.Mapped.{symmetric_same}
use Rattle.invariance.specs.Symmetric.{LowerSymmetric}
use Rattle.invariance.proofs.Groups.{Group}
use Rattle.invariance.proofs.Plies.{Commutes}
use Rattle.classing.proofs.Picked.{Picks}
use Rattle.tables.specs.declared.Table.{Table}
use Rattle.deciding.specs.Inner.Fits.{Fits}
use Rattle.levels.proofs.Sides.{Side, sizes}
use Rattle.sweeping.specs.Inner.Levels.{level_marks, level_by_classes}
use Rattle.settling.specs.Inner.Settled.{judged_first}
use Rattle.levels.proofs.Views.{opened, opened_mark, opened_other, view}
use Rattle.levels.proofs.Sources.{MarkedIn, MarkedPart}
use Rattle.levels.proofs.Judging.{mapped, SymmetricTable, Judging, no_marks, all_done}
use Rattle.levels.proofs.JudgedOne.{judged_all}
use Rattle.levels.proofs.LevelMarks.{all_marked}
use Rattle.levels.proofs.MarkedImages.{found_image}

module _ (rule : Rule) (takes : TakesOpponent rule) (commutes : Commutes rule) (rings k m o : ℕ) (pair : Pair rings k m o) (before : List ℕ)
    (valid : LowerValid rings k m o before) (maps : ℕ) (group : Group maps)
    (mirrored : LowerSymmetric maps rings k m o before) (picked : List ℕ → Bool) (picks : Picks rings maps picked)
    (x y : ℕ) (t : Table) (same : ℕ) (side : Side rings k m o x y t same) (level : ℕ) (pos : 0 < level) (low : level < void_entry) (clean : List ℕ)
    (fits : Fits (length clean) rings t same) (D : List ℕ → Type 0) (w : Amid rule takes rings k m o pair before valid level D clean)
    (symmetric : SymmetricTable rule takes commutes rings k m o pair before valid maps group mirrored (λ b. successor_entry rings k clean b)) where
  three : 3 ≤ t.opponent
  three = omega (arith, side.low, side.located.opponent_is)

  abbrev marks_of : List ℕ
  marks_of = level_marks rings t same level picked clean

  abbrev SeenFree : List ℕ → Type 0
  SeenFree now = (q : List ℕ) → OnPair rings m o q → successor_entry rings k now q ≡ void_entry → ⊥

  -- given entries are no marks
  seen_free : (now : List ℕ) → Kept rings k (BothTables m o) before now → ((q : List ℕ) → InPair rings m o q → entry_at rings k now q ≡ void_entry → ⊥)
      → SeenFree now
  seen_free now kept own-free q s v = go (pair_seed rings k m o before q) refl
    where
      seeded : Seeded (successors rule rings) (λ b. pair_seed rings k m o before b) (OnPair rings m o) (λ b. successor_entry rings k now b)
      seeded = pair_seeded rule takes rings k m o pair before valid now kept

      go : (z : Seed) → pair_seed rings k m o before q ≡ z → ⊥
      go live e =
          let i = live_pair rings k m o pair before valid q s e in
          own-free q i (sym (pair_entry rings k m o pair before valid now q i) ∙ v)
      go (ends d) e = omega (arith, seeded.at_end q s e, (pair_ground rule takes rings k m o pair before valid).given_low q s e)
      go drawn e = omega (arith, seeded.at_draw q s e)

  view_is : (now : List ℕ) → SeenFree now → (q : List ℕ) → OnPair rings m o q → view rings k now q ≡ successor_entry rings k now q
  view_is now free q s = opened_other (successor_entry rings k now q) (free q s)

  -- no entry of the pair is void before the level
  own_valid : (q : List ℕ) → InPair rings m o q → entry_at rings k clean q ≡ void_entry → ⊥
  own_valid q i v = go (before_or_not (successors rule rings) (λ c. pair_seed rings k m o before c) level q)
    where
      e : pair_seed rings k m o before q ≡ live
      e = pair_live rings k m o pair before valid q i

      is : successor_entry rings k clean q ≡ void_entry
      is = pair_entry rings k m o pair before valid clean q i ∙ v

      none : Fresh (successors rule rings) (λ c. pair_seed rings k m o before c) (OnPair rings m o) level (successor_entry rings k clean q) q → ⊥
      none (inl f) = omega (arith, is)
      none (inr f) = omega (arith, is, f.0)

      go : ((j : ℕ) × (j < level) × Depth (successors rule rings) (λ c. pair_seed rings k m o before c) j q)
          ⊎ NotBefore (successors rule rings) (λ c. pair_seed rings k m o before c) level q → ⊥
      go (inl (j, l, d)) = omega (arith, is, w.low q (on_pair i) e j l d)
      go (inr n) = none (w.fresh q (on_pair i) e n)

  module _ (kept : Kept rings k (BothTables m o) before clean) (room : length clean ≡ tablebase_length (8 * rings) k) where
    the_marks : MarkedPart t.own.start (size (8 * rings) t.mover t.opponent) clean marks_of
    the_marks = all_marked rings t same level picked low three clean fits

    -- marks read as open, the table is as it was
    marks_view : (q : List ℕ) → OnPair rings m o q → view rings k marks_of q ≡ successor_entry rings k clean q
    marks_view q s = at (ltb (count 1 q) 3) refl
      where
        clean_is : view rings k clean q ≡ successor_entry rings k clean q
        clean_is = view_is clean (seen_free clean kept own_valid) q s

        mark : MarkedIn t.own.start (size (8 * rings) t.mover t.opponent) clean marks_of (place_of rings k q)
            → opened (entry_at rings k marks_of q) ≡ opened (entry_at rings k clean q)
        mark (inl e) = ap (λ (v : ℕ). opened v) (entry_place rings k marks_of q ∙ e ∙ sym (entry_place rings k clean q))
        mark (inr e) =
            opened_mark (entry_at rings k marks_of q) (entry_place rings k marks_of q ∙ e.1)
            ∙ sym (opened_other draw_entry (λ z. omega arith)) ∙ ap (λ (v : ℕ). opened v) (sym (entry_place rings k clean q ∙ e.0))

        at : (c : Bool) → ltb (count 1 q) 3 ≡ c → view rings k marks_of q ≡ successor_entry rings k clean q
        at true f =
            let l = ltb-true (count 1 q) 3 f in
            ap (λ (v : ℕ). opened v) (entry_two rings k marks_of q l ∙ sym (entry_two rings k clean q l)) ∙ clean_is
        at false f =
            let l = ltb-false (count 1 q) 3 f in
            ap (λ (v : ℕ). opened v) (entry_three rings k marks_of q l) ∙ mark (the_marks.at (place_of rings k q))
            ∙ ap (λ (v : ℕ). opened v) (sym (entry_three rings k clean q l)) ∙ clean_is

    -- what holds once the marks are made
    start_judging : Judging rule takes commutes rings k m o pair before valid maps group mirrored x y t same side level low D 0 marks_of
    start_judging = record {
      kept = kept_then rings k (BothTables m o) before clean marks_of kept
          record { same_length = the_marks.same_length; rest = λ j none. rest j none (the_marks.at j) };
      room = the_marks.same_length ∙ room;
      amid = within_same (successors rule rings) (λ c. pair_seed rings k m o before c) (OnPair rings m o)
          (pair_ground rule takes rings k m o pair before valid) level low
          (λ b. successor_entry rings k clean b) (view rings k marks_of) marks_view D w;
      symmetric = symmetric_same (successors rule rings) (λ c. pair_seed rings k m o before c) (OnPair rings m o) maps (λ g c. image rings g c)
          (mapped rule takes commutes rings k m o pair before valid maps group mirrored) (λ b. successor_entry rings k clean b)
          (view rings k marks_of) marks_view symmetric;
      marks = λ q i v. (whose q i v (the_marks.at (place_of rings k q)), omega arith);
      pending = λ p i d. go p i (found_image rule takes commutes rings k m o pair before valid maps group mirrored picked picks x y t same side level
          pos low clean fits D w symmetric p i d) (the_marks.at (place_of rings k p));
    }
      where
        rest : (j : ℕ) → ((a b r : ℕ) → BothTables m o a b → r < size (8 * rings) a b → start (8 * rings) k a b + r ≡ j → ⊥)
            → MarkedIn t.own.start (size (8 * rings) t.mover t.opponent) clean marks_of j → get_or marks_of j 0 ≡ get_or clean j 0
        rest j none (inl e) = e
        rest j none (inr (a, b, (r, h, q))) =
            absurd (none x y r side.both (omega (arith, sizes rings k m o pair x y t same side))
            (ap (λ (s : ℕ). s + r) (sym side.located.start_is) ∙ q))

        whose : (q : List ℕ) → InPair rings m o q → entry_at rings k marks_of q ≡ void_entry
            → MarkedIn t.own.start (size (8 * rings) t.mover t.opponent) clean marks_of (place_of rings k q) → InTable rings x y q
        whose q i v (inl e) = absurd (own_valid q i (entry_place rings k clean q ∙ sym e ∙ sym (entry_place rings k marks_of q) ∙ v))
        whose q i v (inr (a, b, (r, h, f))) =
            let l : r < size (8 * rings) x y = omega (arith, sizes rings k m o pair x y t same side) in
            let j = unrank_in rings x y r l in
            subst (λ (c : List ℕ). InTable rings x y c)
            (one_board rings k (unrank (8 * rings) x y r) q (stands_own rings k m o pair (unrank (8 * rings) x y r) (pair_table side.both j))
            (stands_own rings k m o pair q i) (place_unrank rings k x y r l ∙ ap (λ (s : ℕ). s + r) (sym side.located.start_is) ∙ f)) j

        go : (p : List ℕ) → InTable rings x y p → (successor_entry rings k clean p ≡ level)
            ⊎ ((g : ℕ) × (g < maps) × (entry_at rings k marks_of (image rings g p) ≡ void_entry))
            → MarkedIn t.own.start (size (8 * rings) t.mover t.opponent) clean marks_of (place_of rings k p)
            → (entry_at rings k marks_of p ≡ level)
            ⊎ ((q : List ℕ) × Image (successors rule rings) (λ c. pair_seed rings k m o before c) (OnPair rings m o) maps (λ g c. image rings g c) p q
            × (entry_at rings k marks_of q ≡ void_entry))
        go p i (inr (g, l, v)) c = inr (image rings g p, (g, l, refl), v)
        go p i (inl v) (inl e) =
            inl (entry_place rings k marks_of p ∙ e ∙ sym (entry_place rings k clean p)
            ∙ sym (pair_entry rings k m o pair before valid clean p (pair_table side.both i)) ∙ v)
        go p i (inl v) (inr e) =
            absurd (omega (arith, e.0, entry_place rings k clean p, pair_entry rings k m o pair before valid clean p (pair_table side.both i)))

    abbrev last : List ℕ
    last = level_by_classes rule rings t same level maps picked clean

    end_judging : Judging rule takes commutes rings k m o pair before valid maps group mirrored x y
        t same side level low D (size (8 * rings) x y) last
    unfolding level_by_classes
    end_judging =
        subst (λ (n : ℕ). Judging rule takes commutes rings k m o pair before valid maps group mirrored x y t same side level low D
        (size (8 * rings) x y) (judged_first rule rings t same level maps marks_of n)) (sym (sizes rings k m o pair x y t same side))
        (judged_all rule takes commutes rings k m o pair before valid maps group mirrored x y t same side level low D marks_of start_judging
        (size (8 * rings) x y) (omega arith))

    last_free : SeenFree last
    last_free = seen_free last end_judging.kept (no_marks rule takes commutes rings k m o pair before valid maps group mirrored x y t same side
        level low D last end_judging)

    last_view : (q : List ℕ) → OnPair rings m o q → successor_entry rings k last q ≡ view rings k last q
    last_view q s = sym (view_is last last_free q s)

    -- the level over a table: it writes the pair alone, keeps what holds in the middle of a level and that images have one entry, and the
    -- table's positions are done
    pub level_kept : Kept rings k (BothTables m o) before (level_by_classes rule rings t same level maps picked clean)
    level_kept = end_judging.kept

    pub level_symmetric : SymmetricTable rule takes commutes rings k m o pair before valid maps group mirrored
        (λ b. successor_entry rings k (level_by_classes rule rings t same level maps picked clean) b)
    level_symmetric =
        symmetric_same (successors rule rings) (λ c. pair_seed rings k m o before c) (OnPair rings m o) maps (λ g c. image rings g c)
        (mapped rule takes commutes rings k m o pair before valid maps group mirrored) (view rings k last) (λ b. successor_entry rings k last b)
        last_view end_judging.symmetric

    pub level_table : Amid rule takes rings k m o pair before valid level (λ b. D b ⊎ InTable rings x y b)
        (level_by_classes rule rings t same level maps picked clean)
    level_table = record { seeds = v.seeds; low = v.low; fresh = v.fresh; done = λ p s e d z. done p s e d z }
      where
        v : Amid rule takes rings k m o pair before valid level D last
        v = within_same (successors rule rings) (λ c. pair_seed rings k m o before c) (OnPair rings m o)
            (pair_ground rule takes rings k m o pair before valid) level low
            (view rings k last) (λ b. successor_entry rings k last b) last_view D end_judging.amid

        done : (p : List ℕ) → OnPair rings m o p → pair_seed rings k m o before p ≡ live → D p ⊎ InTable rings x y p
            → Depth (successors rule rings) (λ c. pair_seed rings k m o before c) level p → successor_entry rings k last p ≡ level
        done p s e (inl d) z = v.done p s e d z
        done p s e (inr i) z =
            pair_entry rings k m o pair before valid last p (pair_table side.both i)
            ∙ all_done rule takes commutes rings k m o pair before valid maps group mirrored x y t same side level low D last end_judging p i z
