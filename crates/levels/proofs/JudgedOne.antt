-- One position judged: passed where it bears no mark, open again where it is missed, the level at all its images where it is hit; each keeps what
-- holds before its rank. Assumes nothing.
use mathlib.Core.Path.{◌≡◌, refl, sym, ap, subst, ◌∙◌}
use mathlib.Core.Bool.{Bool, true, false}
use mathlib.Core.List.{List}
use mathlib.Core.Logic.{◌⊎◌, inl, inr}
use Prim.Native.Nat.{ℕ, zero, suc, ◌*◌, ◌≤◌, ◌<◌}
use native.Mathlib.Decide.{ℕ_discrete}
use native.Mathlib.Omega.{arith}
use lib.Dec.{eqb}
use lib.ListN.{set, length-set}
use borrow.Author.Tests.{eqb-true, eqb-false}
use Rattle.lists.proofs.Tests.{clash}
use Rattle.sizes.specs.Size.{size}
use Rattle.ranking.specs.Rank.{rank}
use Rattle.ranking.specs.Unrank.{unrank}
use Rattle.rules.specs.Ply.{Rule, successors}
use Rattle.rules.proofs.Listed.{TakesOpponent}
use Rattle.game.specs.Game.{live, draw_entry, void_entry, Depth}
use Rattle.game.specs.Judgement.{hit}
use Rattle.game.proofs.Levels.{within_fewer, within_same}
use Rattle.outcomes.specs.Places.{place_of, entry_at, successor_entry}
use Rattle.outcomes.specs.Pair.{Pair, pair_seed, LowerValid}
use Rattle.outcomes.specs.Filled.{BothTables, Kept}
use Rattle.outcomes.proofs.Boards.{place_within}
use Rattle.outcomes.proofs.Ranked.{InTable, unrank_in, place_unrank, unrank_of}
use Rattle.outcomes.proofs.PairGame.{OnPair, InPair, on_pair, pair_table, stands_own}
use Rattle.outcomes.proofs.Entries.{written_here, kept_set, kept_then}
use Rattle.outcomes.proofs.PairLevels.{pair_live, pair_ground, pair_entry}
use Rattle.symmetry.specs.Symmetries.{symmetries, image}
use Rattle.game.proofs.Maps.{Maps, Image}
use Rattle.game.proofs.Mapped.{image_self, image_sym, image_trans, image_depth, symmetric_same}
use Rattle.game.proofs.Classes.{depth_hit_now, written, written_symmetric}
use Rattle.invariance.specs.Symmetric.{LowerSymmetric}
use Rattle.invariance.proofs.Groups.{Group}
use Rattle.invariance.proofs.PairMaps.{pair_maps}
use Rattle.invariance.proofs.Plies.{Commutes}
use Rattle.tables.specs.declared.Table.{Table}
use Rattle.deciding.specs.Inner.Open.{board_at, judged}
use Rattle.levels.proofs.Sides.{Side, ranked_is, place_is, entry_is, hit_is}
use Rattle.classing.specs.Inner.Classes.{images_written}
use Rattle.classing.proofs.Written.{images_length}
use Rattle.settling.specs.Inner.Settled.{is_marked, judged_class, judged_first}
use Rattle.levels.proofs.Views.{opened, opened_mark, opened_other, view, hit_view}
use Rattle.levels.proofs.Written.{seen_elsewhere, same_on, apart, written_kept, written_others, written_images}
use Rattle.levels.proofs.Judging.{image_own, Judging}

module _ (rule : Rule) (takes : TakesOpponent rule) (commutes : Commutes rule) (rings k m o : ℕ) (pair : Pair rings k m o) (before : List ℕ)
    (valid : LowerValid rings k m o before) (maps : ℕ) (group : Group maps)
    (mirrored : LowerSymmetric maps rings k m o before) where
  abbrev mapped : Maps (successors rule rings) (λ b. pair_seed rings k m o before b) (OnPair rings m o) maps (λ g b. image rings g b)
  mapped = pair_maps rule takes commutes rings k m o pair maps group before mirrored

  abbrev DepthIs : ℕ → List ℕ → Type 0
  DepthIs n p = Depth (successors rule rings) (λ b. pair_seed rings k m o before b) n p

  abbrev Of : List ℕ → List ℕ → Type 0
  Of p q = Image (successors rule rings) (λ b. pair_seed rings k m o before b) (OnPair rings m o) maps (λ g b. image rings g b) p q

  module _ (x y : ℕ) (t : Table) (same : ℕ) (side : Side rings k m o x y t same) (level : ℕ) (low : level < void_entry) (D : List ℕ → Type 0) where
    -- what holds before rank n
    abbrev JudgedTo : ℕ → List ℕ → Type 0
    JudgedTo n now = Judging rule takes commutes rings k m o pair before valid maps group mirrored x y t same side level low D n now

    module _ (n : ℕ) (h : n < size (8 * rings) x y) (now : List ℕ) (w : JudgedTo n now) where
      in_b : InTable rings x y (unrank (8 * rings) x y n)
      in_b = unrank_in rings x y n h

      own_b : InPair rings m o (unrank (8 * rings) x y n)
      own_b = pair_table side.both in_b

      on_b : OnPair rings m o (unrank (8 * rings) x y n)
      on_b = on_pair own_b

      live_b : pair_seed rings k m o before (unrank (8 * rings) x y n) ≡ live
      live_b = pair_live rings k m o pair before valid (unrank (8 * rings) x y n) own_b

      marked_is : is_marked t now n ≡ eqb (entry_at rings k now (unrank (8 * rings) x y n)) void_entry
      unfolding is_marked
      marked_is = ap (λ (e : ℕ). eqb e void_entry) (entry_is rings k m o pair x y t same side n h now)

      -- what the code reads of the successors
      seen_is : hit (successors rule rings) (judged rings t same now) level (board_at rings t same n)
          ≡ hit (successors rule rings) (view rings k now) level (unrank (8 * rings) x y n)
      seen_is = hit_is rule takes rings k m o pair x y t same side n h now level
          ∙ sym (hit_view rule rings k level (omega arith) now (unrank (8 * rings) x y n))

      -- the board of rank n is told by its rank
      rank_b : (q : List ℕ) → InTable rings x y q → rank q ≡ n → q ≡ unrank (8 * rings) x y n
      rank_b q i e = sym (unrank_of rings x y q i) ∙ ap (unrank (8 * rings) x y) e

      later : (q : List ℕ) → InTable rings x y q → n ≤ rank q → (q ≡ unrank (8 * rings) x y n → ⊥) → suc n ≤ rank q
      later q i l ne = go (ℕ_discrete (rank q) n)
        where
          go : Dec (rank q ≡ n) → suc n ≤ rank q
          go (yes e) = absurd (ne (rank_b q i e))
          go (no d) = omega (arith, d)

      -- no mark at rank n
      unmarked : (entry_at rings k now (unrank (8 * rings) x y n) ≡ void_entry → ⊥) → JudgedTo (suc n) now
      unmarked c = record {
        kept = w.kept;
        room = w.room;
        amid = w.amid;
        symmetric = w.symmetric;
        marks = λ q i v. let a = w.marks q i v in
            (a.0, later q a.0 a.1 (λ e. c (ap (entry_at rings k now) (sym e) ∙ v)));
        pending = w.pending;
      }

      -- a mark at rank n
      module _ (mark : entry_at rings k now (unrank (8 * rings) x y n) ≡ void_entry) where
        open_b : view rings k now (unrank (8 * rings) x y n) ≡ draw_entry
        open_b = opened_mark _ (pair_entry rings k m o pair before valid now (unrank (8 * rings) x y n) own_b ∙ mark)

        -- missed: open again
        module _ (miss : hit (successors rule rings) (view rings k now) level (unrank (8 * rings) x y n) ≡ false) where
          reset_here : entry_at rings k (set now (place_of rings k (unrank (8 * rings) x y n)) draw_entry) (unrank (8 * rings) x y n) ≡ draw_entry
          reset_here =
              written_here rings k now (unrank (8 * rings) x y n) draw_entry
              (omega (arith, w.room, place_within rings k (unrank (8 * rings) x y n) (stands_own rings k m o pair (unrank (8 * rings) x y n) own_b)))

          reset_seen : (q : List ℕ) → OnPair rings m o q → (q ≡ unrank (8 * rings) x y n → ⊥)
              → successor_entry rings k (set now (place_of rings k (unrank (8 * rings) x y n)) draw_entry) q ≡ successor_entry rings k now q
          reset_seen q s ne = seen_elsewhere rings k m o pair now (unrank (8 * rings) x y n) draw_entry own_b q s ne

          reset_entry : (q : List ℕ) → InPair rings m o q → (q ≡ unrank (8 * rings) x y n → ⊥)
              → entry_at rings k (set now (place_of rings k (unrank (8 * rings) x y n)) draw_entry) q ≡ entry_at rings k now q
          reset_entry q i ne =
              sym (pair_entry rings k m o pair before valid (set now (place_of rings k (unrank (8 * rings) x y n)) draw_entry) q i)
              ∙ reset_seen q (on_pair i) ne ∙ pair_entry rings k m o pair before valid now q i

          reset_view : (q : List ℕ) → OnPair rings m o q
              → view rings k (set now (place_of rings k (unrank (8 * rings) x y n)) draw_entry) q ≡ view rings k now q
          reset_view q s = go (same_on rings k m o pair (unrank (8 * rings) x y n) q own_b s)
            where
              go : (q ≡ unrank (8 * rings) x y n) ⊎ (q ≡ unrank (8 * rings) x y n → ⊥)
                  → view rings k (set now (place_of rings k (unrank (8 * rings) x y n)) draw_entry) q ≡ view rings k now q
              go (inr ne) = ap (λ (e : ℕ). opened e) (reset_seen q s ne)
              go (inl e) =
                  ap (view rings k (set now (place_of rings k (unrank (8 * rings) x y n)) draw_entry)) e
                  ∙ ap (λ (v : ℕ). opened v)
                  (pair_entry rings k m o pair before valid (set now (place_of rings k (unrank (8 * rings) x y n)) draw_entry) (unrank (8 * rings) x y n) own_b
                  ∙ reset_here)
                  ∙ opened_other draw_entry (λ z. omega arith) ∙ sym open_b ∙ ap (view rings k now) (sym e)

          -- b has not the level's depth
          shallow : DepthIs level (unrank (8 * rings) x y n) → ⊥
          shallow d =
              clash (depth_hit_now (successors rule rings) (λ c. pair_seed rings k m o before c) (OnPair rings m o)
              (pair_ground rule takes rings k m o pair before valid) level low
              (view rings k now) D w.amid (unrank (8 * rings) x y n) on_b live_b d) miss

          missed : JudgedTo (suc n) (set now (place_of rings k (unrank (8 * rings) x y n)) draw_entry)
          missed = record {
            kept = kept_then rings k (BothTables m o) before now (set now (place_of rings k (unrank (8 * rings) x y n)) draw_entry) w.kept
                (subst (λ (j : ℕ). Kept rings k (BothTables m o) now (set now j draw_entry)) (sym (place_unrank rings k x y n h))
                (kept_set rings k (BothTables m o) now x y n draw_entry side.both h));
            room = length-set now (place_of rings k (unrank (8 * rings) x y n)) draw_entry ∙ w.room;
            amid = within_same (successors rule rings) (λ c. pair_seed rings k m o before c) (OnPair rings m o)
                (pair_ground rule takes rings k m o pair before valid) level low
                (view rings k now) (view rings k (set now (place_of rings k (unrank (8 * rings) x y n)) draw_entry)) reset_view D w.amid;
            symmetric = symmetric_same (successors rule rings) (λ c. pair_seed rings k m o before c) (OnPair rings m o) maps (λ g c. image rings g c)
                mapped (view rings k now)
                (view rings k (set now (place_of rings k (unrank (8 * rings) x y n)) draw_entry)) reset_view w.symmetric;
            marks = λ q i v. go q i v (same_on rings k m o pair (unrank (8 * rings) x y n) q own_b (on_pair i));
            pending = λ p i d. still p i d (w.pending p i d);
          }
            where
              go : (q : List ℕ) → InPair rings m o q → entry_at rings k (set now (place_of rings k (unrank (8 * rings) x y n)) draw_entry) q ≡ void_entry
                  → (q ≡ unrank (8 * rings) x y n) ⊎ (q ≡ unrank (8 * rings) x y n → ⊥) → InTable rings x y q × (suc n ≤ rank q)
              go q i v (inl e) =
                  absurd (omega (arith, sym v ∙ ap (entry_at rings k (set now (place_of rings k (unrank (8 * rings) x y n)) draw_entry)) e ∙ reset_here))
              go q i v (inr ne) = let a = w.marks q i (sym (reset_entry q i ne) ∙ v) in (a.0, later q a.0 a.1 ne)

              still : (p : List ℕ) → InTable rings x y p → DepthIs level p
                  → (entry_at rings k now p ≡ level) ⊎ ((q : List ℕ) × Of p q × (entry_at rings k now q ≡ void_entry))
                  → (entry_at rings k (set now (place_of rings k (unrank (8 * rings) x y n)) draw_entry) p ≡ level)
                  ⊎ ((q : List ℕ) × Of p q × (entry_at rings k (set now (place_of rings k (unrank (8 * rings) x y n)) draw_entry) q ≡ void_entry))
              still p i d (inl v) =
                  inl (reset_entry p (pair_table side.both i) (λ e. omega (arith, sym v ∙ ap (entry_at rings k now) e ∙ mark)) ∙ v)
              still p i d (inr (q, f, v)) =
                  inr (
                    q,
                    f,
                    reset_entry q
                        (pair_table side.both (image_own rule takes commutes rings k m o pair before valid maps group mirrored x y p q i f))
                        (λ e. shallow (subst (DepthIs level) e
                        (image_depth (successors rule rings) (λ c. pair_seed rings k m o before c)
                        (OnPair rings m o) maps (λ g c. image rings g c) mapped
                        (pair_ground rule takes rings k m o pair before valid).closed level p q (on_pair (pair_table side.both i)) f d))) ∙ v,
                  )

        -- hit: the level at all images
        module _ (found : hit (successors rule rings) (view rings k now) level (unrank (8 * rings) x y n) ≡ true) where
          few : maps ≤ symmetries
          few = group.high

          abbrev all_written : List ℕ
          all_written = images_written rings t.own.start (unrank (8 * rings) x y n) level now maps

          here : (q : List ℕ) → Of (unrank (8 * rings) x y n) q → entry_at rings k all_written q ≡ level
          here q i =
              written_images rings k m o pair x y side.both (unrank (8 * rings) x y n) in_b t.own.start side.located.start_is level now w.room
              maps few q i

          own_image : (q : List ℕ) → Of (unrank (8 * rings) x y n) q → InPair rings m o q
          own_image q i = pair_table side.both (image_own rule takes commutes rings k m o pair before valid maps group mirrored x y
              (unrank (8 * rings) x y n) q in_b i)

          here_view : (q : List ℕ) → Of (unrank (8 * rings) x y n) q → view rings k all_written q ≡ level
          here_view q i =
              let e = pair_entry rings k m o pair before valid all_written q (own_image q i) ∙ here q i in
              opened_other (successor_entry rings k all_written q) (λ z. omega (arith, e)) ∙ e

          elsewhere : (q : List ℕ) → OnPair rings m o q → (Of (unrank (8 * rings) x y n) q → ⊥)
              → successor_entry rings k all_written q ≡ successor_entry rings k now q
          elsewhere q s out =
              written_others rings k m o pair x y side.both (unrank (8 * rings) x y n) in_b t.own.start side.located.start_is level now maps
              few q s out

          elsewhere_own : (q : List ℕ) → InPair rings m o q → (Of (unrank (8 * rings) x y n) q → ⊥) → entry_at rings k all_written q ≡ entry_at rings k now q
          elsewhere_own q i out =
              sym (pair_entry rings k m o pair before valid all_written q i) ∙ elsewhere q (on_pair i) out ∙ pair_entry rings k m o pair before valid now q i

          either : (q : List ℕ) → OnPair rings m o q → Of (unrank (8 * rings) x y n) q ⊎ (Of (unrank (8 * rings) x y n) q → ⊥)
          either q s = apart rings k m o pair x y side.both (unrank (8 * rings) x y n) in_b t.own.start side.located.start_is maps few q s

          hit_all : JudgedTo (suc n) all_written
          hit_all = record {
            kept = kept_then rings k (BothTables m o) before now all_written w.kept
                (written_kept rings k m o pair x y side.both (unrank (8 * rings) x y n) in_b t.own.start side.located.start_is level now maps few);
            room = images_length rings t.own.start (unrank (8 * rings) x y n) level now maps ∙ w.room;
            amid = within_fewer (successors rule rings) (λ c. pair_seed rings k m o before c) (OnPair rings m o) (view rings k all_written) level
                (λ q. D q ⊎ Of (unrank (8 * rings) x y n) q) D (λ q d. inl d)
                (written (successors rule rings) (λ c. pair_seed rings k m o before c) (OnPair rings m o)
                (pair_ground rule takes rings k m o pair before valid) level low maps
                (λ g c. image rings g c) mapped (view rings k now) D w.amid w.symmetric (unrank (8 * rings) x y n) on_b live_b
                (view rings k all_written) open_b found
                here_view (λ q s out. ap (λ (e : ℕ). opened e) (elsewhere q s out)) either);
            symmetric = written_symmetric (successors rule rings) (λ c. pair_seed rings k m o before c) (OnPair rings m o)
                (pair_ground rule takes rings k m o pair before valid) level low maps
                (λ g c. image rings g c) mapped (view rings k now) D w.amid w.symmetric (unrank (8 * rings) x y n) on_b live_b
                (view rings k all_written) open_b found
                here_view (λ q s out. ap (λ (e : ℕ). opened e) (elsewhere q s out)) either;
            marks = λ q i v. go q i v (either q (on_pair i));
            pending = λ p i d. still p i (on_pair (pair_table side.both i)) (w.pending p i d) (either p (on_pair (pair_table side.both i)));
          }
            where
              go : (q : List ℕ) → InPair rings m o q → entry_at rings k all_written q ≡ void_entry
                  → Of (unrank (8 * rings) x y n) q ⊎ (Of (unrank (8 * rings) x y n) q → ⊥) → InTable rings x y q × (suc n ≤ rank q)
              go q i v (inl a) = absurd (omega (arith, sym v ∙ here q a))
              go q i v (inr out) =
                  let a = w.marks q i (sym (elsewhere_own q i out) ∙ v) in (
                    a.0,
                    later q a.0 a.1 (λ e. out (subst (Of (unrank (8 * rings) x y n)) (sym e)
                        (image_self (successors rule rings) (λ c. pair_seed rings k m o before c) (OnPair rings m o) maps (λ g c. image rings g c)
                        mapped (unrank (8 * rings) x y n)
                        on_b))),
                  )

              still : (p : List ℕ) → InTable rings x y p → OnPair rings m o p
                  → (entry_at rings k now p ≡ level) ⊎ ((q : List ℕ) × Of p q × (entry_at rings k now q ≡ void_entry))
                  → Of (unrank (8 * rings) x y n) p ⊎ (Of (unrank (8 * rings) x y n) p → ⊥)
                  → (entry_at rings k all_written p ≡ level) ⊎ ((q : List ℕ) × Of p q × (entry_at rings k all_written q ≡ void_entry))
              still p i s c (inl a) = inl (here p a)
              still p i s (inl v) (inr out) = inl (elsewhere_own p (pair_table side.both i) out ∙ v)
              still p i s (inr (q, f, v)) (inr out) =
                  inr (
                    q,
                    f,
                    elsewhere_own q
                        (pair_table side.both (image_own rule takes commutes rings k m o pair before valid maps group mirrored x y p q i f))
                        (λ a. out
                        (image_trans (successors rule rings) (λ c. pair_seed rings k m o before c) (OnPair rings m o) maps (λ g c. image rings g c)
                        mapped (unrank (8 * rings) x y n) q p on_b a
                        (image_sym (successors rule rings) (λ c. pair_seed rings k m o before c) (OnPair rings m o)
                        maps (λ g c. image rings g c) mapped p q s f))) ∙ v,
                  )

      -- one position judged
      pub judged_step : JudgedTo (suc n) (judged_class rule rings t same level maps now n)
      unfolding judged_class
      judged_step =
          go (eqb (entry_at rings k now (unrank (8 * rings) x y n)) void_entry) refl
          (hit (successors rule rings) (view rings k now) level (unrank (8 * rings) x y n)) refl
        where
          go : (a : Bool) → eqb (entry_at rings k now (unrank (8 * rings) x y n)) void_entry ≡ a
              → (c : Bool) → hit (successors rule rings) (view rings k now) level (unrank (8 * rings) x y n) ≡ c
              → JudgedTo (suc n) (judged_class rule rings t same level maps now n)
          go false e c f = rw (marked_is ∙ e, judged_class) (unmarked (eqb-false (entry_at rings k now (unrank (8 * rings) x y n)) void_entry e))
          go true e true f =
              rw (marked_is ∙ e, seen_is ∙ f, ranked_is rings k m o pair x y t same side n, judged_class)
              (hit_all (eqb-true (entry_at rings k now (unrank (8 * rings) x y n)) void_entry e) f)
          go true e false f =
              rw (marked_is ∙ e, seen_is ∙ f, place_is rings k m o pair x y t same side n h, judged_class)
              (missed (eqb-true (entry_at rings k now (unrank (8 * rings) x y n)) void_entry e) f)

    -- place after place
    pub judged_all : (now : List ℕ) → JudgedTo 0 now → (n : ℕ) → n ≤ size (8 * rings) x y
        → JudgedTo n (judged_first rule rings t same level maps now n)
    unfolding judged_first
    judged_all now w zero h = w
    judged_all now w (suc n) h = judged_step n h (judged_first rule rings t same level maps now n) (judged_all now w n (omega arith))
