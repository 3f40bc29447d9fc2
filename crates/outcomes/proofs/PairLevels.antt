-- A pair's tables as a table of entries in the sense of the game: what is given of the lower tables stands there, and a visit to a board writes its
-- place only. Assumes nothing.
use mathlib.Core.Path.{◌≡◌, refl, sym, ap, subst, ◌∙◌}
use mathlib.Core.Bool.{Bool, true, false, ◌&&◌}
use mathlib.Core.List.{List}
use mathlib.Core.Logic.{◌⊎◌, inl, inr}
use Prim.Native.Nat.{ℕ, ◌*◌, ◌≤◌, ◌<◌}
use native.Mathlib.Decide.{ℕ_discrete}
use native.Mathlib.Omega.{arith}
use lib.Dec.{eqb, ltb}
use lib.ListN.{length, set}
use borrow.Author.Tests.{ltb-true, ltb-false, eqb-true, eqb-false}
use Rattle.board.specs.Board.{count}
use Rattle.ranking.specs.Rank.{rank}
use Rattle.layout.specs.Layout.{tablebase_length}
use Rattle.rules.specs.Ply.{Rule, successors}
use Rattle.rules.proofs.Listed.{TakesOpponent}
use Rattle.game.specs.Game.{Seed, live, ends, drawn, draw_entry, void_entry}
use Rattle.game.specs.Judgement.{hit, visit}
use Rattle.game.proofs.Tables.{Ground, Seeded}
use Rattle.game.proofs.Hits.{visit_hit, visit_miss, visit_closed}
use Rattle.game.proofs.Levels.{Within, one}
use Rattle.outcomes.specs.Places.{place_of, entry_at, successor_entry}
use Rattle.outcomes.specs.Pair.{Pair, in_pair, given, pair_seed, LowerTables, LowerValid}
use Rattle.outcomes.specs.Filled.{BothTables, Kept}
use Rattle.outcomes.proofs.Boards.{InTables, place_within}
use Rattle.outcomes.proofs.Ranked.{own_table, rank_in, one_board}
use Rattle.outcomes.proofs.PairGame.{OnPair, InPair, in_pair_lem, pair_in, PairReached, of_pair, two_left, below, reached, given_draw, given_ends}
use Rattle.outcomes.proofs.PairGame.{seed_in, seed_two, seed_given, stands, three_own, stands_own, pair_closed, live_in}
use Rattle.outcomes.proofs.Entries.{entry_rank, entry_two, entry_three, written_here, written_elsewhere, kept_lower}

-- a depth or a draw, and not void
abbrev pub Valid : ℕ → Type 0
Valid e = (e < void_entry) ⊎ (e ≡ draw_entry)

ends_same : {c d : ℕ} → ends c ≡ ends d → c ≡ d
ends_same e = cc

live_ends : {C : Type 0} {d : ℕ} → live ≡ ends d → C
live_ends e = let z : ◌≡◌ {A = ℕ} 0 1 = cc in absurd (omega arith)

live_drawn : {C : Type 0} → live ≡ drawn → C
live_drawn e = let z : ◌≡◌ {A = ℕ} 0 1 = cc in absurd (omega arith)

drawn_ends : {C : Type 0} {d : ℕ} → drawn ≡ ends d → C
drawn_ends e = let z : ◌≡◌ {A = ℕ} 0 1 = cc in absurd (omega arith)

-- a given entry, taken apart
given_is : (e : ℕ) → Valid e → ((given e ≡ ends e) × (e < void_entry)) ⊎ ((given e ≡ drawn) × (e ≡ draw_entry))
given_is e (inl l) = inl (given_ends e (λ q. omega arith), l)
given_is e (inr q) = inr (given_draw e q, q)

module _ (rings k m o : ℕ) (pair : Pair rings k m o) (before : List ℕ) (lower_valid : LowerValid rings k m o before) where
  pub pair_live : (b : List ℕ) → InPair rings m o b → pair_seed rings k m o before b ≡ live
  pair_live b i = seed_in rings k m o before b (in_pair_lem i)

  pub live_pair : (b : List ℕ) → OnPair rings m o b → pair_seed rings k m o before b ≡ live → InPair rings m o b
  live_pair b s e = pair_in s (live_in rings k m o pair before b e)

  -- an entry of the pair, as its successors see it
  pub pair_entry : (now b : List ℕ) → InPair rings m o b → successor_entry rings k now b ≡ entry_at rings k now b
  pair_entry now b i = entry_three rings k now b (three_own rings k m o pair b i)

module _ (rule : Rule) (takes : TakesOpponent rule) (rings k m o : ℕ) (pair : Pair rings k m o) (before : List ℕ)
    (lower_valid : LowerValid rings k m o before) where
  -- a board of a lower table
  valid : (b : List ℕ) → OnPair rings m o b → LowerTables m o (count 1 b) (count 2 b) → Valid (entry_at rings k before b)
  valid b s t =
      subst Valid (entry_rank rings k before b)
      (lower_valid (count 1 b) (count 2 b) (rank b) t (rank_in rings (count 1 b) (count 2 b) b (own_table rings k b (stands rings k m o pair b s t.0))))

  abbrev seed : List ℕ → Seed
  seed b = pair_seed rings k m o before b

  pub pair_ground : Ground (successors rule rings) (λ b. pair_seed rings k m o before b) (OnPair rings m o)
  pair_ground = record {
    closed = λ p s e q h. pair_closed rule takes rings k m o pair p (live_pair rings k m o pair before lower_valid p s e) q h;
    given_low = λ q s e. low q s e (reached q s);
  }
    where
      low : (q : List ℕ) {d : ℕ} → OnPair rings m o q → seed q ≡ ends d → PairReached rings m o q → d < void_entry
      low q s e (of_pair i) = live_ends (sym (pair_live rings k m o pair before lower_valid q i) ∙ e)
      low q {d} s e (two_left f l) = let z : 0 ≡ d = ends_same (sym (seed_two rings k m o before q f l) ∙ e) in omega arith
      low q {d} s e (below f t) = go (given_is (entry_at rings k before q) (valid q s t))
        where
          x : given (entry_at rings k before q) ≡ ends d
          x = sym (seed_given rings k m o before q f t.0) ∙ e

          go : ((given (entry_at rings k before q) ≡ ends (entry_at rings k before q)) × (entry_at rings k before q < void_entry))
              ⊎ ((given (entry_at rings k before q) ≡ drawn) × (entry_at rings k before q ≡ draw_entry)) → d < void_entry
          go (inl y) = let z = ends_same (sym y.0 ∙ x) in omega (arith, y.1)
          go (inr y) = drawn_ends (sym y.0 ∙ x)

  -- the entries of a tablebase whose lower tables are as they were
  module _ (now : List ℕ) (kept : Kept rings k (BothTables m o) before now) where
    lower_entry : (q : List ℕ) → OnPair rings m o q → in_pair m o q ≡ false → 3 ≤ count 1 q → successor_entry rings k now q ≡ entry_at rings k before q
    lower_entry q s f l = entry_three rings k now q l ∙ kept_lower rings k m o pair before now kept q s f l

    pub pair_seeded : Seeded (successors rule rings) (λ b. pair_seed rings k m o before b) (OnPair rings m o) (λ b. successor_entry rings k now b)
    pair_seeded = record { at_end = λ q s e. end q s e (reached q s); at_draw = λ q s e. draw q s e (reached q s) }
      where
        end : (q : List ℕ) {d : ℕ} → OnPair rings m o q → seed q ≡ ends d → PairReached rings m o q → successor_entry rings k now q ≡ d
        end q s e (of_pair i) = live_ends (sym (pair_live rings k m o pair before lower_valid q i) ∙ e)
        end q s e (two_left f l) = entry_two rings k now q l ∙ ends_same (sym (seed_two rings k m o before q f l) ∙ e)
        end q {d} s e (below f t) = go (given_is (entry_at rings k before q) (valid q s t))
          where
            x : given (entry_at rings k before q) ≡ ends d
            x = sym (seed_given rings k m o before q f t.0) ∙ e

            go : ((given (entry_at rings k before q) ≡ ends (entry_at rings k before q)) × (entry_at rings k before q < void_entry))
                ⊎ ((given (entry_at rings k before q) ≡ drawn) × (entry_at rings k before q ≡ draw_entry)) → successor_entry rings k now q ≡ d
            go (inl y) = lower_entry q s f t.0 ∙ ends_same (sym y.0 ∙ x)
            go (inr y) = drawn_ends (sym y.0 ∙ x)

        draw : (q : List ℕ) → OnPair rings m o q → seed q ≡ drawn → PairReached rings m o q → successor_entry rings k now q ≡ draw_entry
        draw q s e (of_pair i) = live_drawn (sym (pair_live rings k m o pair before lower_valid q i) ∙ e)
        draw q s e (two_left f l) = drawn_ends (sym e ∙ seed_two rings k m o before q f l)
        draw q s e (below f t) = go (given_is (entry_at rings k before q) (valid q s t))
          where
            go : ((given (entry_at rings k before q) ≡ ends (entry_at rings k before q)) × (entry_at rings k before q < void_entry))
                ⊎ ((given (entry_at rings k before q) ≡ drawn) × (entry_at rings k before q ≡ draw_entry)) → successor_entry rings k now q ≡ draw_entry
            go (inl y) = drawn_ends (sym e ∙ seed_given rings k m o before q f t.0 ∙ y.0)
            go (inr y) = lower_entry q s f t.0 ∙ y.1

  -- the entries by which boards are judged in a tablebase, and what holds of them in the middle of level n
  abbrev pub seen : List ℕ → List ℕ → ℕ
  seen now b = successor_entry rings k now b

  abbrev pub Amid : ℕ → (List ℕ → Type 0) → List ℕ → Type 0
  Amid n D now = Within (successors rule rings) (λ b. pair_seed rings k m o before b) (OnPair rings m o) (seen now) n D

  module _ (n : ℕ) (small : n < void_entry) (now : List ℕ) (room : length now ≡ tablebase_length (8 * rings) k) (p : List ℕ) (i : InPair rings m o p) where
    stand : InTables rings k p
    stand = stands_own rings k m o pair p i

    abbrev written : List ℕ
    written = set now (place_of rings k p) n

    -- the place of p is written, and no other
    elsewhere : (q : List ℕ) → OnPair rings m o q → (q ≡ p → ⊥) → seen written q ≡ seen now q
    elsewhere q s ne = at (ltb (count 1 q) 3) refl
      where
        at : (c : Bool) → ltb (count 1 q) 3 ≡ c → seen written q ≡ seen now q
        at true f = let l = ltb-true (count 1 q) 3 f in entry_two rings k written q l ∙ sym (entry_two rings k now q l)
        at false f = let l = ltb-false (count 1 q) 3 f in
            entry_three rings k written q l ∙ written_elsewhere rings k now p n q stand (stands rings k m o pair q s l) ne ∙ sym (entry_three rings k now q l)

    here : seen written p ≡ n
    here = pair_entry rings k m o pair before lower_valid written p i ∙ written_here rings k now p n (omega (arith, place_within rings k p stand))

    -- boards of the pair are told apart by their places
    same : (q : List ℕ) → InPair rings m o q → (q ≡ p) ⊎ (q ≡ p → ⊥)
    same q j = apart (ℕ_discrete (place_of rings k q) (place_of rings k p))
      where
        apart : Dec (place_of rings k q ≡ place_of rings k p) → (q ≡ p) ⊎ (q ≡ p → ⊥)
        apart (yes e) = inl (one_board rings k q p (stands_own rings k m o pair q j) stand e)
        apart (no d) = inr (λ e. d (ap (place_of rings k) e))

    module _ (D : List ℕ → Type 0) (w : Amid n D now) where
      more : (after : List ℕ) → ((q : List ℕ) → OnPair rings m o q → (q ≡ p → ⊥) → seen after q ≡ seen now q)
          → seen after p ≡ visit (successors rule rings) (seen now) n p → Amid n (λ b. D b ⊎ (b ≡ p)) after
      more after others at =
          one (successors rule rings) (λ b. pair_seed rings k m o before b) (OnPair rings m o) pair_ground n small (seen now) (seen after) D p w
          (λ q s dead. others q s (λ e. dead (subst (λ (x : List ℕ). seed x ≡ live) (sym e) (pair_live rings k m o pair before lower_valid p i))))
          (λ q s e. each q s (same q (live_pair rings k m o pair before lower_valid q s e)))
        where
          each : (q : List ℕ) → OnPair rings m o q → (q ≡ p) ⊎ (q ≡ p → ⊥)
              → ((q ≡ p → ⊥) × (seen after q ≡ seen now q)) ⊎ (seen after q ≡ visit (successors rule rings) (seen now) n q)
          each q s (inl e) = inr (subst (λ (x : List ℕ). seen after x ≡ visit (successors rule rings) (seen now) n x) (sym e) at)
          each q s (inr ne) = inl (ne, others q s ne)

      -- a visit to a board at level n: an open place that is hit gets n
      pub visited : (after : List ℕ) → after ≡ elim (eqb (entry_at rings k now p) draw_entry && hit (successors rule rings) (seen now) n p)
          [ true ↦ written | false ↦ now ]
          → Amid n (λ b. D b ⊎ (b ≡ p)) after
      visited after is = go (eqb (entry_at rings k now p) draw_entry) refl (hit (successors rule rings) (seen now) n p) refl
        where
          go : (a : Bool) → eqb (entry_at rings k now p) draw_entry ≡ a → (c : Bool) → hit (successors rule rings) (seen now) n p ≡ c
              → Amid n (λ b. D b ⊎ (b ≡ p)) after
          go true f true g =
              let e : after ≡ written = is ∙ rw (f, g) in
              subst (Amid n (λ b. D b ⊎ (b ≡ p))) (sym e) (more written elsewhere
              (here ∙ sym (visit_hit (successors rule rings) (seen now) n p (pair_entry rings k m o pair before lower_valid now p i
              ∙ eqb-true (entry_at rings k now p) draw_entry f) g)))
          go true f false g =
              let e : after ≡ now = is ∙ rw (f, g) in
              subst (Amid n (λ b. D b ⊎ (b ≡ p))) (sym e) (more now (λ q s ne. refl) (sym (visit_miss (successors rule rings) (seen now) n p g)))
          go false f c g =
              let e : after ≡ now = is ∙ rw f in
              subst (Amid n (λ b. D b ⊎ (b ≡ p))) (sym e) (more now (λ q s ne. refl)
              (sym (visit_closed (successors rule rings) (seen now) n p (λ h. eqb-false (entry_at rings k now p) draw_entry f
              (sym (pair_entry rings k m o pair before lower_valid now p i) ∙ h)))))
