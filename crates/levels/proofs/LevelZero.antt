-- Level 0 in the pair's game: a position has depth 0 where its mover is blocked, and every position of the table has been visited, while the others
-- are as they were. Assumes nothing.
use mathlib.Core.Path.{◌≡◌, sym, ap, ap₂, subst, ◌∙◌}
use mathlib.Core.Bool.{Bool, true, false, ◌&&◌}
use mathlib.Core.List.{List}
use mathlib.Core.Logic.{◌⊎◌, inl, inr}
use Prim.Native.Nat.{ℕ, zero, suc, ◌+◌, ◌*◌, ◌≤◌, ◌<◌}
use native.Mathlib.Decide.{ℕ_discrete}
use native.Mathlib.Omega.{arith}
use lib.Dec.{eqb}
use lib.ListN.{length, set}
use Rattle.sizes.specs.Size.{size}
use Rattle.ranking.specs.Rank.{rank}
use Rattle.ranking.specs.Unrank.{unrank}
use Rattle.layout.specs.Layout.{tablebase_length}
use Rattle.rules.specs.Ply.{Rule, successors, blocked}
use Rattle.rules.proofs.Blocked.{blocked_successors}
use Rattle.rules.proofs.Listed.{TakesOpponent}
use Rattle.game.specs.Game.{draw_entry}
use Rattle.game.specs.Judgement.{hit}
use Rattle.game.proofs.Hits.{hit_zero}
use Rattle.game.proofs.Levels.{within_fewer}
use Rattle.outcomes.specs.Places.{place_of, entry_at, successor_entry}
use Rattle.outcomes.specs.Pair.{Pair, pair_seed, LowerValid}
use Rattle.outcomes.specs.Filled.{BothTables, Kept}
use Rattle.outcomes.proofs.Ranked.{InTable, rank_in, unrank_of}
use Rattle.outcomes.proofs.PairGame.{OnPair}
use Rattle.outcomes.proofs.Entries.{kept_same, kept_set, kept_then}
use Rattle.outcomes.proofs.PairLevels.{Amid, visited}
use Rattle.tables.specs.declared.Table.{Table}
use Rattle.deciding.specs.Inner.Open.{is_open, board_at}
use Rattle.ending.specs.Inner.Blocked.{blocked_place, blocked_first}
use Rattle.levels.proofs.Sides.{Side, ranked_is, board_in_lem, place_is, open_is}

module _ (rings k m o : ℕ) (pair : Pair rings k m o) (x y : ℕ) (t : Table) (same : ℕ) (side : Side rings k m o x y t same) where
  module _ (r : ℕ) (h : r < size (8 * rings) x y) (now : List ℕ) where
    place_kept : Kept rings k (BothTables m o) now (blocked_place rings t now r)
    unfolding blocked_place
    place_kept = go (is_open t now r && blocked rings (board_at rings t same r))
      where
        go : (b : Bool) → Kept rings k (BothTables m o) now (elim b [ true ↦ set now (t.own.start + r) 0 | false ↦ now ])
        go true = subst (λ (s : ℕ). Kept rings k (BothTables m o) now (set now (s + r) 0)) (sym side.located.start_is)
            (kept_set rings k (BothTables m o) now x y r 0 side.both h)
        go false = kept_same rings k (BothTables m o) now

  -- the first n places
  pub blocked_kept : (now : List ℕ) (n : ℕ) → n ≤ size (8 * rings) x y → Kept rings k (BothTables m o) now (blocked_first rings t now n)
  unfolding blocked_first
  blocked_kept now zero h = kept_same rings k (BothTables m o) now
  blocked_kept now (suc n) h =
      kept_then rings k (BothTables m o) now (blocked_first rings t now n) (blocked_first rings t now (suc n)) (blocked_kept now n (omega arith))
      (place_kept n (omega arith) (blocked_first rings t now n))

module _ (rule : Rule) (takes : TakesOpponent rule) (rings k m o : ℕ) (pair : Pair rings k m o) (x y : ℕ) (t : Table) (same : ℕ)
    (side : Side rings k m o x y t same) where
  module _ (r : ℕ) (h : r < size (8 * rings) x y) (now : List ℕ) where
    -- the place of rank r gets 0 where the level hits it
    blocked_is : blocked_place rings t now r
        ≡ elim (eqb (entry_at rings k now (unrank (8 * rings) x y r)) draw_entry && hit (successors rule rings) (λ b. successor_entry rings k now b) 0
        (unrank (8 * rings) x y r)) [
          | true ↦ set now (place_of rings k (unrank (8 * rings) x y r)) 0
          | false ↦ now
        ]
    unfolding blocked_place
    blocked_is =
        ap₂ (λ (b : Bool) (i : ℕ). elim b as (λ d. List ℕ) [ true ↦ set now i 0 | false ↦ now ])
        (ap₂ (λ (a b : Bool). a && b) (open_is rings k m o pair x y t same side r h now)
        (ap (blocked rings) (ranked_is rings k m o pair x y t same side r)
        ∙ sym (blocked_successors rule rings (unrank (8 * rings) x y r))
        ∙ sym (hit_zero (successors rule rings) (λ b. successor_entry rings k now b) (unrank (8 * rings) x y r))))
        (place_is rings k m o pair x y t same side r h)

  module _ (before : List ℕ) (valid : LowerValid rings k m o before) (D : List ℕ → Type 0) where
    -- the positions done: those of D, and those of the first n ranks
    abbrev Done : ℕ → List ℕ → Type 0
    Done n b = D b ⊎ ((r : ℕ) × (r < n) × (b ≡ unrank (8 * rings) x y r))

    fewer : (E F : List ℕ → Type 0) (now : List ℕ) → ((b : List ℕ) → F b → E b) → Amid rule takes rings k m o pair before valid 0 E now
        → Amid rule takes rings k m o pair before valid 0 F now
    fewer E F now = within_fewer (successors rule rings) (λ c. pair_seed rings k m o before c)
        (OnPair rings m o) (λ b. successor_entry rings k now b) 0 E F

    last : (n : ℕ) (b : List ℕ) → Done (suc n) b → Done n b ⊎ (b ≡ unrank (8 * rings) x y n)
    last n b (inl d) = inl (inl d)
    last n b (inr (r, l, e)) = go (ℕ_discrete r n)
      where
        go : Dec (r ≡ n) → Done n b ⊎ (b ≡ unrank (8 * rings) x y n)
        go (yes q) = inr (e ∙ ap (unrank (8 * rings) x y) q)
        go (no d) = inl (inr (r, omega (arith, d), e))

    blocked_amid : (now : List ℕ) → length now ≡ tablebase_length (8 * rings) k → Amid rule takes rings k m o pair before valid 0 D now
        → (n : ℕ) → n ≤ size (8 * rings) x y → Amid rule takes rings k m o pair before valid 0 (Done n) (blocked_first rings t now n)
    unfolding blocked_first
    blocked_amid now room w zero h = fewer D (Done zero) now none w
      where
        none : (b : List ℕ) → Done zero b → D b
        none b (inl d) = d
        none b (inr (r, l, e)) = absurd (omega arith)
    blocked_amid now room w (suc n) h =
        fewer (λ b. Done n b ⊎ (b ≡ unrank (8 * rings) x y n)) (Done (suc n)) (blocked_first rings t now (suc n)) (last n)
        (visited rule takes rings k m o pair before valid 0 (omega arith) (blocked_first rings t now n)
        ((blocked_kept rings k m o pair x y t same side now n (omega arith)).same_length ∙ room)
        (unrank (8 * rings) x y n) (board_in_lem rings k m o pair x y t same side n (omega arith)) (Done n) (blocked_amid now room w n (omega arith))
        (blocked_place rings t (blocked_first rings t now n) n) (blocked_is n (omega arith) (blocked_first rings t now n)))

    -- the whole table
    pub blocked_table : (now : List ℕ) → length now ≡ tablebase_length (8 * rings) k → Amid rule takes rings k m o pair before valid 0 D now
        → Amid rule takes rings k m o pair before valid 0 (λ b. D b ⊎ InTable rings x y b) (blocked_first rings t now (size (8 * rings) x y))
    blocked_table now room w =
        fewer (Done (size (8 * rings) x y)) (λ b. D b ⊎ InTable rings x y b) (blocked_first rings t now (size (8 * rings) x y)) done
        (blocked_amid now room w (size (8 * rings) x y) (omega arith))
      where
        done : (b : List ℕ) → D b ⊎ InTable rings x y b → Done (size (8 * rings) x y) b
        done b (inl d) = inl d
        done b (inr i) = inr (rank b, rank_in rings x y b i, sym (unrank_of rings x y b i))
