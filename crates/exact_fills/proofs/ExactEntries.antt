-- Demand 3 of the calls `fill` and `fill_pair`, under the edition of the call: every entry of an accepted fill is exact, one fill leaves one tablebase
-- whatever it held before, 13 is answered exactly when some forced end lies beyond the limit, and pairs filled in order make what one fill makes.
-- Assumes nothing.
use mathlib.Core.Path.{◌≡◌, subst}
use mathlib.Core.Bool.{true, false}
use mathlib.Core.List.{List, []}
use mathlib.Core.Logic.{◌⊎◌, inl, inr}
use Prim.Native.Nat.{ℕ, ◌+◌, ◌*◌, ◌≤◌, ◌<◌}
use native.Mathlib.Omega.{arith}
use lib.ListN.{length, get_or}
use Rattle.lists.proofs.Tests.{clash}
use Rattle.sizes.specs.Size.{size}
use Rattle.ranking.specs.Unrank.{unrank}
use Rattle.layout.specs.Layout.{start, tablebase_length}
use Rattle.rules.specs.Ply.{Rule, removable, successors}
use Rattle.rules.proofs.Listed.{removable_takes}
use Rattle.game.specs.Game.{Seed, ended, draw_entry, Draw, ForcedIn, Outcome, HasOutcome}
use Rattle.game.proofs.Entries.{entry_forced, forced_entry, entry_draw, draw_entry_lem}
use Rattle.game.proofs.Outcomes.{same_outcome}
use Rattle.outcomes.specs.Whole.{whole_seed}
use Rattle.outcomes.specs.Pair.{Pair, pair_seed}
use Rattle.outcomes.specs.Filled.{AllTables, BothTables, Filled, TooDeep}
use Rattle.outcomes.specs.Order.{Beyond, InOrder, one_pair}
use Rattle.outcomes.proofs.Unique.{filled_one}
use Rattle.outcomes.proofs.Order.{in_order_one}
use Rattle.refusals.specs.Refusals.{refusal}
use Rattle.refusals.specs.Conditions.{fill_picks, pair_picks}
use Rattle.answers.specs.Answers.{Answer, accepted, refused}
use Rattle.fill_calls.specs.Fills.{FillCall, FillPairCall}
use Rattle.refusals.proofs.TablebaseConditions.{AcceptedFill, accepted_fill, accepted_pair, pair_before}
use Rattle.fill_calls.proofs.Promised as promised

-- a forced end beyond the limit: not filled, so 13
deep_answer : (rule : Rule) (rings k limit : ℕ) (T : ℕ → ℕ → Type 0) (seed : List ℕ → Seed) (before after : List ℕ) (a : Answer)
    → ((a ≡ accepted []) × Filled rule rings k limit T seed before after) ⊎ ((a ≡ refused 13) × TooDeep rule rings k limit T seed before after)
    → (m o r : ℕ) → T m o → r < size (8 * rings) m o → (n : ℕ) → ended (successors rule rings) seed n (unrank (8 * rings) m o r) ≡ true
    → ended (successors rule rings) seed limit (unrank (8 * rings) m o r) ≡ false → a ≡ refused 13
deep_answer rule rings k limit T seed before after a (inl f) m o r t h n e b = clash (f.1.within m o r t h n e) b
deep_answer rule rings k limit T seed before after a (inr f) m o r t h n e b = f.0

-- the counts of a pair that meets no refusal
pair_met : (rings edition m o k limit : ℕ) (before : List ℕ) → refusal (pair_picks rings edition m o k limit before) ≡ 0 → Pair rings k m o
pair_met rings edition m o k limit before e =
    let w = accepted_pair rings edition m o k limit (length before) (pair_before rings edition m o k limit before e) in
    record {
      small = w.tablebase.rings_high;
      mover_low = w.is_table.mover_low;
      mover_high = w.is_table.mover_high;
      opponent_low = w.is_table.opponent_low;
      opponent_high = w.is_table.opponent_high;
    }

module _ (rings edition k limit : ℕ) (before after : List ℕ) where
  -- an accepted fill: its conditions held, and the tables hold the entries of the whole game
  pub fill_accepted : FillCall rings edition k limit before after (accepted [])
      → AcceptedFill rings edition k limit (length before)
      × Filled (removable edition) rings k limit (AllTables rings k) (λ b. whole_seed b) before after
  fill_accepted p =
      let f = promised.accepted_fill (fill_picks rings edition k limit (length before))
      (promised.fill_last rings edition k limit (length before)) _ before after p in
      (accepted_fill rings edition k limit (length before) f.0, f.1)

  module _ (p : FillCall rings edition k limit before after (accepted [])) (m o r : ℕ)
      (t : AllTables rings k m o) (h : r < size (8 * rings) m o) where
    abbrev entry : ℕ
    entry = get_or after (start (8 * rings) k m o + r) 0

    abbrev position : List ℕ
    position = unrank (8 * rings) m o r

    -- for every n up to the limit the entry is n exactly when one side can force a win within n plies and within no fewer
    pub entry_exact : (n : ℕ) → n ≤ limit
        → (entry ≡ n → ForcedIn (successors (removable edition) rings) (λ b. whole_seed b) n position)
        × (ForcedIn (successors (removable edition) rings) (λ b. whole_seed b) n position → entry ≡ n)
    entry_exact n l =
        let f = fill_accepted p in
        let e = f.1.entries m o r t h in (
          λ v. subst (λ (i : ℕ). ForcedIn (successors (removable edition) rings) (λ b. whole_seed b) i position) v
              (entry_forced (successors (removable edition) rings) (λ b. whole_seed b) position e (omega (arith, v, f.0.limit_high))),
          λ w. forced_entry (successors (removable edition) rings) (λ b. whole_seed b) position e n w,
        )

    -- and draw exactly when neither can within any number of plies
    pub draw_exact : (entry ≡ draw_entry → Draw (successors (removable edition) rings) (λ b. whole_seed b) position)
        × (Draw (successors (removable edition) rings) (λ b. whole_seed b) position → entry ≡ draw_entry)
    draw_exact =
        let e = (fill_accepted p).1.entries m o r t h in (
          λ v. entry_draw (successors (removable edition) rings) (λ b. whole_seed b) position e v,
          λ w. draw_entry_lem (successors (removable edition) rings) (λ b. whole_seed b) position e w,
        )

  -- 13: the conditions held, and some position has a forced end beyond the limit
  pub fill_too_deep : FillCall rings edition k limit before after (refused 13)
      → (refusal (fill_picks rings edition k limit (length before)) ≡ 0)
      × TooDeep (removable edition) rings k limit (AllTables rings k) (λ b. whole_seed b) before after
  fill_too_deep p = promised.deep_fill (fill_picks rings edition k limit (length before))
      (promised.fill_last rings edition k limit (length before)) _ before after p

  -- and where they hold and some position has, 13 is answered
  pub too_deep_fill : (a : Answer) → FillCall rings edition k limit before after a → refusal (fill_picks rings edition k limit (length before)) ≡ 0
      → Beyond (removable edition) rings k limit → a ≡ refused 13
  too_deep_fill a p e d = deep_answer (removable edition) rings k limit (AllTables rings k) (λ b. whole_seed b) before after a
      (promised.either_way (fill_picks rings edition k limit (length before)) (promised.fill_last rings edition k limit (length before)) _
      before after a e p)
      d.mover d.opponent d.rank d.in_table d.rank_low d.plies d.forced d.beyond

-- two accepted fills of one size under one edition leave one tablebase, whatever the buffers held and whatever the limits
pub fill_one : (rings edition k limit limit' : ℕ) (a b a' b' : List ℕ) → FillCall rings edition k limit a a' (accepted [])
    → FillCall rings edition k limit' b b' (accepted []) → a' ≡ b'
fill_one rings edition k limit limit' a b a' b' p q =
    let f = fill_accepted rings edition k limit a a' p in
    let g = fill_accepted rings edition k limit' b b' q in
    filled_one (removable edition) rings k (λ c. whole_seed c) limit limit' a b a' b' f.0.tablebase.exact g.0.tablebase.exact f.1 g.1

-- two entries, of one fill or of two, are equal exactly when the outcomes are, each under the edition of its fill
pub entries_outcomes : (rings rings' edition edition' k k' limit limit' : ℕ) (a b a' b' : List ℕ) → FillCall rings edition k limit a a' (accepted [])
    → FillCall rings' edition' k' limit' b b' (accepted [])
    → (m o r m' o' r' : ℕ) → AllTables rings k m o → r < size (8 * rings) m o → AllTables rings' k' m' o' → r' < size (8 * rings') m' o' → (x y : Outcome)
    → HasOutcome (successors (removable edition) rings) (λ c. whole_seed c) (unrank (8 * rings) m o r) x
    → HasOutcome (successors (removable edition') rings') (λ c. whole_seed c) (unrank (8 * rings') m' o' r') y
    → (get_or a' (start (8 * rings) k m o + r) 0 ≡ get_or b' (start (8 * rings') k' m' o' + r') 0 → x ≡ y)
    × (x ≡ y → get_or a' (start (8 * rings) k m o + r) 0 ≡ get_or b' (start (8 * rings') k' m' o' + r') 0)
entries_outcomes rings rings' edition edition' k k' limit limit' a b a' b' p q m o r m' o' r' t h t' h' x y u v =
    same_outcome (successors (removable edition) rings) (λ c. whole_seed c) (unrank (8 * rings) m o r) (successors (removable edition') rings')
    (λ c. whole_seed c) (unrank (8 * rings') m' o' r') x y
    ((fill_accepted rings edition k limit a a' p).1.entries m o r t h) ((fill_accepted rings' edition' k' limit' b b' q).1.entries m' o' r' t' h') u v

-- an accepted fill of a pair: both tables hold the entries of the pair's game, and everything else is as it was
pub pair_accepted : (rings edition m o k limit : ℕ) (before after : List ℕ) → FillPairCall rings edition m o k limit before after (accepted [])
    → Pair rings k m o × Filled (removable edition) rings k limit (BothTables m o) (λ b. pair_seed rings k m o before b) before after
pair_accepted rings edition m o k limit before after p =
    let f = promised.accepted_fill (pair_picks rings edition m o k limit before)
    (promised.pair_last rings edition m o k limit before) _ before after p in
    (pair_met rings edition m o k limit before f.0, f.1)

-- 13 of a pair, both ways
pub pair_too_deep : (rings edition m o k limit : ℕ) (before after : List ℕ) → FillPairCall rings edition m o k limit before after (refused 13)
    → (refusal (pair_picks rings edition m o k limit before) ≡ 0) × TooDeep (removable edition) rings k limit (BothTables m o)
    (λ b. pair_seed rings k m o before b) before after
pair_too_deep rings edition m o k limit before after p =
    promised.deep_fill (pair_picks rings edition m o k limit before) (promised.pair_last rings edition m o k limit before) _ before after p

pub too_deep_pair : (rings edition m o k limit : ℕ) (before after : List ℕ) (a : Answer) → FillPairCall rings edition m o k limit before after a
    → refusal (pair_picks rings edition m o k limit before) ≡ 0 → (x y r : ℕ) → BothTables m o x y → r < size (8 * rings) x y → (n : ℕ)
    → ended (successors (removable edition) rings) (λ b. pair_seed rings k m o before b) n (unrank (8 * rings) x y r) ≡ true
    → ended (successors (removable edition) rings) (λ b. pair_seed rings k m o before b) limit (unrank (8 * rings) x y r) ≡ false → a ≡ refused 13
too_deep_pair rings edition m o k limit before after a p e =
    deep_answer (removable edition) rings k limit (BothTables m o) (λ b. pair_seed rings k m o before b) before after a
    (promised.either_way (pair_picks rings edition m o k limit before) (promised.pair_last rings edition m o k limit before) _ before after a e p)

-- pairs filled in order, each by an accepted call, make the tablebase that one fill makes
pub next_pair : (rings edition k m o limit : ℕ) (before after : List ℕ) → InOrder (removable edition) rings k m o before → o ≤ m
    → FillPairCall rings edition m o k limit before after (accepted [])
    → InOrder (removable edition) rings k m (o + 1) after
next_pair rings edition k m o limit before after w h p =
    let f = pair_accepted rings edition m o k limit before after p in
    one_pair m o limit before after f.0 h w f.1

pub pairs_fill : (rings edition k limit : ℕ) (a b b' : List ℕ) → InOrder (removable edition) rings k (k + 1) 3 a
    → length a ≡ tablebase_length (8 * rings) k
    → FillCall rings edition k limit b b' (accepted []) → a ≡ b'
pairs_fill rings edition k limit a b b' w n p =
    let f = fill_accepted rings edition k limit b b' p in
    in_order_one (removable edition) (removable_takes edition) rings k limit a b b' w n f.0.tablebase.exact f.1
