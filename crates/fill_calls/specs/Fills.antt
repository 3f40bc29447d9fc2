-- The calls `fill` and `fill_pair` (document 01: "rings, K, limit and shelf (for a pair also the counts), to fill"; document 02, A11: they take the
-- edition). Assumes nothing.
use Rattle.std.specs.Prelude.{◌≡◌, Bool, List, [], ◌∷◌, ℕ, zero, suc, length}
use Rattle.rules.specs.Ply.{removable}
use Rattle.outcomes.specs.Whole.{whole_seed}
use Rattle.outcomes.specs.Pair.{pair_seed}
use Rattle.outcomes.specs.Filled.{AllTables, BothTables, Fill}
use Rattle.refusals.specs.Refusals.{Pick, pick, too_deep, refusal}
use Rattle.refusals.specs.Conditions.{fill_picks, pair_picks}
use Rattle.answers.specs.Answers.{Answer, answer}

-- what the tablebase holds at exit, by the refusal met before any entry is written: as it was; or filled, or void where a position is too deep
abbrev pub Left : ℕ → Type 0 → List ℕ → List ℕ → Type 0
Left zero fill before after = fill
Left (suc n) fill before after = after ≡ before

-- the picked conditions come first, 13 after them: "a forced end beyond the limit among the positions to fill"
pub record Promise (picks : List Pick) (fill : Bool → Type 0) (before after : List ℕ) (a : Answer) : Type 0 where
  pub deep : Bool
  pub answer_is : a ≡ answer (refusal (pick too_deep deep ∷ picks)) []
  pub left : Left (refusal picks) (fill deep) before after

-- 1, 20, 11, 6, 10, then 13; else every table holds the entries of the whole game under the edition
abbrev pub FillCall : ℕ → ℕ → ℕ → ℕ → List ℕ → List ℕ → Answer → Type 0
FillCall rings edition k limit before after a = Promise (fill_picks rings edition k limit (length before))
    (λ deep. Fill (removable edition) rings k limit (AllTables rings k) (λ b. whole_seed b) before after deep) before after a

-- 1, 20, 4, 11, 6, 10, 12, then 13; else both tables hold the entries of the pair's game under the edition
abbrev pub FillPairCall : ℕ → ℕ → ℕ → ℕ → ℕ → ℕ → List ℕ → List ℕ → Answer → Type 0
FillPairCall rings edition m o k limit before after a = Promise (pair_picks rings edition m o k limit before)
    (λ deep. Fill (removable edition) rings k limit (BothTables m o) (λ b. pair_seed rings k m o before b) before after deep) before after a
