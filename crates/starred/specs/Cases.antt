-- The starred cases of document 01, "Positions and edges": one table. Assumes nothing.
use Rattle.std.specs.Prelude.{Bool, ◌&&◌, List, [], ◌∷◌, reverse, ℕ, ◌*◌, eqb}
use Rattle.sizes.specs.Size.{size}
use Rattle.rules.specs.Ply.{removable, successors}
use Rattle.game.specs.Game.{depth_is}
use Rattle.outcomes.specs.Whole.{whole_seed}
use Rattle.layout.specs.Layout.{tablebase_length}
use Rattle.refusals.specs.Refusals.{refusal}
use Rattle.refusals.specs.Conditions.{rank_picks}
use Rattle.answers.specs.Answers.{number, value}
use Rattle.rank_calls.specs.RankCall.{rank_call}

pub data Case : Type 0 where
  -- a board, read from its highest point down, has this rank
  rank_is : (rings : ℕ) (reading : List ℕ) (rank : ℕ) → Case
  -- its entry in the whole game, under edition 1, is this
  entry_is : (rings : ℕ) (reading : List ℕ) (entry : ℕ) → Case
  -- a rank of table (m, o) is refused with this number
  refusal_is : (rings m o rank number : ℕ) → Case
  -- table (m, o) has this size
  size_is : (rings m o size : ℕ) → Case
  -- a tablebase of largest count k has this length
  length_is : (rings k length : ℕ) → Case

unfoldable pub case_holds : Case → Bool
case_holds (rank_is rings reading r) = eqb (number (rank_call rings (reverse reading))) 0 && eqb (value (rank_call rings (reverse reading)) 0) r
case_holds (entry_is rings reading e) = depth_is (successors (removable 1) rings) (λ b. whole_seed b) e (reverse reading)
case_holds (refusal_is rings m o r n) = eqb (refusal (rank_picks rings m o r (8 * rings))) n
case_holds (size_is rings m o n) = eqb (size (8 * rings) m o) n
case_holds (length_is rings k n) = eqb (tablebase_length (8 * rings) k) n

abbrev pub starred : List Case
starred =
    rank_is 1 (0 ∷ 0 ∷ 1 ∷ 1 ∷ 1 ∷ 2 ∷ 2 ∷ 2 ∷ []) 0
    ∷ rank_is 1 (1 ∷ 0 ∷ 0 ∷ 1 ∷ 1 ∷ 2 ∷ 2 ∷ 2 ∷ []) 140
    ∷ rank_is 1 (2 ∷ 0 ∷ 0 ∷ 1 ∷ 1 ∷ 1 ∷ 2 ∷ 2 ∷ []) 350
    ∷ rank_is 1 (2 ∷ 2 ∷ 2 ∷ 1 ∷ 1 ∷ 1 ∷ 0 ∷ 0 ∷ []) 559
    ∷ refusal_is 1 3 3 560 5
    ∷ rank_is 1 (0 ∷ 2 ∷ 1 ∷ 2 ∷ 2 ∷ 0 ∷ 1 ∷ 1 ∷ []) 117
    ∷ entry_is 1 (0 ∷ 2 ∷ 1 ∷ 2 ∷ 2 ∷ 0 ∷ 1 ∷ 1 ∷ []) 1
    ∷ rank_is 1 (1 ∷ 1 ∷ 1 ∷ 2 ∷ 0 ∷ 2 ∷ 0 ∷ 2 ∷ []) 225
    ∷ entry_is 1 (1 ∷ 1 ∷ 1 ∷ 2 ∷ 0 ∷ 2 ∷ 0 ∷ 2 ∷ []) 2
    ∷ size_is 3 3 3 2691920
    ∷ size_is 3 8 8 9465511770
    ∷ length_is 1 3 560
    ∷ length_is 1 4 1190
    ∷ length_is 1 5 1302
    ∷ []
