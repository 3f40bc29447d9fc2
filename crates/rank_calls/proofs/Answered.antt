-- What `rank` answers where its arguments pass, for those who call it and do not open its definition. Assumes nothing.
use mathlib.Core.Path.{◌≡◌, sym}
use mathlib.Core.List.{List, [], ◌∷◌}
use Prim.Native.Nat.{ℕ}
use Rattle.ranking.specs.Rank.{rank}
use Rattle.refusals.specs.Refusals.{refusal}
use Rattle.refusals.specs.Conditions.{board_picks}
use Rattle.answers.specs.Answers.{accepted}
use Rattle.answers.proofs.Answering.{answer_accepted}
use Rattle.rank_calls.specs.RankCall.{rank_call}

-- a board that passes has its rank
pub rank_answered : (rings : ℕ) (b : List ℕ) → refusal (board_picks rings b) ≡ 0 → rank_call rings b ≡ accepted (rank b ∷ [])
unfolding rank_call
rank_answered rings b e = sym (answer_accepted (refusal (board_picks rings b)) (rank b ∷ []) (sym e))
