-- The two calls undo each other (demand 2): an accepted board is what `unrank` writes for the rank that `rank` answers, and the board that
-- `unrank` writes has the rank that was asked for. Assumes nothing.
use mathlib.Core.Path.{◌≡◌, sym, ap, ◌∙◌, subst}
use mathlib.Core.List.{List, [], ◌∷◌}
use Prim.Native.Nat.{ℕ, ◌*◌, ◌<◌}
use lib.ListN.{length}
use borrow.Author.Tests.{lt-leb}
use Rattle.board.specs.Board.{count}
use Rattle.sizes.specs.Size.{size}
use Rattle.ranking.specs.Rank.{rank}
use Rattle.ranking.specs.Unrank.{unrank}
use Rattle.ranking.proofs.Inverse.{rank_unrank, unrank_rank, rank_low}
use Rattle.refusals.specs.Refusals.{refusal_table, picked_rows, refusal}
use Rattle.refusals.specs.Conditions.{board_picks, rank_picks}
use Rattle.answers.specs.Answers.{accepted, answer, number, target}
use Rattle.rank_calls.specs.RankCall.{rank_call}
use Rattle.rank_calls.specs.UnrankCall.{unrank_call, unrank_target}
use Rattle.refusals.proofs.FirstRefusal.{passes}
use Rattle.refusals.proofs.Conditions.{accepted_board, accepted_rank, rings_fine, length_fine, values_fine, counts_fine}
use Rattle.answers.proofs.Answering.{answer_accepted, target_written, number_none}

-- from a board to its rank and back, into any target of the right length
pub rank_then_unrank : (rings : ℕ) (b old : List ℕ) → number (rank_call rings b) ≡ 0 → length old ≡ 8 * rings
    → (unrank_call rings (count 1 b) (count 2 b) (rank b) old ≡ accepted []) × (unrank_target rings (count 1 b) (count 2 b) (rank b) old ≡ b)
unfolding rank_call unrank_call unrank_target
rank_then_unrank rings b old e l =
    let w = accepted_board rings b (number_none (refusal (board_picks rings b)) (rank b ∷ []) e) in
    let m = count 1 b in
    let o = count 2 b in
    let low : rank b < size (8 * rings) m o = subst (λ (n : ℕ). rank b < size n m o) w.points (rank_low b w.values) in
    let z : 0 ≡ refusal (rank_picks rings m o (rank b) (length old)) =
    passes (picked_rows refusal_table (rank_picks rings m o (rank b) (length old))) (
      rings_fine rings w.rings_low w.rings_high,
      (counts_fine (8 * rings) m o w.counted, (length_fine rings (length old) l, (lt-leb (size (8 * rings) m o) (rank b) low, tt))),
    ) in
    let u : unrank (8 * rings) m o (rank b) ≡ b = ap (λ (n : ℕ). unrank n m o (rank b)) (sym w.points) ∙ unrank_rank b w.values in
    (sym (answer_accepted _ [] z), sym (target_written _ (unrank (8 * rings) m o (rank b)) old z) ∙ u)

-- from a rank to its board and back
pub unrank_then_rank : (rings m o r : ℕ) (old : List ℕ) → number (unrank_call rings m o r old) ≡ 0
    → rank_call rings (unrank_target rings m o r old) ≡ accepted (r ∷ [])
unfolding rank_call unrank_call unrank_target
unrank_then_rank rings m o r old e =
    let n = number_none (refusal (rank_picks rings m o r (length old))) [] e in
    let w = accepted_rank rings m o r (length old) n in
    let u = rank_unrank (8 * rings) m o r w.rank_low in
    let b = unrank (8 * rings) m o r in
    let z : 0 ≡ refusal (board_picks rings b) =
    passes (picked_rows refusal_table (board_picks rings b)) (
      rings_fine rings w.counts.rings_low w.counts.rings_high,
      (
        length_fine rings (length b) u.points,
        (values_fine b u.values, (rw (u.mover, u.opponent) (counts_fine (8 * rings) m o w.counts.counted), tt)),
      ),
    ) in
    let t : target (refusal (rank_picks rings m o r (length old))) b old ≡ b = sym (target_written _ b old (sym n)) in
    ap (λ (c : List ℕ). answer (refusal (board_picks rings c)) (rank c ∷ [])) t
    ∙ sym (answer_accepted _ (rank b ∷ []) z) ∙ ap (λ (k : ℕ). accepted (k ∷ [])) u.rank_is
