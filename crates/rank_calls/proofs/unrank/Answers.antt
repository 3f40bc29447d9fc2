-- `rank_calls::unrank` meets its contract: a refusal of the counts' picks, then of the rank, or the board of the rank. Assumes nothing.
use mathlib.Core.Path.{◌≡◌, refl, sym, ap, ap₂, ◌∙◌}
use mathlib.Core.List.{List}
use Prim.Native.Nat.{ℕ, ◌*◌, ◌≤◌, ◌<◌}
use native.Mathlib.Omega.{arith}
use lib.ListN.{length}
use Rattle.board.specs.Board.{board_of, position_of}
use Rattle.board.proofs.Sides.{board_position}
use Rattle.sizes.specs.Size.{size}
use Rattle.ranking.proofs.Inverse.{rank_unrank}
use Rattle.ranking.specs.Unrank.{unrank as Unrank·unrank}
use Rattle.rank_calls.specs.UnrankCall.{unrank_call, unrank_target}
use Rattle.refusals.proofs.Conditions.{AcceptedCounts, accepted_counts, counts_refused, rank_refused, rank_passed}
use Rattle.answers.specs.Answers.{refusal_number}
use Rattle.answers.proofs.Answering.{turned_back, written, refusal_some, handed_on}
use Rattle.rank_calls.proofs.unrank.Goals as goal
use Rattle.rank_calls.proofs.unrank.Goals.{After-size-size, In_ok-of_counts}

pub returns-in_err-of_counts : goal.returns-in_err-of_counts
unfolding unrank_call unrank_target
returns-in_err-of_counts c =
    let a = c.args in
    let r = c.in_err-of_counts.field-0.0 in
    let e = counts_refused a.rings a.mover a.opponent a.rank (length a.target.now) (refusal_number r) (refusal_some r) c.in_err-of_counts.ensures in
    let whole = turned_back _ _ _ _ (refusal_number r) (refusal_some r) e in
    record { answer = rw (handed_on c.from_residual.result r c.from_residual.ensures.1) whole.0; target = whole.1 }

-- past the first refusals, counts and target are accepted
counts-accepted : (c : In_ok-of_counts) → AcceptedCounts c.args.rings c.args.mover c.args.opponent (length c.args.target.now)
counts-accepted c = accepted_counts _ _ _ _ (sym c.in_ok-of_counts.ensures)

-- the size is that of the table on 8 × rings points
table-size : (c : After-size-size) → c.size-size.result ≡ size (8 * c.args.rings) c.args.mover c.args.opponent
table-size c =
    let a = c.args in
    let w = accepted_counts a.rings a.mover a.opponent (length a.target.now) (sym c.in_ok-of_counts.ensures) in
    c.size-size.ensures ∙ ap (λ (n : ℕ). size n a.mover a.opponent) w.points

pub size-size-requires : goal.size-size-requires
size-size-requires c =
    let w = counts-accepted (goal.at.size-size-requires c).In_ok-of_counts in omega (arith, w.points, w.rings_high, w.counted.mover_high, w.counted.opponent_high)

pub returns-then-size-rank : goal.returns-then-size-rank
unfolding unrank_call unrank_target
returns-then-size-rank c =
    let a = c.args in
    let h : size (8 * a.rings) a.mover a.opponent ≤ a.rank = omega (arith, table-size (goal.at.returns-then-size-rank c).After-size-size) in
    let whole = turned_back _ _ _ _ 5 (λ e. absurd (omega arith))
    (rank_refused a.rings a.mover a.opponent a.rank (length a.target.now) c.in_ok-of_counts.ensures h) in
    record { answer = whole.0; target = whole.1 }

pub returns : goal.returns
unfolding unrank_call unrank_target
returns c =
    let a = c.args in
    let w = counts-accepted (goal.at.returns c).In_ok-of_counts in
    let low : a.rank < size (8 * a.rings) a.mover a.opponent = omega (arith, table-size (goal.at.returns c).After-size-size) in
    let new : List ℕ = Unrank·unrank (8 * a.rings) a.mover a.opponent a.rank in
    let v = rank_unrank (8 * a.rings) a.mover a.opponent a.rank low in
    let p : c.unrank-position.result ≡ position_of new =
    c.unrank-position.ensures ∙ ap (λ (n : ℕ). position_of (Unrank·unrank n a.mover a.opponent a.rank)) w.points in
    let e : c.write_board.new.target ≡ new =
    c.write_board.ensures ∙ ap₂ board_of (w.points ∙ sym v.points) p ∙ board_position new v.values in
    let whole = written _ _ _ _ _ _
    (rank_passed a.rings a.mover a.opponent a.rank (length a.target.now) c.in_ok-of_counts.ensures low) refl e in
    record { answer = whole.0; target = whole.1 }

pub unrank-position-requires : goal.unrank-position-requires
unrank-position-requires c =
    let w = counts-accepted (goal.at.unrank-position-requires c).In_ok-of_counts in (omega (arith, w.points, w.rings_high), omega (arith, c.size-size.ensures))

pub write_board-requires : goal.write_board-requires
write_board-requires c =
    let w = counts-accepted (goal.at.write_board-requires c).In_ok-of_counts in
    omega (arith, w.points, w.rings_high)
