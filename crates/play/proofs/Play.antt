-- The calls `moves` and `make_move` together, under one edition: a list of 324 places is never too short, it has captures first, each listed move is
-- made, and the board after it is accepted again unless its mover is left with two stones; and no move leads from a board that passes document 02's test
-- (A1) to one that does not. Assumes nothing.
use mathlib.Core.Path.{◌≡◌, sym, ap, ◌∙◌}
use mathlib.Core.Bool.{Bool, true, false, cond, not}
use mathlib.Core.List.{List, [], ◌∷◌}
use mathlib.Core.Logic.{inl, inr}
use Prim.Native.Nat.{ℕ, ◌*◌, ◌≤◌, ◌<◌}
use native.Mathlib.Omega.{arith}
use lib.ListN.{length}
use lib.Seq.{sets}
use borrow.Author.Tests.{le-ltb}
use Rattle.lists.specs.Lists.{member}
use Rattle.lists.proofs.Tests.{member_is}
use Rattle.board.specs.Board.{count}
use Rattle.board.proofs.Counts.{count_all}
use Rattle.rules.specs.MoveList.{listed_moves}
use Rattle.rules.specs.Ply.{removable, moves, removed_of, after_ply}
use Rattle.rules.proofs.Bound.{listed_bound}
use Rattle.rules.proofs.CapturesFirst.{Ordered, moves_ordered, member_listed}
use Rattle.rules.proofs.Listed.{removable_takes, of_successor}
use Rattle.rules.proofs.Leads.{MoverLeft, ply_leads}
use Rattle.rules.proofs.Rises.{removable_rising}
use Rattle.refusals.specs.Refusals.{refusal}
use Rattle.refusals.specs.Conditions.{position_unreachable, board_picks, ruled_picks, reachable_picks, target_picks, move_picks, list_picks}
use Rattle.answers.specs.Answers.{accepted}
use Rattle.move_calls.specs.MovesCall.{moves_call, moves_list}
use Rattle.move_calls.specs.MakeMoveCall.{make_move_call, make_move_target}
use Rattle.refusals.proofs.EditionConditions.{edition_passed}
use Rattle.refusals.proofs.Conditions.{RightCounts, Accepted, rings_first, ruled_board, ruled_passes, length_fine, list_decides}
use Rattle.refusals.proofs.Conditions.{target_decides, move_decides}
use Rattle.refusals.proofs.ReachableConditions.{reachable_passes, reachable_next}
use Rattle.answers.proofs.Answering.{answer_accepted, target_written}

module _ (rings edition : ℕ) (b : List ℕ) (e : refusal (ruled_picks rings edition b) ≡ 0) where
  board : Accepted rings b
  board = ruled_board rings edition b e

  -- what `moves` answers and lists where there are 324 places
  pub list_enough : (old : List ℕ) → 324 ≤ length old
      → (moves_call rings edition b old ≡ accepted (length (listed_moves (removable edition) rings b) ∷ []))
      × (moves_list rings edition b old ≡ sets old 0 (listed_moves (removable edition) rings b))
  unfolding moves_call moves_list
  list_enough old room =
      let w = board in
      let c = w.counted in
      let few = listed_bound edition rings w.rings_high b w.points w.values c.mover_high
      (omega (arith, c.opponent_low)) c.opponent_high in
      let n : ℕ = length (listed_moves (removable edition) rings b) in
      let z : 0 ≡ refusal (list_picks rings edition b (length old) n) =
      sym (list_decides rings edition b (length old) n (sym e) ∙ ap (λ (t : Bool). cond t 7 0)
      (le-ltb (length old) n (omega (arith, few, room)))) in (
        sym (answer_accepted (refusal (list_picks rings edition b (length old) n)) (n ∷ []) z),
        sym (target_written (refusal (list_picks rings edition b (length old) n)) (sets old 0 (listed_moves (removable edition) rings b)) old z),
      )

  -- it is ordered: captures before all others, both parts by rising number, no number twice
  pub list_ordered : (i j : ℕ) → i < j → j < length (listed_moves (removable edition) rings b) → Ordered (listed_moves (removable edition) rings b) i j
  list_ordered = moves_ordered (removable edition) (removable_takes edition) rings board.rings_high (removable_rising edition) b

  module _ (move : ℕ) (listed : member move (listed_moves (removable edition) rings b) ≡ true) where
    legal : member move (moves (removable edition) rings b) ≡ true
    legal = sym (member_listed (moves (removable edition) rings b) move) ∙ listed

    -- what `make_move` answers and writes for a listed move
    pub listed_made : (old : List ℕ) → length old ≡ 8 * rings
        → (make_move_call rings edition b move old ≡ accepted []) × (make_move_target rings edition b move old ≡ after_ply b move)
    unfolding make_move_call make_move_target
    listed_made old room =
        let t : 0 ≡ refusal (target_picks rings edition b (length old)) =
        sym (target_decides rings edition b (length old) (sym e) ∙ ap (λ (x : Bool). cond x 6 0) (length_fine rings (length old) room)) in
        let z : 0 ≡ refusal (move_picks rings edition b move (length old)) =
        sym (move_decides rings edition b (length old) move t ∙ ap (λ (x : Bool). cond (not x) 8 0) legal) in (
          sym (answer_accepted (refusal (move_picks rings edition b move (length old))) [] z),
          sym (target_written (refusal (move_picks rings edition b move (length old))) (after_ply b move) old z),
        )

    -- the board after it meets no condition, unless its mover has two stones
    pub after_accepted : 3 ≤ count 1 (after_ply b move) → refusal (ruled_picks rings edition (after_ply b move)) ≡ 0
    after_accepted three =
        let w = board in
        let c = w.counted in
        let l = ply_leads (removable edition) (removable_takes edition) rings w.rings_high b w.values w.points move
        (member_is move (moves (removable edition) rings b) legal) in
        let p = l.points ∙ w.points in
        let counted : RightCounts (8 * rings) (count 1 (after_ply b move)) (count 2 (after_ply b move)) = record {
          mover_low = three;
          mover_high = high l.mover c.opponent_high;
          opponent_low = omega (arith, l.opponent, c.mover_low);
          opponent_high = omega (arith, l.opponent, c.mover_high);
          stones_fit = omega (arith, count_all (after_ply b move) l.values, p);
        } in
        sym (ruled_passes rings edition (after_ply b move) (edition_passed rings edition (board_picks rings b) (rings_first rings b) e).0 (record {
          rings_low = w.rings_low;
          rings_high = w.rings_high;
          points = p;
          values = l.values;
          counted = counted;
        }))
      where
        high : MoverLeft b (after_ply b move) (removed_of move) → count 2 b ≤ 9 → count 1 (after_ply b move) ≤ 9
        high (inl q) h = omega (arith, q.1)
        high (inr q) h = omega (arith, q.1)

    -- nor 15, unless its own board does
    pub after_reachable : 3 ≤ count 1 (after_ply b move) → position_unreachable rings edition b ≡ false
        → refusal (reachable_picks rings edition (after_ply b move)) ≡ 0
    after_reachable three passes =
        let w = board in
        reachable_passes rings edition (after_ply b move) (after_accepted three)
        (reachable_next rings edition w.rings_high b w.values w.points w.counted.opponent_high passes (after_ply b move)
        (of_successor (removable edition) rings b move (member_is move (moves (removable edition) rings b) legal)))
