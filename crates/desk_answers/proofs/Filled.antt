-- What a line shows, once the tablebase was filled by an accepted call: the rank of the board; on one ring always an entry, and that the true one; and the
-- move that is best by the entries, or `-`, and that exactly for a blocked mover. Assumes nothing.
use Rattle.std.specs.Prelude.{Some, None}
use mathlib.Core.Path.{◌≡◌, refl, sym, ap, subst, ◌∙◌}
use mathlib.Core.Bool.{Bool, true, false, cond}
use mathlib.Core.List.{List, []}
use Prim.Native.Nat.{ℕ}
use native.Mathlib.Omega.{arith}
use lib.ListN.{length}
use Rattle.ranking.specs.Rank.{rank}
use Rattle.frames.specs.Frame.{rings_in, board_in}
use Rattle.rules.specs.Ply.{removable}
use Rattle.rules.proofs.Listed.{removable_takes}
use Rattle.outcomes.specs.Whole.{TrueEntry}
use Rattle.outcomes.specs.Filled.{AllTables}
use Rattle.outcomes.specs.Order.{TrueEntries}
use Rattle.outcomes.specs.Places.{entry_at}
use Rattle.outcomes.proofs.Boards.{InTables}
use Rattle.refusals.specs.Refusals.{refusal}
use Rattle.refusals.specs.Conditions.{mover_blocked, board_picks, tablebase_picks}
use Rattle.answers.specs.Answers.{Answer, accepted, value}
use Rattle.refusals.proofs.Conditions.{accepted_board}
use Rattle.refusals.proofs.FrameConditions.{board_accepted}
use Rattle.refusals.proofs.ReachableConditions.{few_reached}
use Rattle.refusals.proofs.TablebaseConditions.{AcceptedTablebase, entry_passes}
use Rattle.frame_calls.specs.ReadFrameCall.{read_frame_call}
use Rattle.rank_calls.specs.RankCall.{rank_call}
use Rattle.fill_calls.specs.Fills.{FillCall}
use Rattle.entries.specs.BestMove.{best_listed}
use Rattle.exact_fills.proofs.ExactEntries.{fill_accepted}
use Rattle.rank_calls.proofs.Answered.{rank_answered}
use Rattle.frame_calls.proofs.Answered.{frame_given}
use Rattle.entry_calls.proofs.Answered.{entry_true, entry_answered, blocked_answered, best_answered}
use Rattle.text.specs.Text.{refused_line}
use Rattle.fields.specs.Fields.{largest_count, desk_edition, field_of, entry_field, move_field}
use Rattle.replies.specs.Replies.{board_line, answer_of}
use Rattle.replies.proofs.Reading.{read_decides}

-- the rank that is shown is the board's
pub rank_shown : (rings : ℕ) (b : List ℕ) → refusal (board_picks rings b) ≡ 0 → value (rank_call rings b) 0 ≡ rank b
rank_shown rings b e = ap (λ (a : Answer). value a 0) (rank_answered rings b e)

-- what is shown of a board on one ring
pub record Shown (tablebase b : List ℕ) : Type 0 where
  pub entry : entry_field tablebase 1 b ≡ Some (entry_at 1 largest_count tablebase b)
  pub entry_true : TrueEntry (removable desk_edition) 1 b (entry_at 1 largest_count tablebase b)
  pub blocked : mover_blocked 1 b ≡ true → move_field tablebase 1 b ≡ None
  pub free : mover_blocked 1 b ≡ false → move_field tablebase 1 b ≡ Some (best_listed (removable desk_edition) 1 largest_count tablebase b)

module _ (limit : ℕ) (before after : List ℕ) (filled : FillCall 1 desk_edition largest_count limit before after (accepted [])) where
  true_entries : TrueEntries (removable desk_edition) 1 largest_count (AllTables 1 largest_count) after
  true_entries = (fill_accepted 1 desk_edition largest_count limit before after filled).1.entries

  accepted_tablebase : AcceptedTablebase 1 largest_count (length after)
  accepted_tablebase =
      let f = fill_accepted 1 desk_edition largest_count limit before after filled in
      subst (AcceptedTablebase 1 largest_count) (sym f.1.kept.same_length) f.0.tablebase

  module _ (b : List ℕ) (e : refusal (board_picks 1 b) ≡ 0) where
    stands : InTables 1 largest_count b
    stands =
        let w = accepted_board 1 b e in
        let c = w.counted in
        record {
          points = w.points;
          values = w.values;
          is_table = record {
            mover_low = c.mover_low;
            mover_high = omega arith;
            opponent_low = c.opponent_low;
            opponent_high = omega arith;
            stones_fit = c.stones_fit;
          };
        }

    right : refusal (tablebase_picks 1 desk_edition b largest_count (length after)) ≡ 0
    right = entry_passes 1 desk_edition b largest_count (length after) refl (few_reached 1 desk_edition b (λ z. omega arith)) accepted_tablebase stands

    pub board_shown : Shown after b
    unfolding entry_field move_field
    board_shown = record {
      entry = ap field_of (entry_answered (removable desk_edition) (removable_takes desk_edition) 1 desk_edition largest_count after true_entries b right);
      entry_true = entry_true (removable desk_edition) (removable_takes desk_edition) 1 desk_edition largest_count after true_entries b right;
      blocked = λ t. ap field_of (blocked_answered 1 desk_edition largest_count after true_entries b right t);
      free = λ t. ap field_of (best_answered 1 desk_edition largest_count after true_entries b right t);
    }

  -- a line that is read as a position on one ring: its board's line, which shows this
  pub line_shown : (line vs : List ℕ) → accepted vs ≡ read_frame_call line → rings_in line ≡ 1
      → (answer_of after line ≡ board_line after 1 (board_in line)) × Shown after (board_in line)
  line_shown line vs e r = (
    read_decides after line vs e
        ∙ ap (λ (t : Bool). cond t (refused_line 15) (board_line after (rings_in line) (board_in line)))
        (few_reached (rings_in line) desk_edition (board_in line) (λ z. omega (arith, z, r))) ∙ ap (λ (n : ℕ). board_line after n (board_in line)) r,
    board_shown (board_in line)
        (subst (λ (n : ℕ). refusal (board_picks n (board_in line)) ≡ 0) r (board_accepted line (frame_given line vs e).0)),
  )
