-- The position of an accepted board stands in the tablebase, and what stands there decides the answers. Assumes nothing.
use mathlib.Core.Path.{◌≡◌, sym, ap, ◌∙◌}
use mathlib.Core.Bool.{Bool, true, false, cond}
use mathlib.Core.List.{List, [], ◌∷◌}
use Prim.Native.Nat.{ℕ}
use native.Mathlib.Omega.{arith}
use lib.ListN.{length}
use Rattle.board.specs.declared.Position.{Position}
use Rattle.board.specs.Board.{count}
use Rattle.rules.specs.Ply.{removable}
use Rattle.outcomes.specs.Places.{entry_at, successor_entry, is_void}
use Rattle.refusals.specs.Refusals.{refusal}
use Rattle.refusals.specs.Conditions.{tablebase_picks}
use Rattle.refusals.proofs.TablebaseConditions.{AcceptedEntry, lookup_decides, best_move_decides}
use Rattle.positions.proofs.Positions.{ShowsBoard}
use Rattle.answers.specs.Answers.{accepted, refused, answer}
use Rattle.entries.specs.BestMove.{best_listed, best_successor}
use Rattle.entries.specs.Inner.Whole.{InTablebase}
use Rattle.entries.specs.Inner.Choices.{choice_at}
use Rattle.entry_calls.specs.LookupCall.{lookup_call}
use Rattle.entry_calls.specs.BestMoveCall.{best_move_call}

pub stands : {n : ℕ} (rings : ℕ) (b : List ℕ) (k : ℕ) (p : Position) → AcceptedEntry rings b k n
    → ShowsBoard rings b p → InTablebase n rings k p
stands rings b k p w shows =
    let t = w.in_tables.is_table in
    let m = ap (count 1) shows.back in
    let o = ap (count 2) shows.back in
    record {
      placed = shows.placed;
      exact = w.tablebase.exact;
      largest = w.tablebase.largest_high;
      mover_low = omega (arith, t, m);
      mover_high = omega (arith, t, m);
      opponent_low = omega (arith, t, o);
      opponent_high = omega (arith, t, o);
    }

module _ (rings edition : ℕ) (b : List ℕ) (k : ℕ) (tablebase : List ℕ) (right : 0 ≡ refusal (tablebase_picks rings edition b k (length tablebase))) where
  -- the entry that was read decides what `lookup` answers
  pub void_answer : is_void (entry_at rings k tablebase b) ≡ true → refused 12 ≡ lookup_call rings edition b k tablebase
  unfolding lookup_call
  void_answer e =
      ap (λ (r : ℕ). answer r (entry_at rings k tablebase b ∷ []))
      (sym (lookup_decides rings edition b k tablebase right ∙ ap (λ (t : Bool). cond t 12 0) e))

  pub entry_answer : is_void (entry_at rings k tablebase b) ≡ false → accepted (entry_at rings k tablebase b ∷ []) ≡ lookup_call rings edition b k tablebase
  unfolding lookup_call
  entry_answer e =
      ap (λ (r : ℕ). answer r (entry_at rings k tablebase b ∷ []))
      (sym (lookup_decides rings edition b k tablebase right ∙ ap (λ (t : Bool). cond t 12 0) e))

  -- and the choice that was made what `best_move` answers
  pub choice_answer : choice_at (removable edition) rings k tablebase b ≡ best_move_call rings edition b k tablebase
  unfolding choice_at best_move_call
  choice_answer =
      ap (λ (r : ℕ). answer r
      (best_listed (removable edition) rings k tablebase b
      ∷ successor_entry rings k tablebase (best_successor (removable edition) rings k tablebase b) ∷ []))
      (sym (best_move_decides rings edition b k tablebase right))
