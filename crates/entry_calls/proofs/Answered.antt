-- What `lookup` and `best_move` answer in a tablebase of true entries, for those who call them and do not open their definitions. Assumes nothing.
use mathlib.Core.Path.{◌≡◌, sym, ap, ap₂, ◌∙◌}
use mathlib.Core.Bool.{Bool, true, false, cond}
use mathlib.Core.List.{List, [], ◌∷◌}
use Prim.Native.Nat.{ℕ}
use native.Mathlib.Omega.{arith}
use lib.ListN.{length, get_or}
use Rattle.rules.specs.Ply.{Rule, removable}
use Rattle.rules.proofs.Listed.{TakesOpponent, removable_takes}
use Rattle.outcomes.specs.Whole.{TrueEntry}
use Rattle.outcomes.specs.Filled.{AllTables}
use Rattle.outcomes.specs.Order.{TrueEntries}
use Rattle.outcomes.specs.Places.{entry_at, successor_entry, successor_void}
use Rattle.outcomes.proofs.WholeGame.{not_void, board_true, successors_told}
use Rattle.refusals.specs.Refusals.{refusal}
use Rattle.refusals.specs.Conditions.{edition_wrong, position_unreachable, mover_blocked, tablebase_picks, lookup_picks, best_move_picks}
use Rattle.refusals.proofs.TablebaseConditions.{AcceptedEntry, accepted_entry, entry_passes, lookup_decides, lookup_before, best_move_decides}
use Rattle.answers.specs.Answers.{accepted, refused, answer}
use Rattle.answers.proofs.Answering.{answer_refused, answer_accepted, accepted_values}
use Rattle.entries.specs.BestMove.{best_listed, best_successor}
use Rattle.entry_calls.specs.LookupCall.{lookup_call}
use Rattle.entry_calls.specs.BestMoveCall.{best_move_call}

-- an accepted lookup: its conditions held, and its answer is the entry
pub entry_given : (rings edition : ℕ) (b : List ℕ) (k : ℕ) (tablebase : List ℕ) (n : ℕ) → lookup_call rings edition b k tablebase ≡ accepted (n ∷ [])
    → (refusal (tablebase_picks rings edition b k (length tablebase)) ≡ 0) × (entry_at rings k tablebase b ≡ n)
unfolding lookup_call
entry_given rings edition b k tablebase n e =
    let (none, same) = accepted_values (n ∷ []) (entry_at rings k tablebase b ∷ []) (refusal (lookup_picks rings edition b k tablebase)) (sym e) in
    (lookup_before rings edition b k tablebase none, sym (ap (λ (l : List ℕ). get_or l 0 0) same))

-- its answer is the same under another edition that does not refuse the board's position
pub entry_named : (rings edition named : ℕ) (b : List ℕ) (k : ℕ) (tablebase : List ℕ) (n : ℕ)
    → lookup_call rings edition b k tablebase ≡ accepted (n ∷ []) → edition_wrong named ≡ false → position_unreachable rings named b ≡ false
    → lookup_call rings named b k tablebase ≡ accepted (n ∷ [])
unfolding lookup_call
entry_named rings edition named b k tablebase n e right passes =
    let given = (entry_given rings edition b k tablebase n e).0 in
    let known = accepted_entry rings edition b k (length tablebase) given in
    let too = entry_passes rings named b k (length tablebase) right passes known.tablebase known.in_tables in
    ap (λ (r : ℕ). answer r (entry_at rings k tablebase b ∷ []))
    (lookup_decides rings named b k tablebase (sym too) ∙ sym (lookup_decides rings edition b k tablebase (sym given)))
    ∙ e

-- in a tablebase of true entries under a rule, a board that passes has its true entry, whatever edition the call names
module _ (rule : Rule) (takes : TakesOpponent rule) (rings edition k : ℕ) (tablebase : List ℕ)
    (entries : TrueEntries rule rings k (AllTables rings k) tablebase) (b : List ℕ)
    (right : refusal (tablebase_picks rings edition b k (length tablebase)) ≡ 0) where
  pub entry_true : TrueEntry rule rings b (entry_at rings k tablebase b)
  entry_true = board_true rule takes rings k tablebase entries b (accepted_entry rings edition b k (length tablebase) right).in_tables

  pub entry_answered : lookup_call rings edition b k tablebase ≡ accepted (entry_at rings k tablebase b ∷ [])
  unfolding lookup_call
  entry_answered =
      sym (answer_accepted (refusal (lookup_picks rings edition b k tablebase)) _
      (sym (lookup_decides rings edition b k tablebase (sym right)
      ∙ ap (λ (t : Bool). cond t 12 0) (not_void rule rings b (entry_at rings k tablebase b) entry_true))))

-- a best move sought for a blocked mover meets 9; for another it is answered, where the entries are true under the edition that the call names
module _ (rings edition k : ℕ) (tablebase : List ℕ) (entries : TrueEntries (removable edition) rings k (AllTables rings k) tablebase) (b : List ℕ)
    (right : refusal (tablebase_picks rings edition b k (length tablebase)) ≡ 0) where
  pub blocked_answered : mover_blocked rings b ≡ true → best_move_call rings edition b k tablebase ≡ refused 9
  unfolding best_move_call
  blocked_answered t =
      sym (answer_refused 9 (refusal (best_move_picks rings edition b k tablebase)) _ (λ z. absurd (omega arith))
      (sym (best_move_decides rings edition b k tablebase (sym right)
      ∙ ap (λ (s : Bool). cond s 9 (cond (successor_void (removable edition) rings k tablebase b) 12 0)) t)))

  pub best_answered : mover_blocked rings b ≡ false
      → best_move_call rings edition b k tablebase ≡ accepted (best_listed (removable edition) rings k tablebase b
      ∷ successor_entry rings k tablebase (best_successor (removable edition) rings k tablebase b) ∷ [])
  unfolding best_move_call
  best_answered some =
      let known : AcceptedEntry rings b k (length tablebase) = accepted_entry rings edition b k (length tablebase) right in
      let told = successors_told (removable edition) (removable_takes edition) rings k tablebase entries
      known.board.rings_high b known.in_tables in
      sym (answer_accepted (refusal (best_move_picks rings edition b k tablebase)) _
      (sym (best_move_decides rings edition b k tablebase (sym right) ∙ ap₂ (λ (t u : Bool). cond t 9 (cond u 12 0)) some told)))
