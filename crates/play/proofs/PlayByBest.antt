-- Play by best moves (document 01): "On a shelf filled whole by one accepted call and unchanged since, from a won entry n, a mover who always takes
-- best moves wins the game in at most n plies." On every board of such play with the mover to move, `lookup` answers a won entry that is no higher than
-- the plies left of n, `best_move` accepts, and `make_move` makes what it answers. Best moves are asked for under the edition of the fill (document 02,
-- A11). Play that starts from a board that A1 does not refuse under that edition never comes to one that it does. Assumes nothing.
use mathlib.Core.Path.{◌≡◌, sym, ap, subst, ◌∙◌}
use mathlib.Core.Bool.{true, false}
use mathlib.Core.List.{List, [], ◌∷◌, Memᴰ}
use Prim.Native.Nat.{ℕ, ◌+◌, ◌*◌, ◌≤◌, ◌<◌, ◌%◌}
use native.Mathlib.Omega.{arith}
use lib.ListN.{length}
use Rattle.lists.specs.Lists.{is_empty}
use Rattle.lists.proofs.Tests.{untrue, is_member, empty_none}
use Rattle.rules.specs.Ply.{Rule, removable, moves, after_ply, successors}
use Rattle.rules.specs.MoveList.{listed_moves}
use Rattle.rules.proofs.CapturesFirst.{listed_legal, legal_listed, listed_empty}
use Rattle.rules.proofs.Listed.{TakesOpponent, removable_takes, successor_of, of_successor}
use Rattle.rules.proofs.Blocked.{blocked_moves, blocked_successors}
use Rattle.rules.proofs.Leads.{Reached}
use Rattle.game.specs.Game.{void_entry, won}
use Rattle.game.specs.Play.{Wins, Later}
use Rattle.game.proofs.Least.{least_find}
use Rattle.game.proofs.Within.{won_mono}
use Rattle.game.proofs.Depths.{won_odd, won_depth}
use Rattle.game.proofs.Entries.{won_of, entry_won, depth_entry}
use Rattle.game.proofs.Play.{wins_ply, won_live}
use Rattle.outcomes.specs.Places.{entry_at, successor_entry}
use Rattle.outcomes.specs.Whole.{whole_seed, TrueEntry}
use Rattle.outcomes.specs.Filled.{AllTables}
use Rattle.outcomes.specs.Order.{TrueEntries}
use Rattle.outcomes.proofs.Boards.{InTables}
use Rattle.outcomes.proofs.WholeGame.{whole_cases, whole_closed, live_three, board_reached, reached_board, board_true, reached_true}
use Rattle.bestmove.proofs.Choice.{best_listed_lem}
use Rattle.bestmove.proofs.QuickestWin.{best_plays}
use Rattle.refusals.specs.Refusals.{refusal}
use Rattle.refusals.specs.Conditions.{edition_wrong, position_unreachable, mover_blocked, tablebase_picks}
use Rattle.answers.specs.Answers.{accepted}
use Rattle.move_calls.specs.MakeMoveCall.{make_move_call, make_move_target}
use Rattle.entry_calls.specs.LookupCall.{lookup_call}
use Rattle.entry_calls.specs.BestMoveCall.{best_move_call}
use Rattle.entry_calls.proofs.Answered.{entry_given, entry_answered, best_answered}
use Rattle.entries.specs.BestMove.{entry_after, best_listed, best_successor}
use Rattle.fill_calls.specs.Fills.{FillCall}
use Rattle.refusals.proofs.ReachableConditions.{reachable_passed, reachable_next}
use Rattle.refusals.proofs.TablebaseConditions.{AcceptedTablebase, AcceptedEntry, both_right, accepted_entry, entry_reachable, entry_passes}
use Rattle.play.proofs.Play.{listed_made}
use Rattle.exact_fills.proofs.ExactEntries.{fill_accepted}

-- best play in a tablebase that holds the true entries under a rule, from a board that is won within n plies and has what plies keep
module _ (rule : Rule) (takes : TakesOpponent rule) (rings k : ℕ) (small : rings ≤ 3) (tablebase : List ℕ)
    (entries : TrueEntries rule rings k (AllTables rings k) tablebase) (Kept : List ℕ → Type 0)
    (keeps : (c : List ℕ) → Reached rings k c → Kept c → (d : List ℕ) → Memᴰ d (successors rule rings c) → Kept d) (n : ℕ) (b : List ℕ)
    (w : Reached rings k b) (has : Kept b) (within : won (successors rule rings) (λ c. whole_seed c) n b ≡ true) where
  -- the listed moves lead to the successors
  ply_of : (c d : List ℕ) → Memᴰ d (successors rule rings c) → (m : ℕ) × Memᴰ m (listed_moves rule rings c) × (d ≡ after_ply c m)
  ply_of c d i =
      let (m, j, e) = successor_of rule rings c d i in
      (m, legal_listed (moves rule rings c) j, e)

  of_ply : (c : List ℕ) (m : ℕ) → Memᴰ m (listed_moves rule rings c) → Memᴰ (after_ply c m) (successors rule rings c)
  of_ply c m i = of_successor rule rings c m (listed_legal (moves rule rings c) i)

  -- it wins, and a later board with the mover to move has that too and is won within the plies that are left
  pub best_played : Wins (successors rule rings) (λ c. whole_seed c) (λ c. best_successor rule rings k tablebase c) n b
      × ((t : ℕ) (c : List ℕ) → Later (successors rule rings) (λ d. whole_seed d) (λ d. best_successor rule rings k tablebase d) t b c
      → (m : ℕ) × (m + 2 * t ≡ n) × (Reached rings k c × Kept c) × (won (successors rule rings) (λ d. whole_seed d) m c ≡ true))
  unfolding best_successor best_listed
  best_played =
      best_plays (successors rule rings) (λ c. whole_seed c) (λ c. Reached rings k c × Kept c)
      (λ c s e d i. (whole_closed rule takes rings k small c s.0 e d i, keeps c s.0 s.1 d i)) (λ c x. whole_cases c)
      (λ c. listed_moves rule rings c) (λ c m. after_ply c m) ply_of of_ply (λ c. successor_entry rings k tablebase c)
      (λ c s. reached_true rule takes rings k tablebase entries c s.0) n b (w, has) within

  stands : InTables rings k b
  stands = reached_board rings k b w (live_three b (won_live (successors rule rings) (λ c. whole_seed c) n b (whole_cases b) within))

  some : mover_blocked rings b ≡ false
  some =
      let m = wins_ply (successors rule rings) (λ c. whole_seed c) (λ c. best_successor rule rings k tablebase c) n b best_played.0 in
      sym (blocked_successors rule rings b) ∙ sym (untrue (is_empty (successors rule rings b)) (λ z. empty_none (successors rule rings b) z m))

-- what the calls say of a board with the mover to move and n plies left, asked under the edition of the fill: it has a won entry, no higher than n, and a
-- best move, which is answered and made
pub record Told (rings edition k : ℕ) (tablebase : List ℕ) (n : ℕ) (b : List ℕ) : Type 0 where
  pub entry : ℕ
  pub odd : entry % 2 ≡ 1
  pub enough : entry ≤ n
  pub looked_up : lookup_call rings edition b k tablebase ≡ accepted (entry ∷ [])
  pub chosen : best_move_call rings edition b k tablebase ≡ accepted (best_listed (removable edition) rings k tablebase b
      ∷ successor_entry rings k tablebase (best_successor (removable edition) rings k tablebase b) ∷ [])
  pub made : (old : List ℕ) → length old ≡ 8 * rings
      → (make_move_call rings edition b (best_listed (removable edition) rings k tablebase b) old ≡ accepted [])
      × (make_move_target rings edition b (best_listed (removable edition) rings k tablebase b)
      old ≡ best_successor (removable edition) rings k tablebase b)

-- a tablebase that holds the true entries under an edition
module _ (rings edition k : ℕ) (fine : edition_wrong edition ≡ false) (tablebase : List ℕ) (whole : AcceptedTablebase rings k (length tablebase))
    (entries : TrueEntries (removable edition) rings k (AllTables rings k) tablebase) where
  -- a board that the edition does not refuse
  abbrev Passes : List ℕ → Type 0
  Passes c = position_unreachable rings edition c ≡ false

  passes_kept : (c : List ℕ) → Reached rings k c → Passes c → (d : List ℕ) → Memᴰ d (successors (removable edition) rings c) → Passes d
  passes_kept c w p =
      reachable_next rings edition whole.rings_high c w.values w.points (omega (arith, w.opponent_high, whole.largest_high)) p

  -- from one that is won within n plies
  module _ (n : ℕ) (b : List ℕ) (w : Reached rings k b) (passes : Passes b)
      (within : won (successors (removable edition) rings) (λ c. whole_seed c) n b ≡ true) where
    pub edition_played : Wins (successors (removable edition) rings) (λ c. whole_seed c) (λ c. best_successor (removable edition) rings k tablebase c) n b
        × ((t : ℕ) (c : List ℕ)
        → Later (successors (removable edition) rings) (λ d. whole_seed d) (λ d. best_successor (removable edition) rings k tablebase d) t b c
        → (m : ℕ) × (m + 2 * t ≡ n) × (Reached rings k c × Passes c) × (won (successors (removable edition) rings) (λ d. whole_seed d) m c ≡ true))
    edition_played =
        best_played (removable edition) (removable_takes edition) rings k whole.rings_high tablebase entries Passes passes_kept n b w passes within

    board : InTables rings k b
    board = stands (removable edition) (removable_takes edition) rings k whole.rings_high tablebase entries Passes passes_kept n b w passes within

    free : mover_blocked rings b ≡ false
    free = some (removable edition) (removable_takes edition) rings k whole.rings_high tablebase entries Passes passes_kept n b w passes within

    right : refusal (tablebase_picks rings edition b k (length tablebase)) ≡ 0
    right = entry_passes rings edition b k (length tablebase) fine passes whole board

    best_made : (old : List ℕ) → length old ≡ 8 * rings
        → (make_move_call rings edition b (best_listed (removable edition) rings k tablebase b) old ≡ accepted [])
        × (make_move_target rings edition b (best_listed (removable edition) rings k tablebase b)
        old ≡ best_successor (removable edition) rings k tablebase b)
    unfolding best_successor best_listed
    best_made =
        listed_made rings edition b (reachable_passed rings edition b (both_right rings edition b k (length tablebase) right).0).0
        (best_listed (removable edition) rings k tablebase b)
        (is_member _ (listed_moves (removable edition) rings b)
        (best_listed_lem (λ m. entry_after rings k tablebase b m) (listed_moves (removable edition) rings b)
        (listed_empty (moves (removable edition) rings b) ∙ blocked_moves (removable edition) rings b ∙ free)).0)

    pub best_told : Told rings edition k tablebase n b
    best_told =
        let f = least_find _ (won_mono (successors (removable edition) rings) (λ c. whole_seed c) b) n within in
        let d = depth_entry (successors (removable edition) rings) (λ c. whole_seed c) b
        (board_true (removable edition) (removable_takes edition) rings k tablebase entries b board)
        (won_depth (successors (removable edition) rings) (λ c. whole_seed c) b f.2) in
        record {
          entry = entry_at rings k tablebase b;
          odd = ap (λ (x : ℕ). x % 2) d.0 ∙ won_odd (successors (removable edition) rings) (λ c. whole_seed c) b f.2;
          enough = omega (arith, d.0, f.1);
          looked_up = entry_answered (removable edition) (removable_takes edition) rings edition k tablebase entries b right;
          chosen = best_answered rings edition k tablebase entries b right free;
          made = best_made;
        }

-- after an accepted fill under an edition, a lookup gives the true entry under that edition, whatever edition it names
module _ (rings edition k limit : ℕ) (before after : List ℕ) (filled : FillCall rings edition k limit before after (accepted [])) where
  true_entries : TrueEntries (removable edition) rings k (AllTables rings k) after
  true_entries = (fill_accepted rings edition k limit before after filled).1.entries

  board_entered : (named : ℕ) (b : List ℕ) (n : ℕ) → lookup_call rings named b k after ≡ accepted (n ∷ []) → AcceptedEntry rings b k (length after)
  board_entered named b n entry = accepted_entry rings named b k (length after) (entry_given rings named b k after n entry).0

  pub lookup_true : (named : ℕ) (b : List ℕ) (n : ℕ) → lookup_call rings named b k after ≡ accepted (n ∷ []) → TrueEntry (removable edition) rings b n
  lookup_true named b n entry =
      subst (λ (x : ℕ). TrueEntry (removable edition) rings b x) (entry_given rings named b k after n entry).1
      (board_true (removable edition) (removable_takes edition) rings k after true_entries b (board_entered named b n entry).in_tables)

  -- from a board whose entry n is looked up and is won
  module _ (b : List ℕ) (n : ℕ) (odd : n % 2 ≡ 1) (low : n < void_entry) where
    won_first : TrueEntry (removable edition) rings b n → won (successors (removable edition) rings) (λ c. whole_seed c) n b ≡ true
    won_first e = (entry_won (successors (removable edition) rings) (λ c. whole_seed c) b e (won_of odd low)).holds

    pub fill_best_play : (named : ℕ) → lookup_call rings named b k after ≡ accepted (n ∷ [])
        → Wins (successors (removable edition) rings) (λ c. whole_seed c) (λ c. best_successor (removable edition) rings k after c) n b
    fill_best_play named entry =
        let known = board_entered named b n entry in
        (best_played (removable edition) (removable_takes edition) rings k known.tablebase.rings_high after true_entries (λ c. Unit {0})
        (λ c s u d i. tt) n b (board_reached rings k b known.in_tables) tt (won_first (lookup_true named b n entry))).0

    -- what the calls say of the board, and of each later one with the mover to move: they accept, and the entry has fallen by the plies played
    pub fill_best_told : lookup_call rings edition b k after ≡ accepted (n ∷ []) → (t : ℕ) (c : List ℕ)
        → Later (successors (removable edition) rings) (λ d. whole_seed d) (λ d. best_successor (removable edition) rings k after d) t b c
        → (m : ℕ) × (m + 2 * t ≡ n) × Told rings edition k after m c
    fill_best_told entry t c l =
        let fine = (fill_accepted rings edition k limit before after filled).0.edition_accepted in
        let known = board_entered edition b n entry in
        let passes = entry_reachable rings edition b k (length after) (entry_given rings edition b k after n entry).0 in
        let (m, left, w, within) = (edition_played rings edition k fine after known.tablebase true_entries n b
        (board_reached rings k b known.in_tables) passes (won_first (lookup_true edition b n entry))).1 t c l in
        (m, left, best_told rings edition k fine after known.tablebase true_entries m c w.0 w.1 within)
