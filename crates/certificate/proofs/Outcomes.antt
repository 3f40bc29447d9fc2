-- A tablebase all of whose entries are right holds the true entry of every position, and the tablebase of true entries has only right ones, under any
-- rule of removal that names opposing stones. Assumes nothing.
use mathlib.Core.Path.{◌≡◌, refl, sym, subst, ◌∙◌}
use mathlib.Core.Bool.{true}
use mathlib.Core.List.{List, map}
use Prim.Native.Nat.{ℕ, ◌*◌, ◌≤◌}
use borrow.Author.Tests.{eqb-false}
use Rattle.lists.specs.Lists.{all}
use Rattle.lists.proofs.Tests.{all_member, member_all}
use Rattle.ranking.specs.Unrank.{unrank}
use Rattle.layout.proofs.OneToOne.{in_range, listed_table}
use Rattle.rules.specs.Ply.{Rule, successors}
use Rattle.rules.proofs.Listed.{TakesOpponent}
use Rattle.rules.proofs.Leads.{Reached}
use Rattle.game.specs.Game.{live, void_entry}
use Rattle.game.specs.Judgement.{judge}
use Rattle.game.proofs.Certificate.{certified, passes}
use Rattle.outcomes.specs.Places.{entry_at, successor_entry}
use Rattle.outcomes.specs.Whole.{whole_seed, TrueEntry}
use Rattle.outcomes.specs.Filled.{AllTables}
use Rattle.outcomes.specs.Order.{TrueEntries}
use Rattle.outcomes.proofs.Boards.{InTables}
use Rattle.outcomes.proofs.Ranked.{unrank_stands}
use Rattle.outcomes.proofs.Entries.{entry_three, entry_unrank}
use Rattle.outcomes.proofs.WholeGame.{whole_live, live_three, whole_ground, whole_seeded, board_reached, reached_board, reached_true, not_void}
use Rattle.certificate.specs.Right.{right}
use Rattle.certificate.specs.Certificate.{boards, entry_right}
use Rattle.certificate.proofs.Judged.{right_judged, judged_right}
use Rattle.certificate.proofs.Boards.{tables_listed, listed_board}

-- what it is for the entry of a board to be right
pub entry_right_lem : (rule : Rule) (rings k : ℕ) (tablebase b : List ℕ) → entry_right rule rings k tablebase b
    ≡ right (entry_at rings k tablebase b) (map (λ c. successor_entry rings k tablebase c) (successors rule rings b))
unfolding entry_right
entry_right_lem rule rings k tablebase b = refl

module _ (rule : Rule) (takes : TakesOpponent rule) (rings k : ℕ) (small : rings ≤ 3) (tablebase : List ℕ) where
  -- the entry by which a board is judged, and what its successors judge it to be
  abbrev entry : List ℕ → ℕ
  entry b = successor_entry rings k tablebase b

  abbrev judgement : List ℕ → ℕ
  judgement b = judge (map entry (successors rule rings b))

  own_entry : (b : List ℕ) → InTables rings k b → entry b ≡ entry_at rings k tablebase b
  own_entry b s = entry_three rings k tablebase b s.is_table.mover_low

  module _ (passed : all (λ b. entry_right rule rings k tablebase b) (boards (8 * rings) k) ≡ true) where
    -- a board of the tablebase has what its successors judge, and no void
    board_right : (b : List ℕ) → InTables rings k b → (entry b ≡ judgement b) × (entry b ≡ void_entry → ⊥)
    board_right b s =
        let (e, v) = right_judged (successors rule rings) entry b (entry_at rings k tablebase b)
        (sym (entry_right_lem rule rings k tablebase b) ∙ all_member _ (boards (8 * rings) k) passed b (tables_listed rings k b s)) in
        (own_entry b s ∙ e, λ z. v (sym (own_entry b s) ∙ z))

    -- where the plies decide, the board is one of the tablebase
    live_board : (b : List ℕ) → Reached rings k b → whole_seed b ≡ live → InTables rings k b
    live_board b w e = reached_board rings k b w (live_three b e)

    pub passed_true : TrueEntries rule rings k (AllTables rings k) tablebase
    passed_true x y r t h =
        let b : List ℕ = unrank (8 * rings) x y r in
        let s = unrank_stands rings k x y r (in_range (listed_table (8 * rings) k x y t)) h in
        subst (λ (e : ℕ). TrueEntry rule rings b e) (own_entry b s ∙ entry_unrank rings k x y r tablebase h)
        (certified (successors rule rings) (λ b. whole_seed b) (Reached rings k) (whole_ground rule takes rings k small) entry
        (whole_seeded rule takes rings k tablebase) (λ c w e. (board_right c (live_board c w e)).1) (λ c w e. (board_right c (live_board c w e)).0)
        b (board_reached rings k b s))

  pub true_passed : TrueEntries rule rings k (AllTables rings k) tablebase → all (λ b. entry_right rule rings k tablebase b) (boards (8 * rings) k) ≡ true
  true_passed entries = member_all _ (boards (8 * rings) k) (λ b m. at b (listed_board rings k b m))
    where
      at : (b : List ℕ) → InTables rings k b → entry_right rule rings k tablebase b ≡ true
      at b s =
          let w = board_reached rings k b s in
          entry_right_lem rule rings k tablebase b
          ∙ judged_right (successors rule rings) entry b (entry_at rings k tablebase b)
          (sym (own_entry b s) ∙ passes (successors rule rings) (λ c. whole_seed c) (Reached rings k) (whole_ground rule takes rings k small) entry
          (λ c v. reached_true rule takes rings k tablebase entries c v) b w (whole_live b s.is_table.mover_low))
          (λ z. eqb-false (entry b) void_entry (not_void rule rings b (entry b) (reached_true rule takes rings k tablebase entries b w)) (own_entry b s ∙ z))
