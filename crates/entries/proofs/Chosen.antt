-- What is read of the successors of a position, by where their tables start, is their entries: so the mover is blocked, an entry void, and a move the
-- best where the definitions say it, under any rule that removes opposing stones. Assumes nothing.
use mathlib.Core.Path.{◌≡◌, sym, ap, ap₂, ◌∙◌}
use mathlib.Core.Bool.{Bool, true, false, cond}
use mathlib.Core.List.{List, [], ◌∷◌, map, Memᴰ}
use Prim.Native.Nat.{ℕ, ◌*◌}
use lib.Dec.{eqb}
use Rattle.lists.specs.Lists.{any}
use Rattle.lists.proofs.Members.{map_same}
use Rattle.board.specs.declared.Position.{Position}
use Rattle.board.specs.Board.{count, board_of}
use Rattle.layout.specs.Layout.{start}
use Rattle.layout.proofs.OneToOne.{in_range}
use Rattle.rules.specs.Ply.{Rule, moves, blocked, after_ply, successors}
use Rattle.rules.specs.MoveList.{listed_moves}
use Rattle.rules.proofs.CapturesFirst.{listed_legal, listed_empty}
use Rattle.rules.proofs.Listed.{TakesOpponent, of_successor}
use Rattle.rules.proofs.Blocked.{blocked_moves}
use Rattle.game.specs.Game.{void_entry}
use Rattle.outcomes.specs.Places.{successor_entry, successor_void}
use Rattle.outcomes.proofs.Ranked.{own_table}
use Rattle.outcomes.proofs.Voids.{read_void}
use Rattle.probing.specs.Inner.Probes.{probe, Reads}
use Rattle.bestmove.specs.Best.{best_entry, best_move}
use Rattle.bestmove.specs.Inner.Worth.{entry_by}
use Rattle.bestmove.proofs.Choice.{best_same, best_listed_lem}
use Rattle.tables.specs.Inner.Tables.{lower_start}
use Rattle.probing.proofs.Probed.{reads_within, probed}
use Rattle.answers.specs.Answers.{accepted, refused, answer}
use Rattle.entries.specs.Inner.Whole.{InTablebase}
use Rattle.entries.specs.Inner.Choices.{choice_at}
use Rattle.entries.specs.BestMove.{entry_after, best_listed, best_successor}
use Rattle.entries.proofs.Standing.{in_tables}

-- the tables of b's successors start there
pub record Starting (rings k : ℕ) (b : List ℕ) (same fewer : ℕ) : Type 0 where
  pub same_is : same ≡ start (8 * rings) k (count 2 b) (count 1 b)
  pub fewer_is : fewer ≡ lower_start (8 * rings) k (count 1 b) (count 2 b)

module _ {n : ℕ} (rule : Rule) (takes : TakesOpponent rule) (rings k : ℕ) (p : Position) (w : InTablebase n rings k p)
    (tablebase : List ℕ) where
  abbrev b : List ℕ
  b = board_of (8 * rings) p

  abbrev same : ℕ
  same = start (8 * rings) k (count 2 b) (count 1 b)

  abbrev fewer : ℕ
  fewer = lower_start (8 * rings) k (count 1 b) (count 2 b)

  -- what is read of a successor, and of what a move leads to, is its entry
  read_is : (d : List ℕ) → Memᴰ d (successors rule rings b) → probe tablebase same fewer (count 2 b) d ≡ successor_entry rings k tablebase d
  read_is =
      probed rule takes rings k (count 1 b) (count 2 b) w.placed.small w.opponent_low b (own_table rings k b (in_tables rings k p w)) tablebase

  entry_is : (m : ℕ) → Memᴰ m (listed_moves rule rings b) → entry_by tablebase same fewer b m ≡ entry_after rings k tablebase b m
  entry_is m i = read_is (after_ply b m) (of_successor rule rings b m (listed_legal (moves rule rings b) i))

  module _ {x y : ℕ} (s : Starting rings k b x y) where
    pub reads_of : Reads n (8 * rings) (count 1 b) (count 2 b) x y
    reads_of =
        rw (s.same_is, s.fewer_is)
        (reads_within (8 * rings) k (count 1 b) (count 2 b) (in_range {points = 8 * rings} (in_tables rings k p w).is_table) n w.exact)

    pub void_of : any (λ d. eqb (probe tablebase x y (count 2 b) d) void_entry) (successors rule rings b) ≡ successor_void rule rings k tablebase b
    void_of = rw (s.same_is, s.fewer_is) (read_void rule rings k tablebase b (λ d. probe tablebase same fewer (count 2 b) d) read_is)

    pub move_of : best_move (λ m. entry_by tablebase x y b m) (listed_moves rule rings b) ≡ best_listed rule rings k tablebase b
    unfolding best_listed
    move_of = rw (s.same_is, s.fewer_is) (best_same _ _ (listed_moves rule rings b) entry_is)

    -- "with the entry of the successor it leads to"
    pub entry_of : blocked rings b ≡ false
        → best_entry (map (λ m. entry_by tablebase x y b m) (listed_moves rule rings b)) ≡ successor_entry rings k tablebase
        (best_successor rule rings k tablebase b)
    unfolding best_listed best_successor
    entry_of some =
        rw (s.same_is, s.fewer_is)
        (ap best_entry (map_same _ _ (listed_moves rule rings b) entry_is)
        ∙ sym (best_listed_lem (λ m. entry_after rings k tablebase b m) (listed_moves rule rings b)
        (listed_empty (moves rule rings b) ∙ blocked_moves rule rings b ∙ some)).1)

-- the choice at a board, by what was found
module _ (rule : Rule) (rings k : ℕ) (tablebase b : List ℕ) where
  abbrev best : List ℕ
  best = best_listed rule rings k tablebase b ∷ successor_entry rings k tablebase (best_successor rule rings k tablebase b) ∷ []

  pub blocked_choice : blocked rings b ≡ true → refused 9 ≡ choice_at rule rings k tablebase b
  unfolding choice_at
  blocked_choice e = ap (λ (t : Bool). answer (cond t 9 (cond (successor_void rule rings k tablebase b) 12 0)) best) (sym e)

  module _ (some : blocked rings b ≡ false) where
    pub void_choice : successor_void rule rings k tablebase b ≡ true → refused 12 ≡ choice_at rule rings k tablebase b
    unfolding choice_at
    void_choice v = ap₂ (λ (t u : Bool). answer (cond t 9 (cond u 12 0)) best) (sym some) (sym v)

    pub move_choice : successor_void rule rings k tablebase b ≡ false → accepted best ≡ choice_at rule rings k tablebase b
    unfolding choice_at
    move_choice v = ap₂ (λ (t u : Bool). answer (cond t 9 (cond u 12 0)) best) (sym some) (sym v)
