-- What the choice of a best move asks of its caller. Assumes nothing.
use Rattle.std.specs.Prelude.{◌≡◌, false, ℕ, ◌*◌, ◌≤◌, eqb, length}
use mathlib.Core.List.{List, Memᴰ}
use Rattle.lists.specs.Lists.{any}
use Rattle.board.specs.declared.Position.{Position}
use Rattle.board.specs.Board.{count, board_of}
use Rattle.rules.specs.Ply.{Rule, blocked, successors}
use Rattle.rules.specs.Inner.Making.{Makeable}
use Rattle.game.specs.Game.{void_entry}
use Rattle.masks.specs.Inner.Masks.{Masks}
use Rattle.tables.specs.declared.Starts.{Starts}
use Rattle.probing.specs.Inner.Probes.{probe}
use Rattle.probing.specs.Inner.Conditions.{Probing}
use Rattle.bestmove.specs.Inner.Worth.{entry_by}

-- the entries of the successors by a rule can be read, and none is void
pub record NoneVoid (rule : Rule) (tablebase : List ℕ) (rings : ℕ) (starts : Starts) (position : Position) : Type 0 where
  pub probing : Probing (length tablebase) rings starts position
  pub told : any (λ b. eqb (probe tablebase starts.same starts.fewer (count 2 (board_of (8 * rings) position)) b) void_entry)
      (successors rule rings (board_of (8 * rings) position)) ≡ false

-- some moves that can be made, none to a void entry
pub record Candidates (tablebase : List ℕ) (rings : ℕ) (starts : Starts) (position : Position) (ms : List ℕ) : Type 0 where
  pub some : 1 ≤ length ms
  pub makeable : (m : ℕ) → Memᴰ m ms → Makeable rings (board_of (8 * rings) position) m
  pub told : (m : ℕ) → Memᴰ m ms → entry_by tablebase starts.same starts.fewer (board_of (8 * rings) position) m ≡ void_entry → ⊥

-- a position that has a move, and under no edition more than the list has room for
pub record Choosing (rings : ℕ) (lent : List ℕ) (position : Position) : Type 0 where
  pub masks : Masks rings lent
  pub some : blocked rings (board_of (8 * rings) position) ≡ false
  pub mover_most : count 1 (board_of (8 * rings) position) ≤ 9
  pub opponent_least : 1 ≤ count 2 (board_of (8 * rings) position)
  pub opponent_most : count 2 (board_of (8 * rings) position) ≤ 9
