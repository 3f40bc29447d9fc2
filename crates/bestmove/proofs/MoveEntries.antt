-- The entries that the moves of a board lead to, by any rule of removal: none is void where no successor's entry is. Assumes nothing.
use mathlib.Core.Path.{◌≡◌}
use mathlib.Core.Bool.{false}
use mathlib.Core.List.{List, Memᴰ}
use Prim.Native.Nat.{ℕ}
use lib.Dec.{eqb}
use borrow.Author.Tests.{eq-eqb}
use Rattle.lists.specs.Lists.{any}
use Rattle.lists.proofs.Tests.{clash, any_none}
use Rattle.board.specs.Board.{count}
use Rattle.rules.specs.Ply.{Rule, moves, after_ply, successors}
use Rattle.rules.proofs.Listed.{of_successor}
use Rattle.game.specs.Game.{void_entry}
use Rattle.probing.specs.Inner.Probes.{probe}
use Rattle.bestmove.specs.Inner.Worth.{entry_by}

pub moves_told : (rule : Rule) (tablebase : List ℕ) (same fewer rings : ℕ) (b : List ℕ)
    → any (λ c. eqb (probe tablebase same fewer (count 2 b) c) void_entry) (successors rule rings b) ≡ false
    → (m : ℕ) → Memᴰ m (moves rule rings b) → entry_by tablebase same fewer b m ≡ void_entry → ⊥
moves_told rule tablebase same fewer rings b none m i e =
    clash (eq-eqb _ void_entry e)
    (any_none (λ c. eqb (probe tablebase same fewer (count 2 b) c) void_entry) (successors rule rings b) none (after_ply b m)
    (of_successor rule rings b m i))
