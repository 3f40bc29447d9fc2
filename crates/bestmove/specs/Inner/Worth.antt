-- What a move is judged by where the tables of the successors are given by where they start, and what it is worth. Assumes nothing.
use Rattle.std.specs.Prelude.{true, false, List, ℕ, ◌+◌, ◌-◌}
use Rattle.board.specs.Board.{count}
use Rattle.rules.specs.Ply.{after_ply}
use Rattle.game.specs.Game.{draw_entry, void_entry}
use Rattle.game.specs.Judgement.{is_lost, is_won}
use Rattle.probing.specs.Inner.Probes.{probe}

-- the entry of the successor of b that a move leads to
abbrev pub entry_by : List ℕ → ℕ → ℕ → List ℕ → ℕ → ℕ
entry_by tablebase same fewer b m = probe tablebase same fewer (count 2 b) (after_ply b m)

-- what a move to an entry is worth: less than a draw where the entry is won, the longer the better, and more where it is lost, the shorter the better
unfoldable pub worth : ℕ → ℕ
worth e = elim (is_won e) [
  | true ↦ draw_entry - (void_entry - e)
  | false ↦ elim (is_lost e) [ true ↦ draw_entry + (void_entry - e) | false ↦ draw_entry ]
]
