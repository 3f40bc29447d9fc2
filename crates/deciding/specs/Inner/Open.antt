-- The open positions of a table, and what is asked of them. Assumes nothing.
use Rattle.std.specs.Prelude.{◌≡◌, Bool, true, false, ◌&&◌, List, ℕ, ◌+◌, ◌*◌, ◌<◌, eqb, get_or}
use Rattle.ranking.specs.Unrank.{unrank}
use Rattle.rules.specs.Ply.{Rule, successors}
use Rattle.game.specs.Game.{draw_entry}
use Rattle.game.specs.Judgement.{decided}
use Rattle.tables.specs.declared.Table.{Table}
use Rattle.probing.specs.Inner.Probes.{probe}

-- an open position of rank r: neither a depth nor void stands there
unfoldable pub is_open : Table → List ℕ → ℕ → Bool
is_open t tablebase r = eqb (get_or tablebase (t.own.start + r) 0) draw_entry

module _ (rings : ℕ) (t : Table) (same : ℕ) where
  -- the position of rank r, and the entry of one of its successors
  abbrev pub board_at : ℕ → List ℕ
  board_at r = unrank (8 * rings) t.mover t.opponent r

  abbrev pub judged : List ℕ → List ℕ → ℕ
  judged tablebase b = probe tablebase same t.lower.start t.opponent b

-- an open position that its successors decide
unfoldable pub open_decided : Rule → ℕ → Table → ℕ → List ℕ → ℕ → Bool
open_decided rule rings t same tablebase r = is_open t tablebase r && decided (successors rule rings) (judged rings t same tablebase)
    (board_at rings t same r)

-- whether some number below n passes a test: one that does, or that none does
abbrev pub Found : (ℕ → Bool) → ℕ → Bool → Type 0
Found f n true = (r : ℕ) × (r < n) × (f r ≡ true)
Found f n false = (r : ℕ) → r < n → f r ≡ false
