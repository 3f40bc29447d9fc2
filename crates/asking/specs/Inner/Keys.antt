-- What is asked of an entry: a range of keys. Assumes nothing.
use Rattle.std.specs.Prelude.{Bool, true, false, ◌&&◌, ℕ, ◌+◌, leb, ltb}
use Rattle.game.specs.Judgement.{is_won}

-- entries in an order of their own: the won ones by depth, then the lost ones by depth, then void and draw
unfoldable pub key : ℕ → ℕ
key e = elim (is_won e) [ true ↦ e | false ↦ 65536 + e ]

-- an entry whose key is from `low` on and below `high`: what is asked of a successor
unfoldable pub asked : ℕ → ℕ → ℕ → Bool
asked low high e = leb low (key e) && ltb (key e) high
