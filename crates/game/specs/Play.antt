-- Play by best moves against any defence. For games whose only given endings are losses in 0. Assumes nothing.
use Rattle.std.specs.Prelude.{◌≡◌, true, ◌⊎◌, ℕ, zero, suc}
use mathlib.Core.List.{List, Memᴰ}
use Rattle.game.specs.Game.{Seed, lost}

module _ {Pos : Type 0} (next : Pos → List Pos) (seed : Pos → Seed) where
  -- the game is over: the mover is lost within 0 plies
  abbrev pub Over : Pos → Type 0
  Over p = lost next seed zero p ≡ true

  -- the mover, who has not lost, takes the best move, which is a ply, and the opponent any: the game is over, and the mover has won it, within n plies
  abbrev pub Wins : (best : Pos → Pos) → ℕ → Pos → Type 0
  Wins best zero p = ⊥
  Wins best (suc zero) p = (Over p → ⊥) × Memᴰ (best p) (next p) × Over (best p)
  Wins best (suc (suc n)) p =
      (Over p → ⊥) × Memᴰ (best p) (next p) × (Over (best p) ⊎ ((q : Pos) → Memᴰ q (next (best p)) → Wins best n q))

  -- q comes later in such play, with the mover to move: from p, t times the mover took the best move and the opponent, who had not lost, any ply
  abbrev pub Later : (best : Pos → Pos) (t : ℕ) (p q : Pos) → Type 0
  Later best zero p q = q ≡ p
  Later best (suc t) p q = (r : Pos) × Later best t p r × (Over (best r) → ⊥) × Memᴰ q (next (best r))
