-- The tables done before a pair, where pairs are filled in order, and what is true of them. Assumes nothing.
use Rattle.std.specs.Prelude.{◌≡◌, true, List, ℕ, ◌*◌, ◌≤◌, ◌<◌}
use Rattle.sizes.specs.Size.{size}
use Rattle.ranking.specs.Unrank.{unrank}
use Rattle.rules.specs.Ply.{Rule, successors}
use Rattle.game.specs.Game.{ended}
use Rattle.outcomes.specs.Whole.{whole_seed}
use Rattle.outcomes.specs.Order.{TrueEntries}

-- none of their positions has a forced end beyond the limit
abbrev pub WithinLimit : Rule → ℕ → ℕ → (ℕ → ℕ → Type 0) → Type 0
WithinLimit rule rings limit T = (x y r : ℕ) → T x y → r < size (8 * rings) x y → (n : ℕ)
    → ended (successors rule rings) (λ c. whole_seed c) n (unrank (8 * rings) x y r) ≡ true
    → ended (successors rule rings) (λ c. whole_seed c) limit (unrank (8 * rings) x y r) ≡ true

pub record TrueOn (rule : Rule) (rings k limit : ℕ) (T : ℕ → ℕ → Type 0) (tablebase : List ℕ) : Type 0 where
  pub entries : TrueEntries rule rings k T tablebase
  pub within : WithinLimit rule rings limit T

-- the tables done before pair (m, o): those of earlier rows, and those of row m with fewer than o, either way round
pub data DoneBefore (m o x y : ℕ) : Type 0 where
  rows : 3 ≤ x → x < m → 3 ≤ y → y < m → DoneBefore m o x y
  mine : x ≡ m → 3 ≤ y → y < o → DoneBefore m o x y
  yours : 3 ≤ x → x < o → y ≡ m → DoneBefore m o x y
