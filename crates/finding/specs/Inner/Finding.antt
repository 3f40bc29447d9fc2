-- The first number that passes a test, and where an entry occurs in a list. Assumes nothing.
use Rattle.std.specs.Prelude.{◌≡◌, ℕ, zero, suc, ◌+◌, ◌<◌, ◌≤◌, Bool, true, false, ◌&&◌, ◌||◌, List, [], ◌∷◌, ◌==◌, nat_le, nat_lt, slice_index}
use Rattle.game.specs.Game.{void_entry}

-- r is the first number from `from` on and below `end` that passes a test, and `end` where there is none
pub record First (test : ℕ → Bool) (from end r : ℕ) : Type 0 where
  pub low : from ≤ r
  pub high : r ≤ end
  pub none : (i : ℕ) → from ≤ i → i < r → test i ≡ false
  pub here : r < end → test r ≡ true

-- none from `from` on and below r does
pub record NoneBefore (test : ℕ → Bool) (from end r : ℕ) : Type 0 where
  pub low : from ≤ r
  pub high : r ≤ end
  pub none : (i : ℕ) → from ≤ i → i < r → test i ≡ false

-- v is the entry at place i
abbrev pub is_at : ℕ → List ℕ → ℕ → Bool
is_at v l i = slice_index l i == v

-- v is one of the n entries from place i on
unfoldable pub occurs : ℕ → List ℕ → ℕ → ℕ → Bool
occurs v l i zero = false
occurs v l i (suc n) = is_at v l i || occurs v l (i + 1) n

unfoldable pub nearer : ℕ → ℕ → ℕ → ℕ
nearer least e low = elim (nat_le low e && nat_lt e least) [ true ↦ e | false ↦ least ]

-- the least depth from `low` on, void where there is none
unfoldable pub least_from : ℕ → List ℕ → ℕ
least_from low [] = void_entry
least_from low (e ∷ es) = nearer (least_from low es) e low
