-- What a fill leaves in a tablebase, for the whole game and for a pair's game alike: the tables to fill are those of T, the game is given by the
-- rule of removal and its seeds. Assumes nothing.
use Rattle.std.specs.Prelude.{◌≡◌, Bool, true, false, ◌⊎◌, ℕ, ◌+◌, ◌*◌, ◌<◌, length, get_or}
use mathlib.Core.List.{List, Memᴰ}
use Rattle.sizes.specs.Size.{size}
use Rattle.ranking.specs.Unrank.{unrank}
use Rattle.layout.specs.Layout.{table, tables, start}
use Rattle.rules.specs.Ply.{Rule, successors}
use Rattle.game.specs.Game.{Seed, void_entry, ended, Entry}

-- the tables to fill of a whole tablebase, and of a pair
abbrev pub AllTables : ℕ → ℕ → ℕ → ℕ → Type 0
AllTables rings k x y = Memᴰ (table x y) (tables (8 * rings) k)

abbrev pub BothTables : ℕ → ℕ → ℕ → ℕ → Type 0
BothTables m o x y = ((x ≡ m) × (y ≡ o)) ⊎ ((x ≡ o) × (y ≡ m))

-- every entry but those of the tables of T is as it was
pub record Kept (rings k : ℕ) (T : ℕ → ℕ → Type 0) (before after : List ℕ) : Type 0 where
  pub same_length : length after ≡ length before
  pub rest : (j : ℕ) → ((x y r : ℕ) → T x y → r < size (8 * rings) x y → start (8 * rings) k x y + r ≡ j → ⊥) → get_or after j 0 ≡ get_or before j 0

module _ (rule : Rule) (rings k limit : ℕ) (T : ℕ → ℕ → Type 0) (seed : List ℕ → Seed) (before after : List ℕ) where
  -- every table of T holds, at the place of each rank, the entry of the position of that rank, and none has a forced end beyond the limit
  pub record Filled : Type 0 where
    pub kept : Kept rings k T before after
    pub entries : (x y r : ℕ) → T x y → r < size (8 * rings) x y
        → Entry (successors rule rings) seed (unrank (8 * rings) x y r) (get_or after (start (8 * rings) k x y + r) 0)
    pub within : (x y r : ℕ) → T x y → r < size (8 * rings) x y → (n : ℕ) → ended (successors rule rings) seed n (unrank (8 * rings) x y r) ≡ true
        → ended (successors rule rings) seed limit (unrank (8 * rings) x y r) ≡ true

  -- some position has a forced end beyond the limit: "all entries to be filled become void, others unchanged"
  pub record TooDeep : Type 0 where
    pub kept : Kept rings k T before after
    pub void : (x y r : ℕ) → T x y → r < size (8 * rings) x y → get_or after (start (8 * rings) k x y + r) 0 ≡ void_entry
    pub mover : ℕ
    pub opponent : ℕ
    pub rank : ℕ
    pub in_table : T mover opponent
    pub rank_low : rank < size (8 * rings) mover opponent
    pub plies : ℕ
    pub forced : ended (successors rule rings) seed plies (unrank (8 * rings) mover opponent rank) ≡ true
    pub beyond : ended (successors rule rings) seed limit (unrank (8 * rings) mover opponent rank) ≡ false

  -- what a fill answers: whether some position was too deep
  abbrev pub Fill : Bool → Type 0
  Fill true = TooDeep
  Fill false = Filled
