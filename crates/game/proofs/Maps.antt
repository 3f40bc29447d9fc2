-- Maps of the positions of a game that keep plies and seeds, numbered below n and closed under composition: symmetries. Assumes nothing.
use mathlib.Core.Path.{◌≡◌}
use mathlib.Core.List.{List, Memᴰ}
use Prim.Native.Nat.{ℕ, ◌<◌}
use Rattle.game.specs.Game.{Seed, live}

module _ {Pos : Type 0} (next : Pos → List Pos) (seed : Pos → Seed) (S : Pos → Type 0) (maps : ℕ) (act : ℕ → Pos → Pos) where
  -- what is asked of them on S: seeds stay, plies go to plies both ways where they decide, and maps can be composed and undone
  pub record Maps : Type 0 where
    pub within : (g : ℕ) → g < maps → (p : Pos) → S p → S (act g p)
    pub seeds : (g : ℕ) → g < maps → (p : Pos) → S p → seed (act g p) ≡ seed p
    pub forth : (g : ℕ) → g < maps → (p : Pos) → S p → seed p ≡ live → (q : Pos) → Memᴰ q (next p) → Memᴰ (act g q) (next (act g p))
    pub back : (g : ℕ) → g < maps → (p : Pos) → S p → seed p ≡ live → (q : Pos) → Memᴰ q (next (act g p)) → (x : Pos) × Memᴰ x (next p)
        × (q ≡ act g x)
    pub stays : (p : Pos) → S p → (g : ℕ) × (g < maps) × (act g p ≡ p)
    pub undone : (g : ℕ) → g < maps → (p : Pos) → S p → (h : ℕ) × (h < maps) × (act h (act g p) ≡ p)
    pub composed : (g h : ℕ) → g < maps → h < maps → (p : Pos) → S p → (i : ℕ) × (i < maps) × (act g (act h p) ≡ act i p)

  -- q is an image of p
  abbrev pub Image : Pos → Pos → Type 0
  Image p q = (g : ℕ) × (g < maps) × (act g p ≡ q)

  -- a table with one entry for all images of a position
  abbrev pub Symmetric : (Pos → ℕ) → Type 0
  Symmetric t = (g : ℕ) → g < maps → (p : Pos) → S p → t (act g p) ≡ t p
