-- A table of entries over a set of positions that plies do not leave: what it holds of given endings, and when it holds every depth below n.
-- Assumes nothing.
use mathlib.Core.Path.{◌≡◌, refl, sym, subst}
use mathlib.Core.List.{List, Memᴰ}
use mathlib.Core.Logic.{◌⊎◌, inl, inr}
use Prim.Native.Nat.{ℕ, ◌<◌}
use native.Mathlib.Omega.{arith}
use Rattle.game.specs.Game.{Seed, live, ends, drawn, Depth, Entry, draw_entry, void_entry}
use Rattle.game.proofs.Depths.{ends_depth, drawn_draw}

-- a set that plies do not leave, and given depths that are entries
pub record Ground {Pos : Type 0} (next : Pos → List Pos) (seed : Pos → Seed) (S : Pos → Type 0) : Type 0 where
  pub closed : (p : Pos) → S p → seed p ≡ live → (q : Pos) → Memᴰ q (next p) → S q
  pub given_low : (q : Pos) {d : ℕ} → S q → seed q ≡ ends d → d < void_entry

module _ {Pos : Type 0} (next : Pos → List Pos) (seed : Pos → Seed) (S : Pos → Type 0) where
  -- given endings have their entries
  pub record Seeded (t : Pos → ℕ) : Type 0 where
    pub at_end : (q : Pos) {d : ℕ} → S q → seed q ≡ ends d → t q ≡ d
    pub at_draw : (q : Pos) → S q → seed q ≡ drawn → t q ≡ draw_entry

  -- the table holds every depth below n, and nothing else below n
  pub record Upto (t : Pos → ℕ) (n : ℕ) : Type 0 where
    pub sound : (q : Pos) → S q → t q < n → Depth next seed (t q) q
    pub complete : (q : Pos) → S q → (k : ℕ) → k < n → Depth next seed k q → t q ≡ k

  -- in such a table the plies decide, or the entry is true
  pub live_or_true : Ground next seed S → (t : Pos → ℕ) → Seeded t → (q : Pos) → S q → (seed q ≡ live) ⊎ Entry next seed q (t q)
  live_or_true g t x q s = go (seed q) refl
    where
      go : (v : Seed) → seed q ≡ v → (seed q ≡ live) ⊎ Entry next seed q (t q)
      go live e = inl e
      go (ends d) e = let a = x.at_end q s e in
          inr (inl (omega (arith, a, g.given_low q s e), subst (λ (k : ℕ). Depth next seed k q) (sym a) (ends_depth next seed q e)))
      go drawn e = inr (inr (x.at_draw q s e, drawn_draw next seed q e))
