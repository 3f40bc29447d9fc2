-- A whole fill leaves one tablebase: two that hold the entries of every position are equal, and no tablebase that is filled has a forced end beyond
-- the limit. Assumes nothing.
use mathlib.Core.Path.{◌≡◌, sym, subst, ◌∙◌}
use mathlib.Core.Bool.{true≢false}
use mathlib.Core.List.{List}
use Prim.Native.Nat.{ℕ, ◌+◌, ◌*◌, ◌<◌}
use native.Mathlib.Omega.{arith}
use lib.ListN.{length, get_or}
use lib.Seq.{ext_get_or}
use Rattle.sizes.specs.Size.{size}
use Rattle.ranking.specs.Unrank.{unrank}
use Rattle.layout.specs.Layout.{start, tablebase_length}
use Rattle.layout.proofs.OneToOne.{SomePlace, place_found, table_listed}
use Rattle.rules.specs.Ply.{Rule, successors}
use Rattle.game.specs.Game.{Seed, Entry}
use Rattle.game.proofs.Depths.{entry_unique}
use Rattle.outcomes.specs.Filled.{AllTables, Filled, TooDeep}

module _ (rule : Rule) (rings k : ℕ) (seed : List ℕ → Seed) where
  -- every table holds its entries
  abbrev Entries : List ℕ → Type 0
  Entries a = (x y r : ℕ) → AllTables rings k x y → r < size (8 * rings) x y
      → Entry (successors rule rings) seed (unrank (8 * rings) x y r) (get_or a (start (8 * rings) k x y + r) 0)

  pub entries_one : (a b : List ℕ) → length a ≡ tablebase_length (8 * rings) k → length b ≡ tablebase_length (8 * rings) k → Entries a → Entries b → a ≡ b
  entries_one a b n n' f g = ext_get_or 0 a b (n ∙ sym n') (λ i h. at i (place_found (8 * rings) k i (omega arith)))
    where
      at : (i : ℕ) → SomePlace (8 * rings) k i → get_or a i 0 ≡ get_or b i 0
      at i p =
          let w = p.place in
          let t = table_listed (8 * rings) k p.mover p.opponent w.is_table in
          subst (λ (j : ℕ). get_or a j 0 ≡ get_or b j 0) w.at
          (entry_unique (successors rule rings) seed (unrank (8 * rings) p.mover p.opponent p.rank)
          (f p.mover p.opponent p.rank t w.rank_low) (g p.mover p.opponent p.rank t w.rank_low))

  pub filled_one : (limit limit' : ℕ) (a b a' b' : List ℕ) → length a ≡ tablebase_length (8 * rings) k → length b ≡ tablebase_length (8 * rings) k
      → Filled rule rings k limit (AllTables rings k) seed a a' → Filled rule rings k limit' (AllTables rings k) seed b b' → a' ≡ b'
  filled_one limit limit' a b a' b' n n' f g =
      entries_one a' b' (f.kept.same_length ∙ n) (g.kept.same_length ∙ n') f.entries g.entries

-- filled and too deep exclude each other, whatever was filled
pub not_both : (rule : Rule) → (rings k limit : ℕ) (T : ℕ → ℕ → Type 0) (seed : List ℕ → Seed) (a b a' b' : List ℕ)
    → Filled rule rings k limit T seed a a'
    → TooDeep rule rings k limit T seed b b' → ⊥
not_both rule rings k limit T seed a b a' b' f d =
    true≢false (sym (f.within d.mover d.opponent d.rank d.in_table d.rank_low d.plies d.forced) ∙ d.beyond)
