-- Tables that hold true entries have one entry for all images of a position; and any table does for the first symmetry alone.
-- Assumes nothing.
use mathlib.Core.Path.{◌≡◌, ap, subst, ◌∙◌}
use mathlib.Core.List.{List}
use Prim.Native.Nat.{ℕ, ◌+◌, ◌*◌, ◌≤◌}
use native.Mathlib.Omega.{arith}
use lib.ListN.{get_or}
use Rattle.ranking.specs.Rank.{rank}
use Rattle.ranking.specs.Unrank.{unrank}
use Rattle.ranking.proofs.Inverse.{rank_unrank}
use Rattle.layout.specs.Layout.{start}
use Rattle.rules.specs.Ply.{Rule, successors}
use Rattle.rules.proofs.Listed.{TakesOpponent}
use Rattle.game.proofs.Depths.{entry_unique}
use Rattle.outcomes.specs.Whole.{whole_seed, TrueEntry}
use Rattle.outcomes.specs.Pair.{LowerTables}
use Rattle.outcomes.specs.Order.{TrueEntries}
use Rattle.outcomes.proofs.Ranked.{unrank_in, rank_in, unrank_of}
use Rattle.outcomes.proofs.PairTrue.{LowerTrue}
use Rattle.symmetry.specs.Symmetries.{image}
use Rattle.symmetry.proofs.Images.{image_zero}
use Rattle.invariance.specs.Symmetric.{TableSymmetric, LowerSymmetric}
use Rattle.invariance.proofs.Groups.{Group}
use Rattle.invariance.proofs.WholeMaps.{image_entry}
use Rattle.invariance.proofs.PairMaps.{image_table}
use Rattle.invariance.proofs.Plies.{Commutes}

-- a table that holds true entries
pub true_symmetric : (rule : Rule) → TakesOpponent rule → Commutes rule → (rings k : ℕ) → rings ≤ 3 → (T : ℕ → ℕ → Type 0) (tablebase : List ℕ)
    → TrueEntries rule rings k T tablebase
    → (maps : ℕ) → Group maps → (x y : ℕ) → T x y → TableSymmetric maps rings k tablebase x y
true_symmetric rule takes commutes rings k few T tablebase entries maps w x y t r g h l =
    let b = unrank (8 * rings) x y r in
    let i = unrank_in rings x y r h in
    let j = image_table rings few g (omega (arith, w.high)) x y b i in
    let c = image rings g b in
    entry_unique (successors rule rings) (λ d. whole_seed d) c
    (subst (λ (d : List ℕ). TrueEntry rule rings d (get_or tablebase (start (8 * rings) k x y + rank c) 0)) (unrank_of rings x y c j)
    (entries x y (rank c) t (rank_in rings x y c j)))
    (image_entry rule takes commutes rings few maps w g l b i.points (get_or tablebase (start (8 * rings) k x y + r) 0) (entries x y r t h))

pub lower_true_symmetric : (rule : Rule) → TakesOpponent rule → Commutes rule → (rings k m o : ℕ) → rings ≤ 3 → (tablebase : List ℕ)
    → LowerTrue rule rings k m o tablebase → (maps : ℕ) → Group maps
    → LowerSymmetric maps rings k m o tablebase
lower_true_symmetric rule takes commutes rings k m o few tablebase low maps w x y t = true_symmetric rule takes commutes rings k few (LowerTables m o)
    tablebase low maps w x y t

-- any table is symmetric under the first symmetry
pub one_symmetric : (rings k : ℕ) (tablebase : List ℕ) (x y : ℕ) → TableSymmetric 1 rings k tablebase x y
one_symmetric rings k tablebase x y r g h l =
    let z : g ≡ 0 = omega arith in
    ap (λ (i : ℕ). get_or tablebase (start (8 * rings) k x y + rank (image rings i (unrank (8 * rings) x y r))) 0) z
    ∙ ap (λ (b : List ℕ). get_or tablebase (start (8 * rings) k x y + rank b) 0) (image_zero rings (unrank (8 * rings) x y r))
    ∙ ap (λ (i : ℕ). get_or tablebase (start (8 * rings) k x y + i) 0) (rank_unrank (8 * rings) x y r h).rank_is
