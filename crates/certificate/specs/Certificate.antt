-- The certificate of a tablebase (document 02, A8: "a check that reads a shelf and passes it or gives the first index that fails"), under any rule of
-- removal. Assumes nothing.
use Rattle.std.specs.Prelude.{Bool, true, false, List, [], ◌∷◌, map, ℕ, suc, ◌*◌}
use Rattle.lists.specs.Lists.{range, each, all}
use Rattle.sizes.specs.Size.{size}
use Rattle.ranking.specs.Unrank.{unrank}
use Rattle.layout.specs.Layout.{Table, tables}
use Rattle.rules.specs.Ply.{Rule, successors}
use Rattle.outcomes.specs.Places.{entry_at, successor_entry}
use Rattle.certificate.specs.Right.{right}

-- the boards of a table by rising rank
abbrev pub boards_of : ℕ → Table → List (List ℕ)
boards_of points t = map (λ r. unrank points t.mover t.opponent r) (range 0 (size points t.mover t.opponent))

-- the boards of a tablebase of largest count k, in the order of its entries
unfoldable pub boards : ℕ → ℕ → List (List ℕ)
boards points k = each (λ t. boards_of points t) (tables points k)

-- the entry of a board is right: "A side with two stones counts as lost in 0"
unfoldable pub entry_right : Rule → ℕ → ℕ → List ℕ → List ℕ → Bool
entry_right rule rings k tablebase b =
    right (entry_at rings k tablebase b) (map (λ c. successor_entry rings k tablebase c) (successors rule rings b))

module _ {A : Type 0} (f : A → Bool) where
  -- how many members pass a test before the first that does not: the index of that one
  abbrev pub passing : List A → ℕ
  passing [] = 0
  passing (x ∷ xs) = elim (f x) [ true ↦ suc (passing xs) | false ↦ 0 ]

  -- passed, as 1 and index 0; or not, as 0 and "the first index that fails"
  abbrev pub verdict : List A → List ℕ
  verdict xs = elim (all f xs) [ true ↦ 1 ∷ 0 ∷ [] | false ↦ 0 ∷ passing xs ∷ [] ]

-- the verdict on a tablebase
unfoldable pub certificate : Rule → ℕ → ℕ → List ℕ → List ℕ
certificate rule rings k tablebase = verdict (λ b. entry_right rule rings k tablebase b) (boards (8 * rings) k)
