-- The boards before a ply, found from the board after it. They are found for any rule of removal that names opposing stones: a board that has a ply
-- to c is among them (proofs/Found), and some that are found may have none. Assumes nothing.
use Rattle.std.specs.Prelude.{Bool, true, false, not, ◌||◌, List, [], ◌∷◌, map, ℕ, eqb, set}
use Rattle.lists.specs.Lists.{keep, each}
use Rattle.geometry.specs.Geometry.{adjoin}
use Rattle.board.specs.Board.{count}
use Rattle.rules.specs.Ply.{holds, holding, in_mill, slide, exchange}

-- the stones that may have moved last: any of the side that moved, and those in full mills where a stone was removed
unfoldable pub moved : Bool → ℕ → List ℕ → List ℕ
moved capture rings c = elim capture [ true ↦ keep (λ p. in_mill rings (holds c 2) p) (holding rings c 2) | false ↦ holding rings c 2 ]

-- where the stone at a point may have come from: a vacant neighbour, or any vacant point where its side has exactly three stones
unfoldable pub origins : ℕ → List ℕ → ℕ → List ℕ
origins rings c to = keep (λ from. eqb (count 2 c) 3 || adjoin to from) (holding rings c 0)

-- the sides change names back, and the stone goes back
unfoldable pub unslide : List ℕ → ℕ → ℕ → List ℕ
unslide c to from = slide (map (λ v. exchange v) c) to from

-- the board before a slide; where a stone was removed, one board for each other vacant point that it may have stood on
unfoldable pub restored : Bool → ℕ → List ℕ → ℕ → ℕ → List (List ℕ)
restored capture rings c to from = elim capture [
  | true ↦ map (λ p. set (unslide c to from) p 2) (keep (λ p. not (eqb p from)) (holding rings c 0))
  | false ↦ unslide c to from ∷ []
]

-- the boards before a ply that removed a stone, or before one that removed none
unfoldable pub predecessors : Bool → ℕ → List ℕ → List (List ℕ)
predecessors capture rings c = each (λ to. each (λ from. restored capture rings c to from) (origins rings c to)) (moved capture rings c)
