-- The marks of a layer, as a function of the tablebase: the open positions before its picked ones. Assumes nothing.
use Rattle.std.specs.Prelude.{Bool, true, false, List, ℕ, zero, suc, ◌+◌, ◌*◌, ◌≤◌, ◌<◌, eqb, ltb, get_or}
use Rattle.board.specs.Board.{digit}
use Rattle.sizes.specs.Size.{size}
use Rattle.ranking.specs.Unrank.{unrank}
use Rattle.rules.specs.Predecessors.{predecessors}
use Rattle.game.specs.Game.{void_entry}
use Rattle.classing.specs.declared.Maps.{Maps}
use Rattle.marks.specs.Inner.Marks.{marked, places}
use Rattle.marks.specs.Inner.Putting.{Room}
use Rattle.returning.specs.declared.Back.{Back}
use Rattle.layers.specs.declared.Source.{Source}
use Rattle.layers.specs.declared.Layer.{Layer}

-- the first n entries of s lie within a tablebase of a length; a table of movers with two stones has none
abbrev pub Stored : Source → ℕ → ℕ → Type 0
Stored s n length = 3 ≤ s.mover → s.start + n ≤ length

-- the table before a layer and the layer lie within a tablebase of a length, and how many maps make a class
pub record Preceding (length : ℕ) (maps : Maps) (back : Back) (layer : Layer) : Type 0 where
  pub few : maps.count ≤ 16
  pub room : Room (8 * maps.rings) layer.source.opponent (layer.source.mover + digit back.capture) back.part.start back.part.end length
  pub mover_most : layer.source.mover ≤ 24
  pub opponent_most : layer.source.opponent ≤ 24
  pub stored : Stored layer.source (size (8 * maps.rings) layer.source.mover layer.source.opponent) length
  pub depth_low : layer.depth < void_entry

-- the position of rank r has that depth; a mover with two stones has depth 0
unfoldable pub is_source : Source → ℕ → List ℕ → ℕ → Bool
is_source s depth tablebase r = elim (ltb s.mover 3) [ true ↦ eqb depth 0 | false ↦ eqb (get_or tablebase (s.start + r) 0) depth ]

-- the positions before b are marked in the table that starts at a place, if b is picked
unfoldable pub gone_back : ℕ → ℕ → Bool → (List ℕ → Bool) → List ℕ → List ℕ → List ℕ
gone_back rings start capture picked b tablebase = elim (picked b) [
  | true ↦ marked (places start (predecessors capture rings b)) tablebase
  | false ↦ tablebase
]

module _ (rings start : ℕ) (s : Source) (capture : Bool) (depth : ℕ) (picked : List ℕ → Bool) where
  -- the position of rank r is gone back from, if it has the depth
  unfoldable pub marked_place : List ℕ → ℕ → List ℕ
  marked_place tablebase r = elim (is_source s depth tablebase r) [
    | true ↦ gone_back rings start capture picked (unrank (8 * rings) s.mover s.opponent r) tablebase
    | false ↦ tablebase
  ]

  -- and so are the first n positions of s
  unfoldable pub marked_from : List ℕ → ℕ → List ℕ
  marked_from tablebase zero = tablebase
  marked_from tablebase (suc n) = marked_place (marked_from tablebase n) n
