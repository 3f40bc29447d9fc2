-- Whether a table has one entry for all images of a position, as it is tested. Assumes nothing.
use Rattle.std.specs.Prelude.{Bool, true, false, not, ◌&&◌, List, ℕ, ◌+◌, ◌*◌, ◌≤◌, eqb, get_or}
use Rattle.board.specs.Board.{count, board_of, OnBoard}
use Rattle.sizes.specs.Size.{size}
use Rattle.ranking.specs.Rank.{rank}
use Rattle.game.specs.Game.{draw_entry}
use Rattle.symmetry.specs.Symmetries.{image}
use Rattle.layers.specs.declared.Source.{Source}
use Rattle.comparing.specs.declared.Entered.{Entered}

-- a table that lies within a tablebase of a length
pub record Comparable (length rings : ℕ) (table : Source) : Type 0 where
  pub small : rings ≤ 3
  pub mover_most : table.mover ≤ 24
  pub opponent_most : table.opponent ≤ 24
  pub room : table.start + size (8 * rings) table.mover table.opponent ≤ length

-- a position whose table lies within a tablebase of a length
pub record Comparing (length rings : ℕ) (at : Entered) : Type 0 where
  pub small : rings ≤ 3
  pub on : OnBoard (8 * rings) at.position
  pub room : at.start + size (8 * rings) (count 1 (board_of (8 * rings) at.position)) (count 2 (board_of (8 * rings) at.position)) ≤ length

-- the image of b under symmetry g has an entry, in the table that starts at a place
unfoldable pub image_has : ℕ → ℕ → List ℕ → List ℕ → ℕ → ℕ → Bool
image_has rings start tablebase b entry g = eqb (get_or tablebase (start + rank (image rings g b)) 0) entry

-- the entry of b stands at its images by a turn, by a mirror and with the rings reversed: these three make all sixteen
unfoldable pub same_images : ℕ → ℕ → List ℕ → List ℕ → ℕ → Bool
same_images rings start tablebase b entry =
    (image_has rings start tablebase b entry 1 && image_has rings start tablebase b entry 4) && image_has rings start tablebase b entry 8

-- the position of rank r is no draw, in the table that starts at a place
abbrev pub is_decided : ℕ → List ℕ → ℕ → Bool
is_decided start tablebase r = not (eqb (get_or tablebase (start + r) 0) draw_entry)

-- an answer to whether something holds
abbrev pub Decides : Type 0 → Bool → Type 0
Decides P true = P
Decides P false = P → ⊥
