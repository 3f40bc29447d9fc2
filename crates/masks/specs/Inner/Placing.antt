-- How the mills of a board come to the places of their points, one after the other. Assumes nothing.
use Rattle.std.specs.Prelude.{not, List, [], ℕ, zero, suc, ◌+◌, ◌*◌, eqb, get_or, set}
use Rattle.sets.specs.Sets.{set_from}
use Rattle.geometry.specs.Geometry.{mills}
use Rattle.board.specs.Board.{digit}
use Rattle.geometry.specs.Tables.{mill_point}

-- a mill at the first of a point's two places, or at the second where the first is taken
unfoldable pub placed : ℕ → ℕ → List ℕ → List ℕ
placed p mill masks = set masks (24 + 2 * p + digit (not (eqb (get_or masks (24 + 2 * p) 0) 0))) mill

-- a mill at its three points
unfoldable pub mill_placed : ℕ → List ℕ → List ℕ
mill_placed i masks = let mill = set_from (get_or (mills 3) i []) in
    placed (mill_point i 2) mill (placed (mill_point i 1) mill (placed (mill_point i 0) mill masks))

-- the first mills, each at its points
unfoldable pub mills_placed : ℕ → List ℕ → List ℕ
mills_placed zero masks = masks
mills_placed (suc i) masks = mill_placed i (mills_placed i masks)
