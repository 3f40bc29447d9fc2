-- Positions that no game reaches (document 02, A1, by source document 002: "if one player has a closed mill, her opponent cannot have all nine stones on
-- the board"). Nothing else of that document's cases is tested. Assumes nothing.
use Rattle.std.specs.Prelude.{Bool, ◌&&◌, ◌||◌, List, ℕ, eqb}
use Rattle.lists.specs.Lists.{all, any}
use Rattle.geometry.specs.Geometry.{mills}
use Rattle.board.specs.Board.{count}
use Rattle.rules.specs.Ply.{holds}

-- some mill is full of points that pass the test
unfoldable pub has_mill : ℕ → (ℕ → Bool) → Bool
has_mill rings own = any (λ mill. all own mill) (mills rings)

-- side v "has nine stones and the other", w, "has a full mill"
unfoldable pub nine_against_mill : ℕ → List ℕ → ℕ → ℕ → Bool
nine_against_mill rings b v w = eqb (count v b) 9 && has_mill rings (holds b w)

-- "On three rings, if one side has nine stones and the other has a full mill"
unfoldable pub unreachable : ℕ → List ℕ → Bool
unreachable rings b = eqb rings 3 && (nine_against_mill rings b 1 2 || nine_against_mill rings b 2 1)
