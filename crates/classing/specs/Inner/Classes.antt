-- Which position of a class is gone back from; an entry written at all images. Assumes nothing.
use Rattle.std.specs.Prelude.{Bool, List, ℕ, zero, suc, ◌+◌, leb, set}
use Rattle.lists.specs.Lists.{all, range}
use Rattle.board.specs.Board.{set_of}
use Rattle.ranking.specs.Rank.{rank}
use Rattle.symmetry.specs.Symmetries.{image}

-- the number of a board: the mover's points
abbrev pub mover_set : List ℕ → ℕ
mover_set b = set_of 1 b

-- none of the first images has a lower number, for a numbering of boards
unfoldable pub is_least : (List ℕ → ℕ) → ℕ → ℕ → List ℕ → Bool
is_least numbering rings maps b = all (λ g. leb (numbering b) (numbering (image rings g b))) (range 0 maps)

abbrev pub least_of_class : ℕ → ℕ → List ℕ → Bool
least_of_class rings maps b = is_least (λ c. mover_set c) rings maps b

-- v at the places of the first n images of b, in the table that starts at a place
unfoldable pub images_written : ℕ → ℕ → List ℕ → ℕ → List ℕ → ℕ → List ℕ
images_written rings start b v tablebase zero = tablebase
images_written rings start b v tablebase (suc n) = set (images_written rings start b v tablebase n) (start + rank (image rings n b)) v
