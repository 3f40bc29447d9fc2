-- A ply (document 01, the section of that name), on boards as lists of values. The rule of removal is a parameter; the rules of both editions
-- (document 02, A11) stand here. Assumes nothing.
use Rattle.std.specs.Prelude.{Bool, true, false, not, ◌&&◌, ◌||◌, List, [], ◌∷◌, map, ℕ, zero, suc, ◌+◌, ◌*◌, ◌/◌, ◌%◌, eqb, get_or, set}
use Rattle.lists.specs.Lists.{keep, all, any, each, member, is_empty, or_else}
use Rattle.geometry.specs.Geometry.{points, adjoin, mills}
use Rattle.board.specs.Board.{count}

-- point p holds v
abbrev pub holds : List ℕ → ℕ → ℕ → Bool
holds b v p = eqb (get_or b p 0) v

-- the points that hold v, by rising number
unfoldable pub holding : ℕ → List ℕ → ℕ → List ℕ
holding rings b v = keep (holds b v) (points rings)

-- some mill through p is full of points that pass the test
unfoldable pub in_mill : ℕ → (ℕ → Bool) → ℕ → Bool
in_mill rings own p = any (λ mill. member p mill && all own mill) (mills rings)

-- "The mover slides a stone to a vacant neighbour; with exactly three stones, to any vacant point."
unfoldable pub destinations : ℕ → List ℕ → ℕ → List ℕ
destinations rings b from = keep (λ to. eqb (count 1 b) 3 || adjoin from to) (holding rings b 0)

-- the board after the slide, the sides not yet exchanged: the vacated point no longer counts towards a mill
unfoldable pub slide : List ℕ → ℕ → ℕ → List ℕ
slide b from to = set (set b from 0) to 1

-- the opposing stones outside any mill
unfoldable pub unshielded : ℕ → List ℕ → List ℕ
unshielded rings b = keep (λ p. not (in_mill rings (holds b 2) p)) (holding rings b 2)

-- a rule of removal: the points that a closed mill may remove, by the board after the slide alone; none where it removes nothing
abbrev pub Rule : Type 0
Rule = ℕ → List ℕ → List ℕ

-- what may be removed if all opposing stones stand in mills: "any one", and under edition 2 "nothing"
unfoldable pub if_all_shielded : ℕ → Rule
if_all_shielded edition = λ rings b. elim (eqb edition 2) [ true ↦ [] | false ↦ holding rings b 2 ]

-- the rule of an edition: "exactly one opposing stone must be removed: one outside any mill", or what the edition says if all stand in mills
unfoldable pub removable : ℕ → Rule
removable edition = λ rings b. or_else (unshielded rings b) (if_all_shielded edition rings b)

-- "with 31 for no removal"
abbrev pub no_removal : ℕ
no_removal = 31

-- what may be removed once a stone has slid to a point: "if the moved stone then stands in a full mill of its own", what the rule names
unfoldable pub removals : Rule → ℕ → List ℕ → ℕ → List ℕ
removals rule rings b to = elim (in_mill rings (holds b 1) to) [ true ↦ or_else (rule rings b) (no_removal ∷ []) | false ↦ no_removal ∷ [] ]

-- "A move number is 1,024 × from + 32 × to + removed"
abbrev pub move_number : ℕ → ℕ → ℕ → ℕ
move_number from to removed = 1024 * from + 32 * to + removed

abbrev pub from_of : ℕ → ℕ
from_of move = move / 1024

abbrev pub to_of : ℕ → ℕ
to_of move = move / 32 % 32

abbrev pub removed_of : ℕ → ℕ
removed_of move = move % 32

-- the moves of the stone at a point to another
abbrev pub slide_moves : Rule → ℕ → List ℕ → ℕ → ℕ → List ℕ
slide_moves rule rings b from to = map (λ removed. move_number from to removed) (removals rule rings (slide b from to) to)

-- the moves of the stone at a point to any of some points
abbrev pub stone_moves : Rule → ℕ → List ℕ → ℕ → List ℕ → List ℕ
stone_moves rule rings b from tos = each (λ to. slide_moves rule rings b from to) tos

-- the legal moves of a board, by rising number
unfoldable pub moves : Rule → ℕ → List ℕ → List ℕ
moves rule rings b = each (λ from. stone_moves rule rings b from (destinations rings b from)) (holding rings b 1)

-- "A mover with no ply", by where its stones may go alone: a stone that can go somewhere has a ply under any rule
unfoldable pub blocked : ℕ → List ℕ → Bool
blocked rings b = all (λ from. is_empty (destinations rings b from)) (holding rings b 1)

-- the stone at a point is taken away, if any is removed
unfoldable pub remove : List ℕ → ℕ → List ℕ
remove b removed = elim (eqb removed no_removal) [ true ↦ b | false ↦ set b removed 0 ]

-- "the sides change names: 1 becomes 2 and 2 becomes 1"
unfoldable pub exchange : ℕ → ℕ
exchange zero = 0
exchange (suc zero) = 2
exchange (suc (suc v)) = 1

-- the board after a ply
unfoldable pub after_ply : List ℕ → ℕ → List ℕ
after_ply b move = map (λ v. exchange v) (remove (slide b (from_of move) (to_of move)) (removed_of move))

-- the boards that plies lead to, in the order of the moves
unfoldable pub successors : Rule → ℕ → List ℕ → List (List ℕ)
successors rule rings b = map (λ move. after_ply b move) (moves rule rings b)
