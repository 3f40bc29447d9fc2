-- The conditions of the table, and what calls pick of it for their arguments. Assumes nothing.
use Rattle.std.specs.Prelude.{Bool, false, not, ◌&&◌, ◌||◌, List, [], ◌∷◌, ◌++◌, ℕ, ◌+◌, ◌*◌, eqb, leb, ltb, length}
use Rattle.lists.specs.Lists.{member}
use Rattle.board.specs.Board.{count}
use Rattle.sizes.specs.Size.{size}
use Rattle.layout.specs.Layout.{tablebase_length}
use Rattle.rules.specs.Ply.{removable, moves, blocked}
use Rattle.rules.specs.Unreachable.{unreachable}
use Rattle.frames.specs.Frame.{frame_wrong, frame_length, rings_in, board_in}
use Rattle.outcomes.specs.Places.{entry_at, is_void, successor_void, lower_void}
use Rattle.refusals.specs.Refusals.{Pick, pick, wrong_frame, wrong_rings, wrong_edition, wrong_length, wrong_value, wrong_counts, unreachable_position}
use Rattle.refusals.specs.Refusals.{wrong_largest, wrong_tablebase, wrong_limit, wrong_target, short_target, wrong_rank, wrong_move, blocked_mover, void_read}

-- 1: not 1, 2 or 3
abbrev pub rings_wrong : ℕ → Bool
rings_wrong rings = ltb rings 1 || ltb 3 rings

-- 20: not 1 or 2
abbrev pub edition_wrong : ℕ → Bool
edition_wrong edition = ltb edition 1 || ltb 2 edition

-- 2 and 6: the length of a board is not 8 × rings
abbrev pub length_wrong : ℕ → ℕ → Bool
length_wrong rings n = not (eqb n (8 * rings))

-- 2: the length of a frame is not that of its rings
abbrev pub frame_length_wrong : ℕ → ℕ → Bool
frame_length_wrong rings n = not (eqb n (frame_length rings))

-- 3: a value above 2
unfoldable pub value_wrong : List ℕ → Bool
value_wrong [] = false
value_wrong (x ∷ b) = ltb 2 x || value_wrong b

-- 4: a count outside 3 to 9, or a sum above the points
abbrev pub counts_wrong : ℕ → ℕ → ℕ → Bool
counts_wrong points m o = ltb m 3 || ltb 9 m || ltb o 3 || ltb 9 o || ltb points (m + o)

-- 15: unreachable position, "given under edition 1 only"
abbrev pub position_unreachable : ℕ → ℕ → List ℕ → Bool
position_unreachable rings edition b = eqb edition 1 && unreachable rings b

-- a count above K
abbrev pub count_above : ℕ → ℕ → ℕ → Bool
count_above k m o = ltb k m || ltb k o

-- 11: K outside 3 to 9, or a count above K
abbrev pub largest_wrong : ℕ → Bool → Bool
largest_wrong k above = ltb k 3 || ltb 9 k || above

-- 6: tablebase length not exact
abbrev pub tablebase_wrong : ℕ → ℕ → ℕ → Bool
tablebase_wrong rings k n = not (eqb n (tablebase_length (8 * rings) k))

-- "Limit: 0 to 65,533 plies."
abbrev pub largest_limit : ℕ
largest_limit = 65533

-- 10: above 65,533
abbrev pub limit_wrong : ℕ → Bool
limit_wrong limit = ltb largest_limit limit

-- 7: a target shorter than what it is to hold
abbrev pub target_short : ℕ → ℕ → Bool
target_short room n = ltb room n

-- 5: a rank not below the size
abbrev pub rank_wrong : ℕ → ℕ → ℕ → ℕ → Bool
rank_wrong points m o r = leb (size points m o) r

-- 8: not a listed move, whatever the order of the list
abbrev pub move_wrong : ℕ → ℕ → List ℕ → ℕ → Bool
move_wrong rings edition b move = not (member move (moves (removable edition) rings b))

-- 9: best move sought, mover blocked, whatever the edition
abbrev pub mover_blocked : ℕ → List ℕ → Bool
mover_blocked rings b = blocked rings b

-- what every call picks for rings and a board
abbrev pub board_picks : ℕ → List ℕ → List Pick
board_picks rings b =
    pick wrong_rings (rings_wrong rings)
    ∷ pick wrong_length (length_wrong rings (length b))
    ∷ pick wrong_value (value_wrong b)
    ∷ pick wrong_counts (counts_wrong (8 * rings) (count 1 b) (count 2 b))
    ∷ []

-- the edition besides
abbrev pub under_edition : ℕ → List Pick → List Pick
under_edition edition picks = pick wrong_edition (edition_wrong edition) ∷ picks

-- what a call picks for rings and an edition
abbrev pub edition_picks : ℕ → ℕ → List Pick
edition_picks rings edition = under_edition edition (pick wrong_rings (rings_wrong rings) ∷ [])

-- what a call under an edition picks for rings and a board
abbrev pub ruled_picks : ℕ → ℕ → List ℕ → List Pick
ruled_picks rings edition b = under_edition edition (board_picks rings b)

-- and for whether a game reaches its position besides
abbrev pub reachable_picks : ℕ → ℕ → List ℕ → List Pick
reachable_picks rings edition b = pick unreachable_position (position_unreachable rings edition b) ∷ ruled_picks rings edition b

-- what a call picks for rings and counts
abbrev pub stones_picks : ℕ → ℕ → ℕ → List Pick
stones_picks rings m o = pick wrong_rings (rings_wrong rings) ∷ pick wrong_counts (counts_wrong (8 * rings) m o) ∷ []

-- and for a target of so many bytes besides
abbrev pub counts_picks : ℕ → ℕ → ℕ → ℕ → List Pick
counts_picks rings m o room = pick wrong_target (length_wrong rings room) ∷ stones_picks rings m o

-- and for a rank besides
abbrev pub rank_picks : ℕ → ℕ → ℕ → ℕ → ℕ → List Pick
rank_picks rings m o r room = pick wrong_rank (rank_wrong (8 * rings) m o r) ∷ counts_picks rings m o room

-- what a call picks for rings, a board and a frame target of so many places that is to hold so many
abbrev pub short_picks : ℕ → List ℕ → ℕ → ℕ → List Pick
short_picks rings b room needed = pick short_target (target_short room needed) ∷ board_picks rings b

-- and for a move list
abbrev pub list_picks : ℕ → ℕ → List ℕ → ℕ → ℕ → List Pick
list_picks rings edition b room needed = pick short_target (target_short room needed) ∷ ruled_picks rings edition b

-- what a call picks for rings, an edition, a board and a target of so many bytes
abbrev pub target_picks : ℕ → ℕ → List ℕ → ℕ → List Pick
target_picks rings edition b room = pick wrong_target (length_wrong rings room) ∷ ruled_picks rings edition b

-- and for a move besides
abbrev pub move_picks : ℕ → ℕ → List ℕ → ℕ → ℕ → List Pick
move_picks rings edition b move room = pick wrong_move (move_wrong rings edition b move) ∷ target_picks rings edition b room

-- what a call picks for K and a tablebase of so many entries, by whether a count is above K
abbrev pub largest_picks : ℕ → ℕ → Bool → ℕ → List Pick
largest_picks rings k above n = pick wrong_largest (largest_wrong k above) ∷ pick wrong_tablebase (tablebase_wrong rings k n) ∷ []

-- what a call picks for rings, an edition, a board that a game must reach, K and a tablebase of so many entries
abbrev pub tablebase_picks : ℕ → ℕ → List ℕ → ℕ → ℕ → List Pick
tablebase_picks rings edition b k n = largest_picks rings k (count_above k (count 1 b) (count 2 b)) n ++ reachable_picks rings edition b

-- and for the entry looked up besides; 12: void there
abbrev pub lookup_picks : ℕ → ℕ → List ℕ → ℕ → List ℕ → List Pick
lookup_picks rings edition b k tablebase = pick void_read (is_void (entry_at rings k tablebase b)) ∷ tablebase_picks rings edition b k (length tablebase)

-- and for a best move instead; 12: void in any successor
abbrev pub best_move_picks : ℕ → ℕ → List ℕ → ℕ → List ℕ → List Pick
best_move_picks rings edition b k tablebase =
    pick blocked_mover (mover_blocked rings b)
    ∷ pick void_read (successor_void (removable edition) rings k tablebase b)
    ∷ tablebase_picks rings edition b k (length tablebase)

-- what a call picks to check a tablebase: no count is given
abbrev pub check_picks : ℕ → ℕ → ℕ → ℕ → List Pick
check_picks rings edition k n = largest_picks rings k false n ++ edition_picks rings edition

-- what a call picks for K, a limit and a tablebase of so many entries to fill, by whether a count is above K
abbrev pub limit_picks : ℕ → ℕ → Bool → ℕ → ℕ → List Pick
limit_picks rings k above limit n = pick wrong_limit (limit_wrong limit) ∷ largest_picks rings k above n

-- what a call picks to fill a tablebase: no count is given
abbrev pub fill_picks : ℕ → ℕ → ℕ → ℕ → ℕ → List Pick
fill_picks rings edition k limit n = limit_picks rings k false limit n ++ edition_picks rings edition

-- what a call picks to fill a pair of tables
abbrev pub tables_picks : ℕ → ℕ → ℕ → ℕ → ℕ → ℕ → ℕ → List Pick
tables_picks rings edition m o k limit n = under_edition edition (limit_picks rings k (count_above k m o) limit n ++ stones_picks rings m o)

-- and for the lower tables besides; 12: void there
abbrev pub pair_picks : ℕ → ℕ → ℕ → ℕ → ℕ → ℕ → List ℕ → List Pick
pair_picks rings edition m o k limit tablebase =
    pick void_read (lower_void rings k tablebase m o) ∷ tables_picks rings edition m o k limit (length tablebase)

-- what a call picks for a frame
abbrev pub frame_picks : List ℕ → List Pick
frame_picks f =
    pick wrong_frame (frame_wrong f)
    ∷ pick wrong_rings (rings_wrong (rings_in f))
    ∷ pick wrong_length (frame_length_wrong (rings_in f) (length f))
    ∷ pick wrong_value (value_wrong (board_in f))
    ∷ []

-- and for its stones besides
abbrev pub read_picks : List ℕ → List Pick
read_picks f = pick wrong_counts (counts_wrong (8 * rings_in f) (count 1 (board_in f)) (count 2 (board_in f))) ∷ frame_picks f
