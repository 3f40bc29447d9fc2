-- What a line shows of a board beside its rings, its counts and its rank (document 01, "Frames"): "Entry and move are `-` on two and three rings; move
-- is `-` for a blocked mover." Each is what the public call answers. Assumes nothing.
use Rattle.std.specs.Prelude.{true, false, List, ℕ, eqb, get_or, Option, Some, None}
use Rattle.answers.specs.Answers.{Answer, accepted, refused}
use Rattle.entry_calls.specs.LookupCall.{lookup_call}
use Rattle.entry_calls.specs.BestMoveCall.{best_move_call}

-- the largest count of the tablebase that is filled (document 01: "the one-ring shelf (K 5, ..)")
abbrev pub largest_count : ℕ
largest_count = 5

-- "`desk` keeps edition 1" (document 02, A11)
abbrev pub desk_edition : ℕ
desk_edition = 1

-- the first value of an answer, or `-` where the call is turned back
abbrev pub field_of : Answer → Option ℕ
field_of (accepted vs) = Some (get_or vs 0 0)
field_of (refused n) = None

-- what is shown on one ring only
abbrev pub on_one_ring : ℕ → Option ℕ → Option ℕ
on_one_ring rings field = elim (eqb rings 1) [ true ↦ field | false ↦ None ]

unfoldable pub entry_field : List ℕ → ℕ → List ℕ → Option ℕ
entry_field tablebase rings b = on_one_ring rings (field_of (lookup_call rings desk_edition b largest_count tablebase))

unfoldable pub move_field : List ℕ → ℕ → List ℕ → Option ℕ
move_field tablebase rings b = on_one_ring rings (field_of (best_move_call rings desk_edition b largest_count tablebase))
