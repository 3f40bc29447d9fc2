-- Where a call is turned back (document 01, the table of that name): "Places are taken from top to bottom, conditions left to right; a call
-- meets those that concern its arguments." Document 02, A1: "15, unreachable position, after 4 and before 11"; A11: "20, edition not 1 or 2, directly
-- after 1." Assumes nothing.
use Rattle.std.specs.Prelude.{Bool, true, false, List, [], ◌∷◌, ◌++◌, ℕ, eqb}

-- the conditions, by what is wrong
pub data Condition : Type 0 where
  wrong_frame wrong_rings wrong_length wrong_value wrong_counts wrong_largest wrong_tablebase wrong_limit : Condition
  wrong_target short_target wrong_rank wrong_move blocked_mover void_read too_deep wrong_edition unreachable_position : Condition

-- a row: a condition, and the number of its refusal
pub record Row : Type 0 where
  pub condition : Condition
  pub number : ℕ

abbrev pub refusal_row : Condition → ℕ → Row
refusal_row c n = record { condition = c; number = n }

-- the table, a line for each place
abbrev pub refusal_table : List Row
refusal_table =
    refusal_row wrong_frame 14
    ∷ refusal_row wrong_rings 1 ∷ refusal_row wrong_edition 20
    ∷ refusal_row wrong_length 2 ∷ refusal_row wrong_value 3
    ∷ refusal_row wrong_counts 4 ∷ refusal_row unreachable_position 15
    ∷ refusal_row wrong_largest 11 ∷ refusal_row wrong_tablebase 6
    ∷ refusal_row wrong_limit 10
    ∷ refusal_row wrong_target 6 ∷ refusal_row short_target 7
    ∷ refusal_row wrong_rank 5 ∷ refusal_row wrong_move 8 ∷ refusal_row blocked_mover 9
    ∷ refusal_row void_read 12
    ∷ refusal_row too_deep 13
    ∷ []

-- conditions told apart
abbrev pub index : Condition → ℕ
index wrong_frame = 0
index wrong_rings = 1
index wrong_length = 2
index wrong_value = 3
index wrong_counts = 4
index wrong_largest = 5
index wrong_tablebase = 6
index wrong_limit = 7
index wrong_target = 8
index short_target = 9
index wrong_rank = 10
index wrong_move = 11
index blocked_mover = 12
index void_read = 13
index too_deep = 14
index wrong_edition = 15
index unreachable_position = 16

-- what a call picks of the table: a condition that concerns its arguments, and whether it holds
pub record Pick : Type 0 where
  pub condition : Condition
  pub holds : Bool

abbrev pub pick : Condition → Bool → Pick
pick c b = record { condition = c; holds = b }

-- a picked row: whether its condition holds, and its number
pub record Picked : Type 0 where
  pub holds : Bool
  pub number : ℕ

-- the row, if it is picked
abbrev pub picked_row : Row → List Pick → List Picked
picked_row r [] = []
picked_row r (p ∷ ps) =
    elim (eqb (index r.condition) (index p.condition)) [ true ↦ record { holds = p.holds; number = r.number } ∷ [] | false ↦ picked_row r ps ]

-- the picked rows, in the table's order
abbrev pub picked_rows : List Row → List Pick → List Picked
picked_rows [] ps = []
picked_rows (r ∷ rs) ps = picked_row r ps ++ picked_rows rs ps

-- the number of the first row whose condition holds, and 0 where none does
abbrev pub first : List Picked → ℕ
first [] = 0
first (r ∷ rs) = elim r.holds [ true ↦ r.number | false ↦ first rs ]

-- the refusal that a call meets, 0 for none
abbrev pub refusal : List Pick → ℕ
refusal ps = first (picked_rows refusal_table ps)
