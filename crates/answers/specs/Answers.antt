-- What a call answers: "A refusal returns its number and zero elsewhere. Buffers stay unchanged" (document 01, below its table). Each call's
-- Result is read as an Answer, and the promises are stated with that. Assumes nothing.
use Rattle.std.specs.Prelude.{◌≡◌, List, [], ◌∷◌, ℕ, zero, suc, get_or, Option, Some, None, Result, Ok, Err}
use Rattle.answers.specs.declared.Refusal.{Refusal}
use Rattle.answers.specs.declared.BestMove.{BestMove}
use Rattle.answers.specs.declared.Frame.{Frame}

pub data Answer : Type 0 where
  accepted : (values : List ℕ) → Answer
  refused : (number : ℕ) → Answer

-- document 01's number: 0 where the call is accepted
abbrev pub number : Answer → ℕ
number (accepted vs) = 0
number (refused n) = n

-- its values: zero after a refusal
abbrev pub value : Answer → ℕ → ℕ
value (accepted vs) i = get_or vs i 0
value (refused n) i = 0

-- the answer of a call, by the refusal that it meets, 0 for none
abbrev pub answer : ℕ → List ℕ → Answer
answer zero vs = accepted vs
answer (suc n) vs = refused (suc n)

-- what a lent target holds at exit: what is to be written, or after a refusal what it held
abbrev pub target : ℕ → List ℕ → List ℕ → List ℕ
target zero new old = new
target (suc n) new old = old

-- document 01's number of each refusal, and document 02's
abbrev pub refusal_number : Refusal → ℕ
refusal_number Refusal.Rings = 1
refusal_number Refusal.BoardLength = 2
refusal_number Refusal.BoardValue = 3
refusal_number Refusal.Counts = 4
refusal_number Refusal.Rank = 5
refusal_number Refusal.InexactLength = 6
refusal_number Refusal.ShortTarget = 7
refusal_number Refusal.Move = 8
refusal_number Refusal.Blocked = 9
refusal_number Refusal.Limit = 10
refusal_number Refusal.Largest = 11
refusal_number Refusal.VoidRead = 12
refusal_number Refusal.TooDeep = 13
refusal_number Refusal.Frame = 14
refusal_number Refusal.Unreachable = 15
refusal_number Refusal.Edition = 20

-- the number of the refusal that was met, 0 for none
abbrev pub met : {A : Type 0} → Result A Refusal → ℕ
met (Ok a) = 0
met (Err e) = refusal_number e

-- a result by numbers, whatever its error: 0 for none, else a number that the error converts to;
abbrev pub MetBy : {A E : Type 0} → (E → ℕ → Type 0) → Result A E → ℕ → Type 0
MetBy converts (Ok a) n = n ≡ 0
MetBy converts (Err e) n = converts e n

-- and its values, zero after an error
abbrev pub value_by : {A E : Type 0} → (A → List ℕ) → Result A E → ℕ → ℕ
value_by values (Ok a) i = get_or (values a) i 0
value_by values (Err e) i = 0

-- a call's answer, by the values of its result
abbrev pub answered : {A : Type 0} → (A → List ℕ) → Result A Refusal → Answer
answered values (Ok a) = accepted (values a)
answered values (Err e) = refused (refusal_number e)

-- those of each call: the rank of a board,
abbrev pub ranked : Result ℕ Refusal → Answer
ranked r = answered (λ (n : ℕ). n ∷ []) r

-- a board written,
abbrev pub unranked : Result (Unit {0}) Refusal → Answer
unranked r = answered (λ (u : Unit {0}). []) r

-- how many moves were listed,
abbrev pub listed : Result ℕ Refusal → Answer
listed r = answered (λ (n : ℕ). n ∷ []) r

-- the board after a move written,
abbrev pub made : Result (Unit {0}) Refusal → Answer
made r = answered (λ (u : Unit {0}). []) r

-- the rank of a representative,
abbrev pub represented : Result ℕ Refusal → Answer
represented r = answered (λ (n : ℕ). n ∷ []) r

-- an entry,
abbrev pub looked : Result ℕ Refusal → Answer
looked r = answered (λ (e : ℕ). e ∷ []) r

-- a move with the entry of the successor that it leads to,
abbrev pub move_values : BestMove → List ℕ
move_values b = b.number ∷ b.entry ∷ []

abbrev pub chosen : Result BestMove Refusal → Answer
chosen r = answered move_values r

-- tables filled,
abbrev pub solved : Result (Unit {0}) Refusal → Answer
solved r = answered (λ (u : Unit {0}). []) r

-- whether a tablebase passed, 1 or 0, and the first index that fails, 0 where it passed,
abbrev pub passed_or_fails : Option ℕ → List ℕ
passed_or_fails None = 1 ∷ 0 ∷ []
passed_or_fails (Some index) = 0 ∷ index ∷ []

abbrev pub checked : Result (Option ℕ) Refusal → Answer
checked r = answered passed_or_fails r

-- the position of a frame: its rings, the points of the side to move, those of the other side,
abbrev pub frame_values : Frame → List ℕ
frame_values f = f.rings ∷ f.mover ∷ f.opponent ∷ []

abbrev pub frame_read : Result Frame Refusal → Answer
frame_read r = answered frame_values r

-- how many characters were written
abbrev pub frame_written : Result ℕ Refusal → Answer
frame_written r = answered (λ (n : ℕ). n ∷ []) r
