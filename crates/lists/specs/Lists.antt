-- The few list functions that the definitions use. Assumes nothing.
use Rattle.std.specs.Prelude.{Bool, true, false, List, [], ◌∷◌, ◌++◌, ℕ, zero, suc, ◌<◌, eqb}

-- a, a + 1, .., a + n - 1
abbrev pub range : ℕ → ℕ → List ℕ
range a zero = []
range a (suc n) = a ∷ range (suc a) n

-- the values of f at i, i + 1, .., i + n - 1
abbrev pub values : (ℕ → ℕ) → ℕ → ℕ → List ℕ
values f i zero = []
values f i (suc n) = f i ∷ values f (suc i) n

-- x is a member
abbrev pub member : ℕ → List ℕ → Bool
member x [] = false
member x (y ∷ ys) = elim (eqb y x) [ true ↦ true | false ↦ member x ys ]

-- x is below every member
abbrev pub Above : ℕ → List ℕ → Type 0
Above x [] = Unit {0}
Above x (y ∷ ys) = (x < y) × Above x ys

-- each member is below all that come after it
abbrev pub Rising : List ℕ → Type 0
Rising [] = Unit {0}
Rising (x ∷ xs) = Above x xs × Rising xs

module _ {A : Type 0} where
  -- the members that pass a test, in their order
  abbrev pub keep : (A → Bool) → List A → List A
  keep f [] = []
  keep f (x ∷ xs) = elim (f x) [ true ↦ x ∷ keep f xs | false ↦ keep f xs ]

  -- every member passes a test
  abbrev pub all : (A → Bool) → List A → Bool
  all f [] = true
  all f (x ∷ xs) = elim (f x) [ true ↦ all f xs | false ↦ false ]

  -- some member passes a test
  abbrev pub any : (A → Bool) → List A → Bool
  any f [] = false
  any f (x ∷ xs) = elim (f x) [ true ↦ true | false ↦ any f xs ]

  -- no member
  abbrev pub is_empty : List A → Bool
  is_empty [] = true
  is_empty (x ∷ xs) = false

  -- the first list, or the second where the first is empty
  abbrev pub or_else : List A → List A → List A
  or_else [] other = other
  or_else (x ∷ xs) other = x ∷ xs

module _ {A B : Type 0} where
  -- what f gives for each member, one list after the other
  abbrev pub each : (A → List B) → List A → List B
  each f [] = []
  each f (x ∷ xs) = f x ++ each f xs
