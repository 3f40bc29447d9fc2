-- The first refusal among picked rows: the row at which a call is turned back, and what an accepted call has passed. Assumes nothing.
use mathlib.Core.Path.{◌≡◌, refl, sym, ◌∙◌}
use mathlib.Core.Bool.{Bool, true, false, cond, false≢true}
use mathlib.Core.List.{List, [], ◌∷◌, ◌++◌}
use Prim.Native.Nat.{ℕ, zero, suc}
use native.Mathlib.Omega.{arith}
use lib.Dec.{ltb}
use lib.ListN.{length}
use borrow.Author.Tests.{ltb-true}
use Rattle.lists.specs.Lists.{all}
use Rattle.refusals.specs.Refusals.{Picked, first}

-- the conditions of the first i rows do not hold
abbrev pub Passed : ℕ → List Picked → Type 0
Passed zero rs = Unit {0}
Passed (suc i) [] = Unit {0}
Passed (suc i) (r ∷ rs) = (r.holds ≡ false) × Passed i rs

-- the condition of row i holds
abbrev pub RowHolds : ℕ → List Picked → Type 0
RowHolds i [] = ⊥
RowHolds zero (r ∷ rs) = r.holds ≡ true
RowHolds (suc i) (r ∷ rs) = RowHolds i rs

abbrev pub number_at : ℕ → List Picked → ℕ
number_at i [] = 0
number_at zero (r ∷ rs) = r.number
number_at (suc i) (r ∷ rs) = number_at i rs

-- turned back at row i
pub meets : (rs : List Picked) (i : ℕ) → Passed i rs → RowHolds i rs → number_at i rs ≡ first rs
meets [] i p h = absurd h
meets (r ∷ rs) zero p h = rw (h, first)
meets (r ∷ rs) (suc i) p h = rw (p.0, first) (meets rs i p.1 h)

-- accepted
pub passes : (rs : List Picked) → Passed (length rs) rs → 0 ≡ first rs
passes [] p = refl
passes (r ∷ rs) p = rw (p.0, first) (passes rs p.1)

-- and so all rows were passed, if no row's number is 0
pub passed : (rs : List Picked) → all (λ r. ltb 0 r.number) rs ≡ true → first rs ≡ 0 → Passed (length rs) rs
passed [] n e = tt
passed (r ∷ rs) n e = go r.holds refl (ltb 0 r.number) refl n e (λ a b. passed rs a b)
  where
    go : (h : Bool) → r.holds ≡ h → (l : Bool) → ltb 0 r.number ≡ l
        → ◌≡◌ {A = Bool} (elim l [ true ↦ all (λ r. ltb 0 r.number) rs | false ↦ false ]) true
        → ◌≡◌ {A = ℕ} (elim h [ true ↦ r.number | false ↦ first rs ]) 0
        → (all (λ r. ltb 0 r.number) rs ≡ true → first rs ≡ 0 → Passed (length rs) rs) → (r.holds ≡ false) × Passed (length rs) rs
    go true p true q a b rest = absurd (omega (arith, ltb-true 0 r.number q))
    go true p false q a b rest = absurd (false≢true a)
    go false p true q a b rest = (p, rest a b)
    go false p false q a b rest = absurd (false≢true a)

-- a refusal among some rows is met whatever rows come after
pub first_kept : (rs ss : List Picked) (n : ℕ) → (n ≡ 0 → ⊥) → n ≡ first rs → n ≡ first (rs ++ ss)
first_kept [] ss n z e = absurd (z e)
first_kept (r ∷ rs) ss n z e = go r.holds refl (first_kept rs ss n z)
  where
    go : (h : Bool) → r.holds ≡ h → (n ≡ first rs → n ≡ first (rs ++ ss)) → n ≡ first (r ∷ rs ++ ss)
    go true p rest = e ∙ rw (p, first)
    go false p rest = rw (p, first) (rest (rw (p, first) at e))

-- where some rows are passed, those after them decide
pub first_after : (rs ss : List Picked) → all (λ r. ltb 0 r.number) rs ≡ true → 0 ≡ first rs → first (rs ++ ss) ≡ first ss
first_after rs ss a e = go rs (passed rs a (sym e))
  where
    go : (rs : List Picked) → Passed (length rs) rs → first (rs ++ ss) ≡ first ss
    go [] p = refl
    go (r ∷ rs) p = rw (p.0, first) (go rs p.1)

-- no refusal among all: none among the first, none among those after them
pub both_passed : (rs ss : List Picked) → all (λ r. ltb 0 r.number) rs ≡ true → first (rs ++ ss) ≡ 0 → (first rs ≡ 0) × (first ss ≡ 0)
both_passed rs ss a e = go (first rs) refl
  where
    go : (n : ℕ) → first rs ≡ n → (first rs ≡ 0) × (first ss ≡ 0)
    go zero p = (p, sym (first_after rs ss a (sym p)) ∙ e)
    go (suc n) p = absurd (omega (arith, first_kept rs ss (suc n) (λ z. absurd (omega arith)) (sym p)))

-- one row, and one row after some that are passed
pub first_cons : (t : Bool) (n : ℕ) (rs : List Picked) → first (record { holds = t; number = n } ∷ rs) ≡ cond t n (first rs)
first_cons true n rs = refl
first_cons false n rs = refl

pub one_more : (rs : List Picked) (t : Bool) (n : ℕ) → all (λ r. ltb 0 r.number) rs ≡ true → 0 ≡ first rs
    → first (rs ++ (record { holds = t; number = n } ∷ [])) ≡ cond t n 0
one_more rs t n a e = first_after rs (record { holds = t; number = n } ∷ []) a e ∙ first_cons t n []
