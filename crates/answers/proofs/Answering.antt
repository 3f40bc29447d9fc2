-- An answer and a target at exit, by whether the call was turned back. Assumes nothing.
use mathlib.Core.Path.{◌≡◌, refl, ap, ◌∙◌}
use mathlib.Core.List.{List, [], ◌∷◌}
use Prim.Native.Nat.{ℕ, zero, suc}
use native.Mathlib.Omega.{arith}
use Rattle.std.specs.Prelude.{Result, Ok, Err, IsErrAnd}
use Rattle.std.specs.Result.{ResultUnwrapsOrElse}
use Rattle.std.proofs.lemmas.Result.{err_from_is_err_and}
use Rattle.answers.specs.declared.Refusal.{Refusal}
use Rattle.answers.specs.Answers.{accepted, refused, number, value, answer, target, refusal_number, met, MetBy, value_by, answered}

-- no refusal has the number 0
pub refusal_some : (e : Refusal) → refusal_number e ≡ 0 → ⊥
refusal_some Refusal.Rings z = absurd (omega (arith, z))
refusal_some Refusal.BoardLength z = absurd (omega (arith, z))
refusal_some Refusal.BoardValue z = absurd (omega (arith, z))
refusal_some Refusal.Counts z = absurd (omega (arith, z))
refusal_some Refusal.Rank z = absurd (omega (arith, z))
refusal_some Refusal.InexactLength z = absurd (omega (arith, z))
refusal_some Refusal.ShortTarget z = absurd (omega (arith, z))
refusal_some Refusal.Move z = absurd (omega (arith, z))
refusal_some Refusal.Blocked z = absurd (omega (arith, z))
refusal_some Refusal.Limit z = absurd (omega (arith, z))
refusal_some Refusal.Largest z = absurd (omega (arith, z))
refusal_some Refusal.VoidRead z = absurd (omega (arith, z))
refusal_some Refusal.TooDeep z = absurd (omega (arith, z))
refusal_some Refusal.Frame z = absurd (omega (arith, z))
refusal_some Refusal.Unreachable z = absurd (omega (arith, z))
refusal_some Refusal.Edition z = absurd (omega (arith, z))

-- turned back: n is the refusal r that the call meets
pub answer_refused : (n r : ℕ) (vs : List ℕ) → (n ≡ 0 → ⊥) → n ≡ r → refused n ≡ answer r vs
answer_refused zero r vs h e = absurd (h refl)
answer_refused (suc n) r vs h e = ap (λ (k : ℕ). answer k vs) e

pub target_kept : (n r : ℕ) (new old : List ℕ) → (n ≡ 0 → ⊥) → n ≡ r → old ≡ target r new old
target_kept zero r new old h e = absurd (h refl)
target_kept (suc n) r new old h e = ap (λ (k : ℕ). target k new old) e

-- accepted
pub answer_accepted : (r : ℕ) (vs : List ℕ) → 0 ≡ r → accepted vs ≡ answer r vs
answer_accepted r vs e = ap (λ (k : ℕ). answer k vs) e

pub target_written : (r : ℕ) (new old : List ℕ) → 0 ≡ r → new ≡ target r new old
target_written r new old e = ap (λ (k : ℕ). target k new old) e

-- a refusal that `?` hands on is the one that was met
pub handed_on : {A : Type 0} (r : Result A Refusal) (e : Refusal) → IsErrAnd r (λ (y : Refusal). y ≡ e) → r ≡ Err e
handed_on r e p = let q = err_from_is_err_and r p in q.1 ∙ ap Err q.2

-- the number of an answer is that of the refusal met, whatever its values; a lone value is zero after a refusal
pub met_number : {A : Type 0} (values : A → List ℕ) (r : Result A Refusal) → met r ≡ number (answered values r)
met_number values (Ok a) = refl
met_number values (Err e) = refl

pub lone_value : (r : Result ℕ Refusal) (v : ℕ) → ResultUnwrapsOrElse r (λ (x : ℕ). x ≡ 0) v → v ≡ value (answered (λ (n : ℕ). n ∷ []) r) 0
lone_value (Ok a) v e = e
lone_value (Err r) v e = e

-- an error that is a refusal converts to its number: the result by numbers is the number met, that of the answer, and the values are the answer's
pub met_by : {A : Type 0} (r : Result A Refusal) (n : ℕ) → MetBy (λ (e : Refusal) (k : ℕ). k ≡ refusal_number e) r n → n ≡ met r
met_by (Ok a) n e = e
met_by (Err x) n e = e

pub number_by : {A : Type 0} (values : A → List ℕ) (r : Result A Refusal) (n : ℕ) → MetBy (λ (e : Refusal) (k : ℕ). k ≡ refusal_number e) r n
    → n ≡ number (answered values r)
number_by values r n e = met_by r n e ∙ met_number values r

pub values_by : {A : Type 0} (values : A → List ℕ) (r : Result A Refusal) (i : ℕ) → value_by values r i ≡ value (answered values r) i
values_by values (Ok a) i = refl
values_by values (Err x) i = refl

-- an error that is a number is the number
pub plain_by : (A : Type 0) (m n : ℕ) → MetBy {A = A} (λ (e k : ℕ). k ≡ e) (Err m) n → n ≡ m
plain_by A m n e = e

-- the two ways out of a call with a target: turned back, and written
module _ (met : ℕ) (vs new old : List ℕ) where
  pub turned_back : (n : ℕ) → (n ≡ 0 → ⊥) → n ≡ met → (refused n ≡ answer met vs) × (old ≡ target met new old)
  turned_back n z e = (answer_refused n met vs z e, target_kept n met new old z e)

  pub written : (ws out : List ℕ) → 0 ≡ met → ws ≡ vs → out ≡ new → (accepted ws ≡ answer met vs) × (out ≡ target met new old)
  written ws out z v e = (ap accepted v ∙ answer_accepted met vs z, e ∙ target_written met new old z)

-- what an answer says of the refusal that was met
pub number_none : (r : ℕ) (vs : List ℕ) → number (answer r vs) ≡ 0 → r ≡ 0
number_none zero vs e = refl
number_none (suc r) vs e = e

pub refused_number : (n r : ℕ) (vs : List ℕ) → refused n ≡ answer r vs → (n ≡ r) × (n ≡ 0 → ⊥)
refused_number n zero vs e = let z : ◌≡◌ {A = ℕ} 0 1 = cc in absurd (omega arith)
refused_number n (suc r) vs e = (ap number e, λ z. omega (arith, ap number e))

pub accepted_values : (vs ws : List ℕ) (r : ℕ) → accepted vs ≡ answer r ws → (r ≡ 0) × (vs ≡ ws)
accepted_values vs ws zero e = (refl, cc)
accepted_values vs ws (suc r) e = absurd (omega (arith, ap number e))
