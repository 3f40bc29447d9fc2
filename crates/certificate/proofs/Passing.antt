-- A list tested part after part, so that a loop's step is one law: how many have passed, and what is left to test. Assumes nothing.
use mathlib.Core.Path.{◌≡◌, refl, sym, ap, subst, ◌∙◌}
use mathlib.Core.Bool.{Bool, true, false}
use mathlib.Core.List.{List, [], ◌∷◌, ◌++◌, map}
use Prim.Native.Nat.{ℕ, suc, ◌+◌, ◌-◌, ◌≤◌, ◌<◌}
use native.Mathlib.Omega.{arith}
use lib.Dec.{eqb}
use lib.ListN.{length, length-append}
use Rattle.lists.specs.Lists.{range, all, each}
use Rattle.lists.proofs.Tests.{clash}
use Rattle.certificate.specs.Certificate.{passing, verdict}

-- the first index that fails, and none where all pass
verdict_cases : (verdict (λ n. eqb n 7) (7 ∷ 7 ∷ 5 ∷ 7 ∷ 5 ∷ 7 ∷ []) ≡ 0 ∷ 2 ∷ []) × (verdict (λ n. eqb n 7) (5 ∷ 7 ∷ []) ≡ 0 ∷ 0 ∷ [])
    × (verdict (λ n. eqb n 7) (7 ∷ 7 ∷ []) ≡ 1 ∷ 0 ∷ [])
verdict_cases = (refl, refl, refl)

module _ {A : Type 0} (f : A → Bool) where
  -- all of the first part pass: the second decides
  pass_on : (xs ys : List A) → all f xs ≡ true
      → (passing f (xs ++ ys) ≡ passing f xs + passing f ys) × (all f (xs ++ ys) ≡ all f ys) × (passing f xs ≡ length xs)
  pass_on [] ys h = (omega arith, refl, refl)
  pass_on (x ∷ xs) ys h = go (f x) refl h (λ a. pass_on xs ys a)
    where
      go : (b : Bool) → f x ≡ b → all f (x ∷ xs) ≡ true
          → (all f xs ≡ true → (passing f (xs ++ ys) ≡ passing f xs + passing f ys) × (all f (xs ++ ys) ≡ all f ys) × (passing f xs ≡ length xs))
          → (passing f (x ∷ xs ++ ys) ≡ passing f (x ∷ xs) + passing f ys) × (all f (x ∷ xs ++ ys) ≡ all f ys) × (passing f (x ∷ xs) ≡ length (x ∷ xs))
      go true e a r =
          let s = r (rw (e, all) at a) in
          rw (e, passing, all) (omega (arith, s.0), s.1, omega (arith, s.2))
      go false e a r = clash a (rw (e, all))

  -- one of the first part fails: it decides
  fail_here : (xs ys : List A) → all f xs ≡ false → (passing f (xs ++ ys) ≡ passing f xs) × (all f (xs ++ ys) ≡ false)
  fail_here [] ys h = clash refl h
  fail_here (x ∷ xs) ys h = go (f x) refl h (λ a. fail_here xs ys a)
    where
      go : (b : Bool) → f x ≡ b → all f (x ∷ xs) ≡ false → (all f xs ≡ false → (passing f (xs ++ ys) ≡ passing f xs) × (all f (xs ++ ys) ≡ false))
          → (passing f (x ∷ xs ++ ys) ≡ passing f (x ∷ xs)) × (all f (x ∷ xs ++ ys) ≡ false)
      go true e a r = let s = r (rw (e, all) at a) in rw (e, passing, all) (ap suc s.0, s.1)
      go false e a r = rw (e, passing, all) (refl, refl)

  passing_most : (xs : List A) → passing f xs ≤ length xs
  passing_most [] = omega arith
  passing_most (x ∷ xs) = go (f x) refl (passing_most xs)
    where
      go : (b : Bool) → f x ≡ b → passing f xs ≤ length xs → passing f (x ∷ xs) ≤ length (x ∷ xs)
      go true e r = rw (e, passing) (omega (arith, r))
      go false e r = rw (e, passing) (omega arith)

  -- the first n of the whole have passed, and the rest is left
  pub record Going (whole : List A) (n : ℕ) (rest : List A) : Type 0 where
    pub count : passing f whole ≡ n + passing f rest
    pub every : all f whole ≡ all f rest
    pub long : n + length rest ≡ length whole

  pub going_none : (whole rest : List A) → rest ≡ whole → Going whole 0 rest
  going_none whole rest e = subst (λ (l : List A). Going l 0 rest) e record { count = omega arith; every = refl; long = omega arith }

  module _ (whole : List A) (n : ℕ) where
    module _ (xs rest : List A) (g : Going whole n (xs ++ rest)) where
      -- a part all of which passes
      going_on : all f xs ≡ true → Going whole (n + passing f xs) rest
      going_on h =
          let s = pass_on xs rest h in record {
            count = omega (arith, g.count, s.0);
            every = g.every ∙ s.1;
            long = omega (arith, g.long, s.2, length-append xs rest);
          }

      -- a part that holds the first to fail
      going_stop : all f xs ≡ false → (n + passing f xs ≡ passing f whole) × (false ≡ all f whole)
      going_stop h = let s = fail_here xs rest h in (omega (arith, g.count, s.0), sym (g.every ∙ s.1))

      going_room : n + passing f xs ≤ length whole
      going_room = omega (arith, g.long, length-append xs rest, passing_most xs)

    -- nothing is left: all have passed
    going_end : Going whole n [] → (n ≡ passing f whole) × (true ≡ all f whole)
    going_end g = (omega (arith, g.count), sym g.every)

-- a list in parts that are numbered, those from i on and below e left
module _ {A : Type 0} (part : ℕ → List A) where
  abbrev pub parts_from : ℕ → ℕ → List A
  parts_from i e = each part (range i (e - i))

  next_part : (i e : ℕ) → i < e → parts_from i e ≡ part i ++ parts_from (i + 1) e
  next_part i e h =
      let n : e - i ≡ suc (e - (i + 1)) = omega arith in
      let j : suc i ≡ i + 1 = omega arith in
      ap (λ (k : ℕ). each part (range i k)) n ∙ ap (λ (k : ℕ). part i ++ each part (range k (e - (i + 1)))) j

  no_part : (i e : ℕ) → e ≤ i → parts_from i e ≡ []
  no_part i e h = let n : e - i ≡ 0 = omega arith in ap (λ (k : ℕ). each part (range i k)) n

  module _ (f : A → Bool) (whole : List A) (n i e : ℕ) (g : Going f whole n (parts_from i e)) where
    at_part : i < e → Going f whole n (part i ++ parts_from (i + 1) e)
    at_part h = subst (λ (l : List A). Going f whole n l) (next_part i e h) g

    pub part_passed : i < e → all f (part i) ≡ true → Going f whole (n + passing f (part i)) (parts_from (i + 1) e)
    part_passed h = going_on f whole n (part i) (parts_from (i + 1) e) (at_part h)

    pub part_failed : i < e → all f (part i) ≡ false → (n + passing f (part i) ≡ passing f whole) × (false ≡ all f whole)
    part_failed h = going_stop f whole n (part i) (parts_from (i + 1) e) (at_part h)

    pub part_room : i < e → n + passing f (part i) ≤ length whole
    part_room h = going_room f whole n (part i) (parts_from (i + 1) e) (at_part h)

    pub parts_passed : e ≤ i → (n ≡ passing f whole) × (true ≡ all f whole)
    parts_passed h = going_end f whole n (subst (λ (l : List A). Going f whole n l) (no_part i e h) g)

-- a part of one member
module _ {A : Type 0} (f : A → Bool) (x : A) where
  pub one_passed : f x ≡ true → (all f (x ∷ []) ≡ true) × (passing f (x ∷ []) ≡ 1)
  one_passed e = rw (e, all, passing) (refl, refl)

  pub one_failed : f x ≡ false → (all f (x ∷ []) ≡ false) × (passing f (x ∷ []) ≡ 0)
  one_failed e = rw (e, all, passing) (refl, refl)

-- a list of single members, and one made from another list, in parts
pub each_single : {A B : Type 0} (g : A → B) (l : List A) → each (λ x. g x ∷ []) l ≡ map g l
each_single g [] = refl
each_single g (x ∷ l) = ap (λ (r : List _). g x ∷ r) (each_single g l)

pub each_map : {A B C : Type 0} (f : B → List C) (g : A → B) (l : List A) → each f (map g l) ≡ each (λ x. f (g x)) l
each_map f g [] = refl
each_map f g (x ∷ l) = ap (λ (r : List _). f (g x) ++ r) (each_map f g l)
