-- A list in two parts, the members that pass a test before those that fail, each part in the list's order: the list has the same members and is as
-- long, and where it rises, both parts rise and no member stands twice. Assumes nothing.
use mathlib.Core.Path.{◌≡◌, refl, sym, ap, ◌∙◌}
use mathlib.Core.Bool.{Bool, true, false, not}
use mathlib.Core.List.Memᴰ
use mathlib.Core.List.{List, [], ◌∷◌, ◌++◌, Memᴰ}
use mathlib.Core.Logic.{◌⊎◌, inl, inr}
use Prim.Native.Nat.{ℕ, ◌+◌, ◌-◌, ◌<◌}
use native.Mathlib.Omega.{arith}
use lib.Dec.{eqb, ltb}
use lib.ListN.{length, length-append, get_or, get_or-append}
use lib.Seq.{get_or-append-add}
use borrow.Author.Tests.{ltb-true, ltb-false}
use Rattle.lists.specs.Lists.{keep, is_empty, Rising}
use Rattle.lists.proofs.Keep.{keep_yes, keep_no}
use Rattle.lists.proofs.Lengths.{empty_length}
use Rattle.lists.proofs.Members.{keep_member, member_keep, get_d_member}
use Rattle.lists.proofs.Rises.{rising_keep, rising_once}
use Rattle.lists.proofs.Tests.{clash}

module _ {A : Type 0} (f : A → Bool) where
  -- the members that fail
  abbrev pub failing : List A → List A
  failing l = keep (λ x. not (f x)) l

  -- those that pass, then those that fail
  abbrev pub parted : List A → List A
  parted l = keep f l ++ failing l

  pub parted_member : (l : List A) {x : A} → Memᴰ x (parted l) → Memᴰ x l
  parted_member l {x} m = go (Memᴰ.append_cases (keep f l) m)
    where
      go : Memᴰ x (keep f l) ⊎ Memᴰ x (failing l) → Memᴰ x l
      go (inl i) = (keep_member f l i).0
      go (inr i) = (keep_member (λ y. not (f y)) l i).0

  pub member_parted : (l : List A) {x : A} → Memᴰ x l → Memᴰ x (parted l)
  member_parted l {x} m = go (f x) refl
    where
      go : (c : Bool) → f x ≡ c → Memᴰ x (parted l)
      go true e = Memᴰ.append_left (failing l) (member_keep f l m e)
      go false e = Memᴰ.append_right (keep f l) (member_keep (λ y. not (f y)) l m (ap not e))

  parts_length : (l : List A) → length (keep f l) + length (failing l) ≡ length l
  parts_length [] = refl
  parts_length (x ∷ l) = go (f x) refl (parts_length l)
    where
      go : (c : Bool) → f x ≡ c → length (keep f l) + length (failing l) ≡ length l
          → length (keep f (x ∷ l)) + length (failing (x ∷ l)) ≡ length (x ∷ l)
      go true e r =
          omega (arith, r, ap length (keep_yes f x l e), ap length (keep_no (λ y. not (f y)) x l (ap not e)))
      go false e r =
          omega (arith, r, ap length (keep_no f x l e), ap length (keep_yes (λ y. not (f y)) x l (ap not e)))

  pub parted_length : (l : List A) → length (parted l) ≡ length l
  parted_length l = length-append (keep f l) (failing l) ∙ parts_length l

  pub parted_empty : (l : List A) → is_empty (parted l) ≡ is_empty l
  parted_empty l = empty_length (parted l) ∙ ap (λ (n : ℕ). eqb n 0) (parted_length l) ∙ sym (empty_length l)

-- by places
module _ (f : ℕ → Bool) (l : List ℕ) where
  -- what stands at a place, and whether it passes
  data Stands (i x : ℕ) : Type 0 where
    passes : i < length (keep f l) → x ≡ get_or (keep f l) i 0 → f x ≡ true → Stands i x
    fails : (j : ℕ) → i ≡ length (keep f l) + j → j < length (failing f l) → x ≡ get_or (failing f l) j 0 → f x ≡ false → Stands i x

  false_of_not : (b : Bool) → not b ≡ true → b ≡ false
  false_of_not true e = clash refl (sym e)
  false_of_not false e = refl

  stands : (i : ℕ) → i < length (parted f l) → Stands i (get_or (parted f l) i 0)
  stands i h = go (ltb i (length (keep f l))) refl
    where
      second : (j : ℕ) → i ≡ length (keep f l) + j → Stands i (get_or (parted f l) i 0)
      second j e =
          let low : j < length (failing f l) = omega (arith, h, length-append (keep f l) (failing f l)) in
          let at : get_or (parted f l) i 0 ≡ get_or (failing f l) j 0 =
          ap (λ (k : ℕ). get_or (parted f l) k 0) e ∙ get_or-append-add (keep f l) (failing f l) j 0 in
          fails j e low at
          (ap f at ∙ false_of_not _ (keep_member (λ y. not (f y)) l (get_d_member (failing f l) j 0 low)).1)

      go : (b : Bool) → ltb i (length (keep f l)) ≡ b → Stands i (get_or (parted f l) i 0)
      go false b = second (i - length (keep f l)) (omega (arith, ltb-false i (length (keep f l)) b))
      go true b =
          let k = ltb-true i (length (keep f l)) b in
          let at = get_or-append (keep f l) (failing f l) 0 i k in
          passes k at (ap f at ∙ (keep_member f l (get_d_member (keep f l) i 0 k)).1)

  module _ (i j : ℕ) (before : i < j) (last : j < length (parted f l)) where
    -- a member that passes has only such before it
    pub parted_first : f (get_or (parted f l) j 0) ≡ true → f (get_or (parted f l) i 0) ≡ true
    parted_first t = go (stands i (omega (arith, before, last))) (stands j last)
      where
        go : Stands i (get_or (parted f l) i 0) → Stands j (get_or (parted f l) j 0) → f (get_or (parted f l) i 0) ≡ true
        go (passes h e p) y = p
        go (fails k d h e p) (passes h' e' p') = absurd (omega (arith, before, d, h'))
        go (fails k d h e p) (fails k' d' h' e' p') = clash t p'

    -- both parts rise
    pub parted_rises : Rising l → f (get_or (parted f l) i 0) ≡ f (get_or (parted f l) j 0) → get_or (parted f l) i 0 < get_or (parted f l) j 0
    parted_rises r same = go (stands i (omega (arith, before, last))) (stands j last)
      where
        go : Stands i (get_or (parted f l) i 0) → Stands j (get_or (parted f l) j 0) → get_or (parted f l) i 0 < get_or (parted f l) j 0
        go (passes h e p) (passes h' e' p') = omega (arith, e, e', rising_once (keep f l) (rising_keep f l r) i j before h')
        go (passes h e p) (fails k' d' h' e' p') = clash (sym same ∙ p) p'
        go (fails k d h e p) (passes h' e' p') = absurd (omega (arith, before, d, h'))
        go (fails k d h e p) (fails k' d' h' e' p') =
            omega (
              arith,
              e,
              e',
              rising_once (failing f l) (rising_keep (λ y. not (f y)) l r) k k' (omega (arith, before, d, d')) h',
            )

    -- no member stands twice
    pub parted_once : Rising l → get_or (parted f l) i 0 ≡ get_or (parted f l) j 0 → ⊥
    parted_once r e = omega (arith, e, parted_rises r (ap f e))
