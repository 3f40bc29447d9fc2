-- A full mill sought among the sixteen: those not yet looked at decide. Assumes nothing.
use mathlib.Core.Path.{◌≡◌, refl, sym, ap, subst, ◌∙◌}
use mathlib.Core.Bool.{Bool, true, false}
use mathlib.Core.List.{List, []}
use Prim.Native.Nat.{ℕ, suc, ◌^◌, ◌≤◌, ◌<◌}
use native.Mathlib.Omega.{arith}
use lib.ListN.{length, get_or, drop}
use lib.Seq.{drop-cons, drop-length}
use Rattle.lists.specs.Lists.{all, any}
use Rattle.lists.proofs.Members.{get_d_member}
use Rattle.sets.specs.Sets.{has}
use Rattle.geometry.specs.Geometry.{mills}
use Rattle.geometry.proofs.Geometry.{all_mills, mill_proper}
use Rattle.rules.specs.Unreachable.{has_mill}
use Rattle.rules.proofs.Unreachable.{has_mill_any}
use Rattle.plies.proofs.FullMills.{full, full_three}

module _ (s : ℕ) where
  abbrev full_mill : List ℕ → Bool
  full_mill mill = all (λ q. has s q) mill

  -- whether a mill from the i-th on is full decides whether any is
  pub record MillsLeft (i : ℕ) : Type 0 where
    pub low : i ≤ 16
    pub decides : any (λ mill. all (λ q. has s q) mill) (drop i (mills 3)) ≡ has_mill 3 (λ q. has s q)

  pub mills_all : MillsLeft 0
  mills_all = record { low = omega arith; decides = sym (has_mill_any 3 (λ q. has s q)) }

  pub mills_none : (i : ℕ) → 16 ≤ i → MillsLeft i → false ≡ has_mill 3 (λ q. has s q)
  mills_none i high w =
      let e : i ≡ length (mills 3) = let h : i ≡ 16 = omega (arith, w.low) in h ∙ all_mills 3 refl in
      sym (ap (any full_mill) (ap (λ (n : ℕ). drop n (mills 3)) e ∙ drop-length (mills 3))) ∙ w.decides

  -- the i-th is looked at
  module _ (fits : s < 2 ^ 32) (i : ℕ) (below : i < 16) (w : MillsLeft i) where
    within : i < length (mills 3)
    within = subst (λ (n : ℕ). i < n) (all_mills 3 refl) below

    abbrev later : Bool → Bool
    later t = elim t [ true ↦ true | false ↦ any full_mill (drop (suc i) (mills 3)) ]

    looked : (t : Bool) → full s (get_or (mills 3) i []) ≡ t → later t ≡ has_mill 3 (λ q. has s q)
    looked t e =
        ap later (sym e ∙ full_three s fits (get_or (mills 3) i []) (mill_proper 3 (omega arith) _ (get_d_member (mills 3) i [] within)))
        ∙ sym (ap (any full_mill) (drop-cons (mills 3) i [] within)) ∙ w.decides

    pub mill_found : full s (get_or (mills 3) i []) ≡ true → true ≡ has_mill 3 (λ q. has s q)
    mill_found e = looked true e

    pub mill_passed : full s (get_or (mills 3) i []) ≡ false → MillsLeft (suc i)
    mill_passed e = record { low = omega arith; decides = looked false e }
