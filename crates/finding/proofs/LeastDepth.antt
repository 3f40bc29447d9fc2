-- The least depth from a level on in a part: none of the part's entries from that level on lies below it. Assumes nothing.
use Rattle.std.proofs.Common.{◌≡◌, ℕ, zero, suc, ◌+◌, ◌-◌, ◌%◌, min, ◌<◌, ◌≤◌, Bool, true, false, ◌&&◌, ltb, leb, ◌⊎◌, List, [], ◌∷◌, length, get_or, drop, refl, ap, ◌∙◌, subst, inl, inr, arith, length-drop, length-take-le, get_or-drop, get_or-take, ltb-false, ltb-true, le-ltb, lt-ltb, le-leb, leb-false, leb-true}
use borrow.Author.Tests.{lt-leb}
use Rattle.game.specs.Game.{void_entry}
use Rattle.parts.specs.Parts.{part_of}
use Rattle.finding.specs.Inner.Finding.{nearer, least_from}

-- one entry more: it is the new least, or it is not below it where it counts
data Lower (least e low : ℕ) : ℕ → Type 0 where
  taken : low ≤ e → e < least → Lower least e low e
  kept : (low ≤ e → least ≤ e) → Lower least e low least

lowered : (least e low : ℕ) → Lower least e low (nearer least e low)
unfolding nearer
lowered least e low = go (leb low e) refl (ltb e least) refl
  where
    go : (a : Bool) → leb low e ≡ a → (b : Bool) → ltb e least ≡ b → Lower least e low (elim (leb low e && ltb e least) [ true ↦ e | false ↦ least ])
    go true f true g = rw (f, g) (taken (leb-true low e f) (ltb-true e least g))
    go true f false g = rw (f, g) (kept (λ h. ltb-false e least g))
    go false f b g = rw f (kept (λ h. absurd (omega (arith, leb-false low e f))))

-- the same by the difference from `low`, which wraps round below it
module _ (low above e d : ℕ) (small : low + above ≤ void_entry) (fits : d < 65536) (wraps : (d + low) % 65536 ≡ e) where
  nearer_taken : d < above → low + d ≡ nearer (low + above) e low
  unfolding nearer
  nearer_taken h = rw (le-leb low e (omega arith), lt-ltb e (low + above) (omega arith), nearer) (omega arith)

  nearer_kept : above ≤ d → low + above ≡ nearer (low + above) e low
  unfolding nearer
  nearer_kept h = go (ltb (d + low) 65536) refl
    where
      go : (b : Bool) → ltb (d + low) 65536 ≡ b → low + above ≡ nearer (low + above) e low
      go true f =
          let l = ltb-true (d + low) 65536 f in
          rw (le-leb low e (omega arith), le-ltb e (low + above) (omega arith), nearer)
      go false f =
          let l = ltb-false (d + low) 65536 f in
          rw (lt-leb low e (omega arith), nearer)

  pub nearer_is : low + min d above ≡ nearer (low + above) e low
  nearer_is = go (ltb d above) refl
    where
      go : (b : Bool) → ltb d above ≡ b → low + min d above ≡ nearer (low + above) e low
      go true f = let l = ltb-true d above f in omega (arith, nearer_taken l)
      go false f = let l = ltb-false d above f in omega (arith, nearer_kept l)

-- the least is void, or from `low` on and below void
pub least_cases : (low : ℕ) (l : List ℕ) → (least_from low l ≡ void_entry) ⊎ ((low ≤ least_from low l) × (least_from low l < void_entry))
unfolding least_from
least_cases low [] = inl refl
least_cases low (e ∷ es) = go (nearer (least_from low es) e low) (lowered (least_from low es) e low) (least_cases low es)
  where
    go : (v : ℕ) → Lower (least_from low es) e low v → (least_from low es ≡ void_entry) ⊎ ((low ≤ least_from low es) × (least_from low es < void_entry))
        → (v ≡ void_entry) ⊎ ((low ≤ v) × (v < void_entry))
    go v (taken a b) (inl q) = inr (a, omega arith)
    go v (taken a b) (inr q) = inr (a, omega (arith, q.1))
    go v (kept a) r = r

pub least_most : (low : ℕ) (l : List ℕ) → least_from low l ≤ void_entry
least_most low l = go (least_from low l) (least_cases low l)
  where
    go : (v : ℕ) → (v ≡ void_entry) ⊎ ((low ≤ v) × (v < void_entry)) → v ≤ void_entry
    go v (inl q) = omega arith
    go v (inr q) = omega (arith, q.1)

pub least_none : (low : ℕ) → least_from low [] ≡ void_entry
unfolding least_from
least_none low = refl

pub least_more : (low e : ℕ) (es : List ℕ) → least_from low (e ∷ es) ≡ nearer (least_from low es) e low
unfolding least_from
least_more low e es = refl

-- no entry of the list from `low` on lies below it
least_below : (low : ℕ) (l : List ℕ) (j : ℕ) → j < length l → low ≤ get_or l j 0 → least_from low l ≤ get_or l j 0 ⊎ (void_entry ≤ get_or l j 0)
unfolding least_from
least_below low [] j h g = absurd (omega arith)
least_below low (e ∷ es) zero h g = go (nearer (least_from low es) e low) (lowered (least_from low es) e low)
  where
    go : (v : ℕ) → Lower (least_from low es) e low v → (v ≤ e) ⊎ (void_entry ≤ e)
    go v (taken a b) = inl (omega arith)
    go v (kept a) = inl (a g)
least_below low (e ∷ es) (suc j) h g =
    go (nearer (least_from low es) e low) (lowered (least_from low es) e low) (least_below low es j (omega arith) g)
  where
    go : (v : ℕ) → Lower (least_from low es) e low v → (least_from low es ≤ get_or es j 0) ⊎ (void_entry ≤ get_or es j 0) → (v ≤ get_or es j 0) ⊎ (void_entry ≤ get_or es j 0)
    go v (taken a b) (inl q) = inl (omega arith)
    go v (kept a) (inl q) = inl q
    go v x (inr q) = inr q

-- and none of a part's
pub part_below : (low start end : ℕ) (l : List ℕ) → end ≤ length l → (j : ℕ) → start ≤ j → j < end → low ≤ get_or l j 0
    → (least_from low (part_of start end l) ≤ get_or l j 0) ⊎ (void_entry ≤ get_or l j 0)
part_below low start end l room j h k g =
    let e : start + (j - start) ≡ j = omega arith in
    let at : get_or (part_of start end l) (j - start) 0 ≡ get_or l j 0 =
    get_or-take (end - start) (drop start l) (j - start) 0 (omega arith) ∙ get_or-drop start l (j - start) 0 ∙ ap (λ (i : ℕ). get_or l i 0) e in
    let n : length (part_of start end l) ≡ end - start = length-take-le (end - start) (drop start l) (omega (arith, length-drop start l)) in
    subst (λ (v : ℕ). (least_from low (part_of start end l) ≤ v) ⊎ (void_entry ≤ v)) at
    (least_below low (part_of start end l) (j - start) (omega (arith, n)) (omega (arith, at)))
