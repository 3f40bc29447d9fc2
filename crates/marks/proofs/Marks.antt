-- What marking places leaves: the length, each entry as it was or void in place of draw, and no marked place open. Assumes nothing.
use mathlib.Core.Path.{◌≡◌, refl, sym, ap, subst, ◌∙◌}
use mathlib.Core.Bool.{Bool, true, false}
use mathlib.Core.List.Memᴰ
use mathlib.Core.List.{List, [], ◌∷◌, ◌++◌, Memᴰ}
use mathlib.Core.Logic.{◌⊎◌, inl, inr}
use Prim.Native.Nat.{ℕ, ◌<◌}
use native.Mathlib.Omega.{arith}
use lib.Dec.{eqb, ltb}
use lib.ListN.{length, get_or, set, length-set}
use lib.Seq.{get_or-set_same, get_or-set_other, set_out}
use borrow.Author.Tests.{eqb-true, eqb-false, ne_eqb, ltb-true, ltb-false}
use Rattle.game.specs.Game.{draw_entry, void_entry}
use Rattle.marks.specs.Inner.Marks.{mark_at, marked}

-- a mark, by whether the place is open
pub mark_is : (j : ℕ) (tablebase : List ℕ)
    → mark_at j tablebase ≡ elim (eqb (get_or tablebase j 0) draw_entry) [ true ↦ set tablebase j void_entry | false ↦ tablebase ]
unfolding mark_at
mark_is j tablebase = refl

mark_open : (j : ℕ) (tablebase : List ℕ) → eqb (get_or tablebase j 0) draw_entry ≡ true → mark_at j tablebase ≡ set tablebase j void_entry
unfolding mark_at
mark_open j tablebase e = rw (e, mark_at)

mark_closed : (j : ℕ) (tablebase : List ℕ) → eqb (get_or tablebase j 0) draw_entry ≡ false → mark_at j tablebase ≡ tablebase
unfolding mark_at
mark_closed j tablebase e = rw (e, mark_at)

-- one place after the other
pub marked_none : (tablebase : List ℕ) → marked [] tablebase ≡ tablebase
unfolding marked
marked_none tablebase = refl

pub marked_one : (j : ℕ) (tablebase : List ℕ) → marked (j ∷ []) tablebase ≡ mark_at j tablebase
unfolding marked
marked_one j tablebase = refl

pub marked_append : (xs ys tablebase : List ℕ) → marked (xs ++ ys) tablebase ≡ marked ys (marked xs tablebase)
unfolding marked
marked_append [] ys tablebase = refl
marked_append (x ∷ xs) ys tablebase = marked_append xs ys (mark_at x tablebase)

-- the length stays
pub mark_length : (j : ℕ) (tablebase : List ℕ) → length (mark_at j tablebase) ≡ length tablebase
mark_length j tablebase = go (eqb (get_or tablebase j 0) draw_entry) refl
  where
    go : (b : Bool) → eqb (get_or tablebase j 0) draw_entry ≡ b → length (mark_at j tablebase) ≡ length tablebase
    go true e = ap length (mark_open j tablebase e) ∙ length-set tablebase j void_entry
    go false e = ap length (mark_closed j tablebase e)

pub marked_length : (js tablebase : List ℕ) → length (marked js tablebase) ≡ length tablebase
unfolding marked
marked_length [] tablebase = refl
marked_length (j ∷ js) tablebase = marked_length js (mark_at j tablebase) ∙ mark_length j tablebase

-- an entry is as it was, or void in place of draw at a marked place
abbrev pub MarkedAt : List ℕ → List ℕ → List ℕ → ℕ → Type 0
MarkedAt js old new j = (get_or new j 0 ≡ get_or old j 0) ⊎ ((get_or old j 0 ≡ draw_entry) × (get_or new j 0 ≡ void_entry) × Memᴰ j js)

mark_at_lem : (i : ℕ) (tablebase : List ℕ) (j : ℕ) → MarkedAt (i ∷ []) tablebase (mark_at i tablebase) j
mark_at_lem i tablebase j = go (eqb (get_or tablebase i 0) draw_entry) refl (eqb j i) refl (ltb i (length tablebase)) refl
  where
    At : List ℕ → Type 0
    At new = MarkedAt (i ∷ []) tablebase new j

    go : (b : Bool) → eqb (get_or tablebase i 0) draw_entry ≡ b → (c : Bool) → eqb j i ≡ c → (d : Bool) → ltb i (length tablebase) ≡ d → At (mark_at i tablebase)
    go false e c f d g = subst At (sym (mark_closed i tablebase e)) (inl refl)
    go true e c f false g = subst At (sym (mark_open i tablebase e ∙ set_out tablebase i void_entry (ltb-false i (length tablebase) g))) (inl refl)
    go true e false f true g = subst At (sym (mark_open i tablebase e)) (inl (get_or-set_other tablebase i j void_entry 0 (eqb-false j i f)))
    go true e true f true g =
        let same = eqb-true j i f in
        subst At (sym (mark_open i tablebase e)) (inr (
          ap (λ (k : ℕ). get_or tablebase k 0) same ∙ eqb-true (get_or tablebase i 0) draw_entry e,
          ap (λ (k : ℕ). get_or (set tablebase i void_entry) k 0) same ∙ get_or-set_same tablebase i void_entry 0 (ltb-true i (length tablebase) g),
          Memᴰ.head same,
        ))

pub marked_at : (js tablebase : List ℕ) (j : ℕ) → MarkedAt js tablebase (marked js tablebase) j
unfolding marked
marked_at [] tablebase j = inl refl
marked_at (i ∷ js) tablebase j = go (mark_at_lem i tablebase j) (marked_at js (mark_at i tablebase) j)
  where
    go : MarkedAt (i ∷ []) tablebase (mark_at i tablebase) j → MarkedAt js (mark_at i tablebase) (marked js (mark_at i tablebase)) j
        → MarkedAt (i ∷ js) tablebase (marked js (mark_at i tablebase)) j
    go (inl e) (inl f) = inl (f ∙ e)
    go (inl e) (inr f) = inr (sym e ∙ f.0, f.1, Memᴰ.tail f.2)
    go (inr e) (inl f) = inr (e.0, f ∙ e.1, Memᴰ.head (Memᴰ.eq_of_singleton e.2))
    go (inr e) (inr f) = absurd (omega (arith, e.1, f.0))

-- a marked place is not open
mark_closes : (j : ℕ) (tablebase : List ℕ) → j < length tablebase → get_or (mark_at j tablebase) j 0 ≡ draw_entry → ⊥
mark_closes j tablebase h d = go (eqb (get_or tablebase j 0) draw_entry) refl
  where
    go : (b : Bool) → eqb (get_or tablebase j 0) draw_entry ≡ b → ⊥
    go true e = let z = sym d ∙ ap (λ (l : List ℕ). get_or l j 0) (mark_open j tablebase e) ∙ get_or-set_same tablebase j void_entry 0 h in omega arith
    go false e = eqb-false (get_or tablebase j 0) draw_entry e (sym (ap (λ (l : List ℕ). get_or l j 0) (mark_closed j tablebase e)) ∙ d)

pub marked_closed : (js tablebase : List ℕ) (j : ℕ) → Memᴰ j js → j < length tablebase → get_or (marked js tablebase) j 0 ≡ draw_entry → ⊥
unfolding marked
marked_closed [] tablebase j m h d = absurd (Memᴰ.not-nil m)
marked_closed (i ∷ js) tablebase j m h d =
    go (Memᴰ.cases_cons m) (marked_at js (mark_at i tablebase) j)
    (λ k. marked_closed js (mark_at i tablebase) j k (subst (λ (n : ℕ). j < n) (sym (mark_length i tablebase)) h) d)
  where
    go : (j ≡ i) ⊎ Memᴰ j js → MarkedAt js (mark_at i tablebase) (marked js (mark_at i tablebase)) j → (Memᴰ j js → ⊥) → ⊥
    go (inr k) c r = r k
    go (inl e) (inr f) r = r f.2
    go (inl e) (inl f) r =
        mark_closes j tablebase h (ap (λ (k : ℕ). get_or (mark_at k tablebase) j 0) e ∙ sym f ∙ d)

-- and an entry that is neither draw nor void stands where it stood
pub marked_same : (js tablebase : List ℕ) (j v : ℕ) → (v ≡ draw_entry → ⊥) → (v ≡ void_entry → ⊥)
    → eqb (get_or (marked js tablebase) j 0) v ≡ eqb (get_or tablebase j 0) v
marked_same js tablebase j v d n = go (marked_at js tablebase j)
  where
    go : MarkedAt js tablebase (marked js tablebase) j → eqb (get_or (marked js tablebase) j 0) v ≡ eqb (get_or tablebase j 0) v
    go (inl e) = ap (λ (x : ℕ). eqb x v) e
    go (inr e) =
        ne_eqb (get_or (marked js tablebase) j 0) v (λ q. n (sym q ∙ e.1)) ∙ sym (ne_eqb (get_or tablebase j 0) v (λ q. d (sym q ∙ e.0)))
