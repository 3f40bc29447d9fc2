-- A loop over a set's members that counts what each gives, writes it into a buffer, or stops at the first that passes a test: the invariant of
-- each, its start, its step and its end. Assumes nothing.
use mathlib.Core.Path.{◌≡◌, refl, sym, ap, subst, ◌∙◌}
use mathlib.Core.Bool.{Bool, true, false}
use mathlib.Core.List.{List, [], ◌∷◌, ◌++◌, map}
use Prim.Native.Nat.{ℕ, ◌+◌, ◌^◌, ◌≤◌, ◌<◌}
use native.Mathlib.Omega.{arith}
use lib.ListN.{length, length-append}
use lib.Seq.{sets}
use Rattle.lists.specs.Lists.{any, each}
use Rattle.lists.proofs.Writing.{Writing, writing_none, writing_part, writing_all}
use Rattle.sets.specs.Sets.{bit, elements}
use Rattle.sets.specs.Inner.Taken.{Taken}
use Rattle.sets.proofs.Elements.{elements_none}

-- what each member gives, one list after the other
abbrev pub given : (ℕ → List ℕ) → ℕ → List ℕ
given f s = each f (elements 32 s)

module _ (f : ℕ → List ℕ) where
  pub given_apart : (left p rest : ℕ) → Taken left p rest → given f left ≡ f p ++ given f rest
  given_apart left p rest t = ap (each f) t.apart

  pub given_none : given f 0 ≡ []
  given_none = ap (each f) (elements_none 32)

  -- n of the whole are counted
  pub record Counted (whole n left : ℕ) : Type 0 where
    pub within : left < 2 ^ 32
    pub among : (q : ℕ) → bit left q ≡ 1 → bit whole q ≡ 1
    pub total : n + length (given f left) ≡ length (given f whole)

  pub counted_none : (whole : ℕ) → whole < 2 ^ 32 → Counted whole 0 whole
  counted_none whole h = record { within = h; among = λ q b. b; total = omega arith }

  pub counted_more : (whole n left p rest k : ℕ) → Counted whole n left → Taken left p rest → k ≡ length (f p) → Counted whole (n + k) rest
  counted_more whole n left p rest k w t e = record {
    within = omega (arith, w.within, t.less);
    among = λ q b. w.among q (t.among q b);
    total = omega (arith, w.total, e, ap length (given_apart left p rest t), length-append (f p) (given f rest));
  }

  pub counted_all : (whole n left : ℕ) → Counted whole n left → left ≡ 0 → n ≡ length (given f whole)
  counted_all whole n left w e = omega (arith, w.total, ap (λ (s : ℕ). length (given f s)) e, ap length given_none)

  -- of what the whole gives, what the members left give is still to be written at place k
  pub record Written (old : List ℕ) (start whole : ℕ) (list : List ℕ) (k left : ℕ) : Type 0 where
    pub within : left < 2 ^ 32
    pub among : (q : ℕ) → bit left q ≡ 1 → bit whole q ≡ 1
    pub writing : Writing old start (given f whole) list k (given f left)

  pub written_none : (old : List ℕ) (start whole : ℕ) → whole < 2 ^ 32 → Written old start whole old start whole
  written_none old start whole h = record { within = h; among = λ q b. b; writing = writing_none old start (given f whole) }

  pub written_more : (old : List ℕ) (start whole : ℕ) (list : List ℕ) (k left p rest : ℕ) (list' : List ℕ) (k' : ℕ)
      → Written old start whole list k left → Taken left p rest → k' ≡ k + length (f p) → list' ≡ sets list k (f p)
      → Written old start whole list' k' rest
  written_more old start whole list k left p rest list' k' w t e d = record {
    within = omega (arith, w.within, t.less);
    among = λ q b. w.among q (t.among q b);
    writing =
        subst (λ (l : List ℕ). Writing old start (given f whole) l k' (given f rest)) (sym d)
        (subst (λ (i : ℕ). Writing old start (given f whole) (sets list k (f p)) i (given f rest)) (sym e)
        (writing_part (f p) (given f rest) (subst (λ (l : List ℕ). Writing old start (given f whole) list k l) (given_apart left p rest t) w.writing)));
  }

  pub written_all : (old : List ℕ) (start whole : ℕ) (list : List ℕ) (k left : ℕ) → Written old start whole list k left → left ≡ 0
      → (k ≡ start + length (given f whole)) × (list ≡ sets old start (given f whole))
  written_all old start whole list k left w e =
      let r = writing_all (subst (λ (l : List ℕ). Writing old start (given f whole) list k l) (ap (given f) e ∙ given_none) w.writing) in
      (r.1, r.0)

  -- there is room for what a member gives
  pub written_room : (old : List ℕ) (start whole : ℕ) (list : List ℕ) (k left p rest : ℕ) → Written old start whole list k left → Taken left p rest
      → start + length (given f whole) ≤ length old → k + length (f p) ≤ length list
  written_room old start whole list k left p rest w t h =
      omega (arith, w.writing.place, w.writing.long, ap length (given_apart left p rest t), length-append (f p) (given f rest))

-- one number from each member
pub each_map : (g : ℕ → ℕ) (l : List ℕ) → each (λ p. g p ∷ []) l ≡ map g l
each_map g [] = refl
each_map g (x ∷ l) = ap (λ (k : List ℕ). g x ∷ k) (each_map g l)

module _ (f : ℕ → Bool) where
  -- some member of the whole passes exactly where one of those left does
  pub record Sought (whole left : ℕ) : Type 0 where
    pub within : left < 2 ^ 32
    pub among : (q : ℕ) → bit left q ≡ 1 → bit whole q ≡ 1
    pub same : any f (elements 32 left) ≡ any f (elements 32 whole)

  pub sought_none : (whole : ℕ) → whole < 2 ^ 32 → Sought whole whole
  sought_none whole h = record { within = h; among = λ q b. b; same = refl }

  pub sought_more : (whole left p rest : ℕ) → Sought whole left → Taken left p rest → f p ≡ false → Sought whole rest
  sought_more whole left p rest w t e = record {
    within = omega (arith, w.within, t.less);
    among = λ q b. w.among q (t.among q b);
    same = sym (ap (any f) t.apart ∙ rw (e, any)) ∙ w.same;
  }

  pub sought_found : (whole left p rest : ℕ) → Sought whole left → Taken left p rest → f p ≡ true → true ≡ any f (elements 32 whole)
  sought_found whole left p rest w t e = sym (ap (any f) t.apart ∙ rw (e, any)) ∙ w.same

  pub sought_all : (whole left : ℕ) → Sought whole left → left ≡ 0 → false ≡ any f (elements 32 whole)
  sought_all whole left w e = sym (ap (λ (s : ℕ). any f (elements 32 s)) e ∙ ap (any f) (elements_none 32)) ∙ w.same
