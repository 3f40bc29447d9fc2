-- A loop over a set's members that marks the boards that each gives: its invariant, with its start, its step and its end. Assumes nothing.
use mathlib.Core.Path.{◌≡◌, refl, sym, ap, ◌∙◌}
use mathlib.Core.List.{List, [], ◌∷◌, ◌++◌, map, map-append}
use Prim.Native.Nat.{ℕ, ◌+◌, ◌^◌, ◌<◌}
use native.Mathlib.Omega.{arith}
use lib.ListN.{length}
use Rattle.lists.specs.Lists.{each}
use Rattle.sets.specs.Sets.{bit, elements}
use Rattle.sets.specs.Inner.Taken.{Taken}
use Rattle.sets.proofs.Elements.{elements_none}
use Rattle.ranking.specs.Rank.{rank}
use Rattle.marks.specs.Inner.Marks.{marked, places}
use Rattle.marks.proofs.Marks.{marked_none, marked_append, marked_length}

module _ (start : ℕ) (f : ℕ → List (List ℕ)) where
  -- the places of what a set's members give
  abbrev pub places_of : ℕ → List ℕ
  places_of s = places start (each f (elements 32 s))

  places_apart : (left p rest : ℕ) → Taken left p rest → places_of left ≡ places start (f p) ++ places_of rest
  places_apart left p rest t =
      ap (λ (l : List ℕ). places start (each f l)) t.apart ∙ map-append (λ b. start + rank b) (f p) (each f (elements 32 rest))

  -- of what the whole gives, what the members left give is still to be marked
  pub record Marking (old : List ℕ) (whole : ℕ) (new : List ℕ) (left : ℕ) : Type 0 where
    pub within : left < 2 ^ 32
    pub among : (q : ℕ) → bit left q ≡ 1 → bit whole q ≡ 1
    pub same : marked (places_of left) new ≡ marked (places_of whole) old
    pub long : length new ≡ length old

  pub marking_none : (old : List ℕ) (whole : ℕ) → whole < 2 ^ 32 → Marking old whole old whole
  marking_none old whole h = record { within = h; among = λ q b. b; same = refl; long = refl }

  pub marking_more : (old : List ℕ) (whole : ℕ) (new : List ℕ) (left p rest : ℕ) (new' : List ℕ) → Marking old whole new left → Taken left p rest
      → new' ≡ marked (places start (f p)) new → Marking old whole new' rest
  marking_more old whole new left p rest new' w t e = record {
    within = omega (arith, w.within, t.less);
    among = λ q b. w.among q (t.among q b);
    same =
        ap (marked (places_of rest)) e ∙ sym (marked_append (places start (f p)) (places_of rest) new)
        ∙ ap (λ (l : List ℕ). marked l new) (sym (places_apart left p rest t)) ∙ w.same;
    long = ap length e ∙ marked_length (places start (f p)) new ∙ w.long;
  }

  pub marking_all : (old : List ℕ) (whole : ℕ) (new : List ℕ) (left : ℕ) → Marking old whole new left → left ≡ 0 → new ≡ marked (places_of whole) old
  marking_all old whole new left w e =
      sym (ap (λ (s : ℕ). marked (places_of s) new) e
      ∙ ap (λ (l : List ℕ). marked (places start (each f l)) new) (elements_none 32) ∙ marked_none new) ∙ w.same

-- one board from each member
pub each_one : (g : ℕ → List ℕ) (l : List ℕ) → each (λ p. g p ∷ []) l ≡ map g l
each_one g [] = refl
each_one g (x ∷ l) = ap (λ (k : List (List ℕ)). g x ∷ k) (each_one g l)
