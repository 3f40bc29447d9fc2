-- A loop over the moves that keeps the best so far: its invariant, with its start, its step and its end. Assumes nothing.
use mathlib.Core.Path.{◌≡◌, refl, sym, ap, ap₂, ◌∙◌}
use mathlib.Core.Bool.{Bool, true, false}
use mathlib.Core.List.{List, [], ◌∷◌, map, Memᴰ}
use Prim.Native.Nat.{ℕ, ◌+◌, ◌≤◌, ◌<◌}
use native.Mathlib.Numerals.{add-one}
use native.Mathlib.Omega.{arith}
use lib.Dec.{ltb}
use lib.ListN.{length, get_or, drop}
use lib.Seq.{drop-cons, drop-length}
use Rattle.bestmove.specs.declared.Best.{Best}
use Rattle.bestmove.specs.Best.{best_entry, best_move}
use Rattle.bestmove.specs.Inner.Worth.{worth}
use Rattle.bestmove.proofs.FirstGreatest.{kept, kept_better, kept_same}
use Rattle.bestmove.proofs.Worths.{Told}
use Rattle.bestmove.proofs.Choice.{kept_entry, kept_move}

module _ (f : ℕ → ℕ) (ms : List ℕ) where
  abbrev measure : ℕ → ℕ
  measure m = worth (f m)

  -- the best so far, with the moves from i on, comes to the best of all
  pub record Running (i : ℕ) (best : Best) : Type 0 where
    pub entry_is : best.entry ≡ f best.number
    pub whole : kept measure best.number (drop i ms) ≡ kept measure (get_or ms 0 0) (drop 1 ms)

  pub running_none : (best : Best) → best.number ≡ get_or ms 0 0 → best.entry ≡ f (get_or ms 0 0) → Running 1 best
  running_none best n e = record { entry_is = e ∙ ap f (sym n); whole = ap (λ (m : ℕ). kept measure m (drop 1 ms)) n }

  pub running_more : (i : ℕ) (best next : Best) → i < length ms → Running i best → next.number ≡ get_or ms i 0 → next.entry ≡ f (get_or ms i 0)
      → (after : Best) → after ≡ elim (ltb (worth best.entry) (worth next.entry)) [ true ↦ next | false ↦ best ] → Running (i + 1) after
  running_more i best next h r n e after a = go (ltb (worth best.entry) (worth next.entry)) refl
    where
      made : next.entry ≡ f next.number
      made = e ∙ ap f (sym n)

      apart : drop i ms ≡ next.number ∷ drop (i + 1) ms
      apart = drop-cons ms i 0 h ∙ ap₂ (λ (m k : ℕ). m ∷ drop k ms) (sym n) (sym (add-one i))

      measured : ltb (measure best.number) (measure next.number) ≡ ltb (worth best.entry) (worth next.entry)
      measured = ap₂ (λ (x y : ℕ). ltb (worth x) (worth y)) (sym r.entry_is) (sym made)

      go : (b : Bool) → ltb (worth best.entry) (worth next.entry) ≡ b → Running (i + 1) after
      go true t = let q : after ≡ next = a ∙ rw t in rw q record {
        entry_is = made;
        whole = sym (ap (kept measure best.number) apart ∙ kept_better measure best.number next.number (drop (i + 1) ms) (measured ∙ t)) ∙ r.whole;
      }
      go false t = let q : after ≡ best = a ∙ rw t in rw q record {
        entry_is = r.entry_is;
        whole = sym (ap (kept measure best.number) apart ∙ kept_same measure best.number next.number (drop (i + 1) ms) (measured ∙ t)) ∙ r.whole;
      }

  pub running_all : (i : ℕ) (best : Best) → i ≡ length ms → 1 ≤ length ms → ((m : ℕ) → Memᴰ m ms → Told (f m)) → Running i best
      → (best.number ≡ best_move f ms) × (best.entry ≡ best_entry (map f ms))
  running_all i best e h told r =
      let last : best.number ≡ kept measure (get_or ms 0 0) (drop 1 ms) =
      sym (ap (kept measure best.number) (ap (λ (k : ℕ). drop k ms) e ∙ drop-length ms)) ∙ r.whole in
      let s = chosen ms h told in
      (last ∙ s.0, r.entry_is ∙ ap f last ∙ s.1)
    where
      chosen : (l : List ℕ) → 1 ≤ length l → ((m : ℕ) → Memᴰ m l → Told (f m))
          → (kept measure (get_or l 0 0) (drop 1 l) ≡ best_move f l) × (f (kept measure (get_or l 0 0) (drop 1 l)) ≡ best_entry (map f l))
      chosen [] h told = absurd (omega arith)
      chosen (m ∷ l) h told = (kept_move f m l told, kept_entry f m l told)
