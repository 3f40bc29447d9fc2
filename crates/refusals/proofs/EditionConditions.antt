-- The refusal of a wrong edition, once for all calls that take one: 20 is met directly after 1, and a right edition leaves the refusal that the other
-- arguments meet. Assumes nothing.
use mathlib.Core.Path.{◌≡◌, refl, sym, ap, ◌∙◌}
use mathlib.Core.Bool.{Bool, true, false, cond}
use mathlib.Core.List.{List, [], ◌∷◌}
use Prim.Native.Nat.{ℕ, ◌≤◌}
use native.Mathlib.Omega.{arith}
use lib.Dec.{ltb}
use lib.ListN.{drop}
use borrow.Author.Tests.{ltb-false, le-ltb}
use Rattle.lists.proofs.Tests.{or_left, or_right}
use Rattle.refusals.specs.Refusals.{Pick, pick, refusal_row, refusal_table, picked_row, picked_rows, first, refusal}
use Rattle.refusals.specs.Refusals.{wrong_frame, wrong_rings, wrong_edition}
use Rattle.refusals.specs.Conditions.{rings_wrong, edition_wrong, under_edition, edition_picks, ruled_picks}
use Rattle.refusals.proofs.FirstRefusal.{first_cons}

-- wrong rings with a wrong edition; a short board with edition 0 and with 3; and with the two editions
pub edition_cases : (refusal (ruled_picks 4 3 []) ≡ 1) × (refusal (ruled_picks 1 0 []) ≡ 20) × (refusal (ruled_picks 1 3 []) ≡ 20)
    × (refusal (ruled_picks 1 1 []) ≡ 2) × (refusal (ruled_picks 1 2 []) ≡ 2)
edition_cases = (refl, refl, refl, refl, refl)

pub edition_right : (edition : ℕ) → edition_wrong edition ≡ false → (1 ≤ edition) × (edition ≤ 2)
edition_right edition e =
    (ltb-false edition 1 (or_left (ltb edition 1) (ltb 2 edition) e), ltb-false 2 edition (or_right (ltb edition 1) (ltb 2 edition) e))

pub edition_fine : (edition : ℕ) → 1 ≤ edition → edition ≤ 2 → edition_wrong edition ≡ false
edition_fine edition l h = rw (le-ltb edition 1 l, le-ltb 2 edition h)

-- picks of these rings, without a frame before them and without an edition
pub record RingsFirst (rings : ℕ) (ps : List Pick) : Type 0 where
  pub no_frame : picked_row (refusal_row wrong_frame 14) ps ≡ []
  pub rings_picked : picked_row (refusal_row wrong_rings 1) ps ≡ record { holds = rings_wrong rings; number = 1 } ∷ []
  pub no_edition : picked_row (refusal_row wrong_edition 20) ps ≡ []

module _ (rings edition : ℕ) (ps : List Pick) (f : RingsFirst rings ps) where
  abbrev r : Bool
  r = rings_wrong rings

  abbrev d : Bool
  d = edition_wrong edition

  -- the refusal by the places after the edition
  abbrev later : ℕ
  later = first (picked_rows (drop 3 refusal_table) ps)

  without : refusal ps ≡ cond r 1 later
  without = rw (f.no_frame, f.rings_picked, f.no_edition) (first_cons r 1 (picked_rows (drop 3 refusal_table) ps))

  ruled : refusal (under_edition edition ps) ≡ cond r 1 (cond d 20 later)
  ruled =
      rw (f.no_frame, f.rings_picked)
      (first_cons r 1 (record { holds = d; number = 20 } ∷ picked_rows (drop 3 refusal_table) ps)
      ∙ ap (cond r 1) (first_cons d 20 (picked_rows (drop 3 refusal_table) ps)))

  -- "20, edition not 1 or 2, directly after 1": then what is met without an edition
  pub edition_second : refusal (under_edition edition ps) ≡ cond (rings_wrong rings) 1 (cond (edition_wrong edition) 20 (refusal ps))
  edition_second = ruled ∙ go r d ∙ ap (λ (n : ℕ). cond r 1 (cond d 20 n)) (sym without)
    where
      go : (a b : Bool) → cond a 1 (cond b 20 later) ≡ cond a 1 (cond b 20 (cond a 1 later))
      go true b = refl
      go false b = refl

  -- a right edition leaves the rest to decide
  pub edition_free : edition_wrong edition ≡ false → refusal (under_edition edition ps) ≡ refusal ps
  edition_free e = ruled ∙ ap (λ (b : Bool). cond r 1 (cond b 20 later)) e ∙ sym without

  -- an accepted call has a right edition
  pub edition_passed : refusal (under_edition edition ps) ≡ 0 → (edition_wrong edition ≡ false) × (refusal ps ≡ 0)
  edition_passed e = let right = go r d refl (sym ruled ∙ e) in (right, sym (edition_free right) ∙ e)
    where
      go : (a b : Bool) → d ≡ b → cond a 1 (cond b 20 later) ≡ 0 → d ≡ false
      go true b q z = absurd (omega arith)
      go false true q z = absurd (omega arith)
      go false false q z = q

  -- a refusal of rings or edition is met whatever else is asked
  pub edition_refused : (n : ℕ) → (n ≡ 0 → ⊥) → n ≡ refusal (edition_picks rings edition) → n ≡ refusal (under_edition edition ps)
  edition_refused n z e = go r d (e ∙ first_cons r 1 (record { holds = d; number = 20 } ∷ []) ∙ ap (cond r 1) (first_cons d 20 [])) ∙ sym ruled
    where
      go : (a b : Bool) → n ≡ cond a 1 (cond b 20 0) → n ≡ cond a 1 (cond b 20 later)
      go true b q = q
      go false true q = q
      go false false q = absurd (z q)

-- and where there is none, the rest decides
pub edition_decides : (rings edition : ℕ) (ps : List Pick) → RingsFirst rings ps → 0 ≡ refusal (edition_picks rings edition)
    → refusal (under_edition edition ps) ≡ refusal ps
edition_decides rings edition ps f e =
    let w : RingsFirst rings (pick wrong_rings (rings_wrong rings) ∷ []) = record { no_frame = refl; rings_picked = refl; no_edition = refl } in
    edition_free rings edition ps f (edition_passed rings edition (pick wrong_rings (rings_wrong rings) ∷ []) w (sym e)).0
