-- The two ways out of a fill: turned back with the tablebase as it was, or through to the solver's answer. Depth comes last in the table, so 13 is
-- answered only where no other condition holds. Assumes nothing.
use mathlib.Core.Path.{◌≡◌, refl, sym, ap, subst, ◌∙◌}
use mathlib.Core.Bool.{Bool, true, false, cond, not, false≢true}
use mathlib.Core.List.{List, [], ◌∷◌, ◌++◌}
use mathlib.Core.Logic.{◌⊎◌, inl, inr}
use Prim.Native.Nat.{ℕ, zero, suc}
use native.Mathlib.Omega.{arith}
use lib.Dec.{ltb, eqb}
use lib.ListN.{length}
use borrow.Author.Tests.{eqb-false}
use Rattle.lists.specs.Lists.{all}
use Rattle.rules.specs.Ply.{removable}
use Rattle.solver.specs.Inner.Solve.{WholeFill}
use Rattle.filling.specs.Inner.Solve.{PairFill}
use Rattle.refusals.specs.Refusals.{Pick, Picked, pick, too_deep, refusal_table, picked_rows, first, refusal}
use Rattle.refusals.specs.Conditions.{fill_picks, pair_picks}
use Rattle.answers.specs.Answers.{Answer, accepted, refused, answer}
use Rattle.fill_calls.specs.Fills.{Left, Promise, FillCall, FillPairCall}
use Rattle.refusals.proofs.FirstRefusal.{first_kept, one_more}
use Rattle.answers.proofs.Answering.{answer_refused, refused_number, accepted_values}

-- picked conditions, after which comes depth
pub record DepthLast (picks : List Pick) : Type 0 where
  pub rows : (deep : Bool) → picked_rows refusal_table (pick too_deep deep ∷ picks) ≡ picked_rows refusal_table picks ++
      (record { holds = deep; number = 13 } ∷ [])
  pub numbers : all (λ r. ltb 0 r.number) (picked_rows refusal_table picks) ≡ true
  pub others : all (λ r. not (eqb r.number 13)) (picked_rows refusal_table picks) ≡ true

pub fill_last : (rings edition k limit n : ℕ) → DepthLast (fill_picks rings edition k limit n)
fill_last rings edition k limit n = record { rows = λ deep. refl; numbers = refl; others = refl }

pub pair_last : (rings edition m o k limit : ℕ) (tablebase : List ℕ) → DepthLast (pair_picks rings edition m o k limit tablebase)
pair_last rings edition m o k limit tablebase = record { rows = λ deep. refl; numbers = refl; others = refl }

module _ (picks : List Pick) (last : DepthLast picks) where
  -- an earlier refusal stays, whatever the depth
  pub earlier_refusal : (deep : Bool) (n : ℕ) → (n ≡ 0 → ⊥) → n ≡ refusal picks → n ≡ refusal (pick too_deep deep ∷ picks)
  earlier_refusal deep n z e =
      first_kept (picked_rows refusal_table picks) (record { holds = deep; number = 13 } ∷ []) n z e ∙ ap first (sym (last.rows deep))

  -- where there is none, the depth decides
  pub depth_decides : (deep : Bool) → 0 ≡ refusal picks → refusal (pick too_deep deep ∷ picks) ≡ cond deep 13 0
  depth_decides deep e = ap first (last.rows deep) ∙ one_more (picked_rows refusal_table picks) deep 13 last.numbers e

  module _ (fill : Bool → Type 0) (before after : List ℕ) where
    pub promise_refused : (n : ℕ) → (n ≡ 0 → ⊥) → n ≡ refusal picks → Promise picks fill before before (refused n)
    promise_refused zero z e = absurd (z refl)
    promise_refused (suc n) z e = record {
      deep = false;
      answer_is = answer_refused (suc n) (refusal (pick too_deep false ∷ picks)) [] z (earlier_refusal false (suc n) z e);
      left = subst (λ (r : ℕ). Left r (fill false) before before) e refl;
    }

    pub promise_kept : (deep : Bool) → 0 ≡ refusal picks → fill deep → Promise picks fill before after (answer (cond deep 13 0) [])
    promise_kept deep e f = record {
      deep = deep;
      answer_is = ap (λ (r : ℕ). answer r []) (sym (depth_decides deep e));
      left = subst (λ (r : ℕ). Left r (fill deep) before after) e f;
    }

    -- read backwards: what an answer says of the refusal met, and of the tablebase
    module _ (p : Promise picks fill before after (accepted [])) where
      none_met : refusal picks ≡ 0
      none_met = go (refusal picks) refl
        where
          go : (n : ℕ) → refusal picks ≡ n → refusal picks ≡ 0
          go zero e = e
          go (suc n) e =
              let r = (accepted_values [] [] (refusal (pick too_deep p.deep ∷ picks)) p.answer_is).0 in
              absurd (omega (arith, earlier_refusal p.deep (suc n) (λ z. omega arith) (sym e)))

      pub accepted_fill : (refusal picks ≡ 0) × fill false
      accepted_fill = (none_met, go p.deep refl)
        where
          go : (d : Bool) → p.deep ≡ d → fill false
          go true e =
              let r = (accepted_values [] [] (refusal (pick too_deep p.deep ∷ picks)) p.answer_is).0 in
              let d = depth_decides p.deep (sym none_met) ∙ ap (λ (b : Bool). cond b 13 0) e in
              absurd (omega arith)
          go false e = subst (λ (r : ℕ). Left r (fill false) before after) none_met (subst (λ (d : Bool). Left (refusal picks) (fill d) before after) e p.left)

    module _ (p : Promise picks fill before after (refused 13)) where
      not_thirteen : (rs : List Picked) → all (λ r. not (eqb r.number 13)) rs ≡ true → first rs ≡ 13 → ⊥
      not_thirteen [] h e = omega arith
      not_thirteen (r ∷ rs) h e = go r.holds refl (eqb r.number 13) refl h (λ a b. not_thirteen rs a b)
        where
          go : (t : Bool) → r.holds ≡ t → (u : Bool) → eqb r.number 13 ≡ u → all (λ x. not (eqb x.number 13)) (r ∷ rs) ≡ true
              → (all (λ x. not (eqb x.number 13)) rs ≡ true → first rs ≡ 13 → ⊥) → ⊥
          go t f true g a rest = false≢true (rw (g, all) at a)
          go true f false g a rest = eqb-false r.number 13 g (rw (f, first) at e)
          go false f false g a rest = rest (rw (g, all) at a) (rw (f, first) at e)

      deep_met : refusal (pick too_deep p.deep ∷ picks) ≡ 13
      deep_met = sym (refused_number 13 (refusal (pick too_deep p.deep ∷ picks)) [] p.answer_is).0

      no_other : refusal picks ≡ 0
      no_other = go (refusal picks) refl
        where
          go : (n : ℕ) → refusal picks ≡ n → refusal picks ≡ 0
          go zero e = e
          go (suc n) e = absurd (not_thirteen (picked_rows refusal_table picks) last.others
              (e ∙ earlier_refusal p.deep (suc n) (λ z. omega arith) (sym e) ∙ deep_met))

      pub deep_fill : (refusal picks ≡ 0) × fill true
      deep_fill = (no_other, go p.deep refl)
        where
          go : (d : Bool) → p.deep ≡ d → fill true
          go true e = subst (λ (r : ℕ). Left r (fill true) before after) no_other (subst (λ (d : Bool). Left (refusal picks) (fill d) before after) e p.left)
          go false e =
              let d = depth_decides p.deep (sym no_other) ∙ ap (λ (b : Bool). cond b 13 0) e in
              absurd (omega (arith, deep_met))

    -- where no other condition holds, the call is accepted and the tables filled, or 13
    pub either_way : (a : Answer) → refusal picks ≡ 0 → Promise picks fill before after a → ((a ≡ accepted []) × fill false) ⊎ ((a ≡ refused 13) × fill true)
    either_way a e p = go p.deep refl
      where
        fills : (d : Bool) → p.deep ≡ d → fill d
        fills d f = subst (λ (r : ℕ). Left r (fill d) before after) e (subst (λ (x : Bool). Left (refusal picks) (fill x) before after) f p.left)

        answers : (d : Bool) → p.deep ≡ d → a ≡ answer (cond d 13 0) []
        answers d f = p.answer_is ∙ ap (λ (r : ℕ). answer r []) (depth_decides p.deep (sym e) ∙ ap (λ (b : Bool). cond b 13 0) f)

        go : (d : Bool) → p.deep ≡ d → ((a ≡ accepted []) × fill false) ⊎ ((a ≡ refused 13) × fill true)
        go true f = inr (answers true f, fills true f)
        go false f = inl (answers false f, fills false f)

-- the ways out of the two calls, by what the solver says of the depth
module _ (rings edition k limit : ℕ) (before : List ℕ) where
  pub fill_refused : (n : ℕ) → (n ≡ 0 → ⊥) → n ≡ refusal (fill_picks rings edition k limit (length before))
      → FillCall rings edition k limit before before (refused n)
  fill_refused =
      promise_refused (fill_picks rings edition k limit (length before)) (fill_last rings edition k limit (length before))
      (λ deep. WholeFill (removable edition) rings k limit before before deep) before before

  pub fill_kept : (after : List ℕ) (said deep : Bool) → 0 ≡ refusal (fill_picks rings edition k limit (length before))
      → WholeFill (removable edition) rings k limit before after said
      → said ≡ deep → FillCall rings edition k limit before after (answer (cond deep 13 0) [])
  fill_kept after said deep e f d =
      promise_kept (fill_picks rings edition k limit (length before)) (fill_last rings edition k limit (length before))
      (λ x. WholeFill (removable edition) rings k limit before after x)
      before after deep e (subst (λ (x : Bool). WholeFill (removable edition) rings k limit before after x) d f)

  module _ (m o : ℕ) where
    pub pair_turned : (n : ℕ) → (n ≡ 0 → ⊥) → n ≡ refusal (pair_picks rings edition m o k limit before)
        → FillPairCall rings edition m o k limit before before (refused n)
    pair_turned =
        promise_refused (pair_picks rings edition m o k limit before) (pair_last rings edition m o k limit before)
        (λ deep. PairFill (removable edition) rings k m o limit before before deep)
        before before

    pub pair_kept : (after : List ℕ) (said deep : Bool) → 0 ≡ refusal (pair_picks rings edition m o k limit before)
        → PairFill (removable edition) rings k m o limit before after said
        → said ≡ deep → FillPairCall rings edition m o k limit before after (answer (cond deep 13 0) [])
    pair_kept after said deep e f d =
        promise_kept (pair_picks rings edition m o k limit before) (pair_last rings edition m o k limit before)
        (λ x. PairFill (removable edition) rings k m o limit before after x)
        before after deep e (subst (λ (x : Bool). PairFill (removable edition) rings k m o limit before after x) d f)
