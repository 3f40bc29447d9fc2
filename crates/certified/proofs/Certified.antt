-- What `check` certifies under the edition of the call: a tablebase that passes is the one tablebase of true outcomes, whoever made it; that tablebase
-- always passes, and so does what an accepted fill leaves; and an index that is given is that of the first entry that is not right. Assumes nothing.
use mathlib.Core.Path.{◌≡◌, refl, sym, subst}
use mathlib.Core.Bool.{Bool, true, false}
use mathlib.Core.List.{List, [], ◌∷◌}
use mathlib.Core.Logic.{◌⊎◌, inl, inr}
use Prim.Native.Nat.{ℕ, ◌+◌, ◌*◌, ◌<◌}
use native.Mathlib.Omega.{arith}
use lib.ListN.{length, get_or}
use Rattle.lists.specs.Lists.{all}
use Rattle.sizes.specs.Size.{size}
use Rattle.ranking.specs.Unrank.{unrank}
use Rattle.layout.specs.Layout.{start}
use Rattle.rules.specs.Ply.{removable, successors}
use Rattle.rules.proofs.Listed.{removable_takes}
use Rattle.game.specs.Game.{draw_entry, void_entry, Draw, ForcedIn}
use Rattle.game.proofs.Entries.{entry_forced, forced_entry, entry_draw, draw_entry_lem}
use Rattle.outcomes.specs.Whole.{whole_seed}
use Rattle.outcomes.specs.Filled.{AllTables}
use Rattle.outcomes.specs.Order.{TrueEntries}
use Rattle.outcomes.proofs.Unique.{entries_one}
use Rattle.certificate.specs.Certificate.{boards, entry_right, certificate}
use Rattle.certificate.proofs.Verdict.{passed_verdict, failed_verdict, verdict_passed}
use Rattle.certificate.proofs.Outcomes.{passed_true, true_passed}
use Rattle.certificate.proofs.Places.{FailsFirst, fails_first}
use Rattle.answers.specs.Answers.{Answer, accepted}
use Rattle.refusals.specs.Refusals.{refusal}
use Rattle.refusals.specs.Conditions.{fill_picks, check_picks}
use Rattle.refusals.proofs.TablebaseConditions.{AcceptedCheck, accepted_check, fill_check}
use Rattle.fill_calls.specs.Fills.{FillCall}
use Rattle.check_calls.specs.CheckCall.{check_call}
use Rattle.check_calls.proofs.Answered.{check_answers, check_answered}
use Rattle.fill_calls.proofs.Promised as promised

-- "passes it or gives the first index that fails", as the call answers it
abbrev pub passed : Answer
passed = accepted (1 ∷ 0 ∷ [])

abbrev pub fails_at : ℕ → Answer
fails_at i = accepted (0 ∷ i ∷ [])

module _ (rings edition k : ℕ) (tablebase : List ℕ) where
  abbrev test : List ℕ → Bool
  test b = entry_right (removable edition) rings k tablebase b

  -- an accepted check answers the verdict, and was not turned back
  verdict_is : (values : List ℕ) → check_call rings edition k tablebase ≡ accepted values
      → AcceptedCheck rings edition k (length tablebase) × (certificate (removable edition) rings k tablebase ≡ values)
  verdict_is values e =
      let (z, v) = check_answered rings edition k tablebase values (sym e) in
      (accepted_check rings edition k (length tablebase) z, v)

  answer_is : refusal (check_picks rings edition k (length tablebase)) ≡ 0 → (values : List ℕ)
      → certificate (removable edition) rings k tablebase ≡ values → check_call rings edition k tablebase ≡ accepted values
  answer_is z values e = sym (check_answers rings edition k tablebase (sym z) values e)

  -- what no refusal turns back is passed, or fails at some index
  pub passed_or_fails : refusal (check_picks rings edition k (length tablebase)) ≡ 0
      → (check_call rings edition k tablebase ≡ passed) ⊎ ((i : ℕ) × (check_call rings edition k tablebase ≡ fails_at i))
  passed_or_fails z = go (all test (boards (8 * rings) k)) refl
    where
      go : (b : Bool) → all test (boards (8 * rings) k) ≡ b
          → (check_call rings edition k tablebase ≡ passed) ⊎ ((i : ℕ) × (check_call rings edition k tablebase ≡ fails_at i))
      go true e = inl (answer_is z (1 ∷ 0 ∷ []) (passed_verdict (removable edition) rings k tablebase e))
      go false e = inr (_, answer_is z _ (failed_verdict (removable edition) rings k tablebase e))

  -- an index that is given is the place of an entry that is not right, and every entry before it is right
  pub fails_at_first : (i : ℕ) → check_call rings edition k tablebase ≡ fails_at i → FailsFirst (removable edition) rings k tablebase i
  fails_at_first i e =
      let (w, v) = verdict_is (0 ∷ i ∷ []) e in
      fails_first (removable edition) rings k tablebase i w.tablebase.largest_low v

  -- document 02, A8: "A passed shelf is the one shelf of true outcomes, whoever made it"
  module _ (e : check_call rings edition k tablebase ≡ passed) where
    accepted_tablebase : AcceptedCheck rings edition k (length tablebase)
    accepted_tablebase = (verdict_is (1 ∷ 0 ∷ []) e).0

    pub passed_entries : TrueEntries (removable edition) rings k (AllTables rings k) tablebase
    passed_entries =
        let (w, v) = verdict_is (1 ∷ 0 ∷ []) e in
        passed_true (removable edition) (removable_takes edition) rings k w.tablebase.rings_high tablebase
        (verdict_passed (removable edition) rings k tablebase v)

    -- at each place the entry is n exactly when one side can force a win within n plies and within no fewer, and draw exactly when neither ever can
    module _ (m o r : ℕ) (t : AllTables rings k m o) (h : r < size (8 * rings) m o) where
      abbrev entry : ℕ
      entry = get_or tablebase (start (8 * rings) k m o + r) 0

      abbrev position : List ℕ
      position = unrank (8 * rings) m o r

      pub passed_exact : (n : ℕ) → n < void_entry
          → (entry ≡ n → ForcedIn (successors (removable edition) rings) (λ b. whole_seed b) n position)
          × (ForcedIn (successors (removable edition) rings) (λ b. whole_seed b) n position → entry ≡ n)
      passed_exact n l =
          let a = passed_entries m o r t h in (
            λ v. subst (λ (i : ℕ). ForcedIn (successors (removable edition) rings) (λ b. whole_seed b) i position) v
                (entry_forced (successors (removable edition) rings) (λ b. whole_seed b) position a (omega (arith, v, l))),
            λ w. forced_entry (successors (removable edition) rings) (λ b. whole_seed b) position a n w,
          )

      pub passed_draw : (entry ≡ draw_entry → Draw (successors (removable edition) rings) (λ b. whole_seed b) position)
          × (Draw (successors (removable edition) rings) (λ b. whole_seed b) position → entry ≡ draw_entry)
      passed_draw =
          let a = passed_entries m o r t h in (
            λ v. entry_draw (successors (removable edition) rings) (λ b. whole_seed b) position a v,
            λ w. draw_entry_lem (successors (removable edition) rings) (λ b. whole_seed b) position a w,
          )

  -- document 02, A8: "the shelf of true outcomes always passes"
  pub true_passes : refusal (check_picks rings edition k (length tablebase)) ≡ 0 → TrueEntries (removable edition) rings k (AllTables rings k) tablebase
      → check_call rings edition k tablebase ≡ passed
  true_passes z entries =
      let w = accepted_check rings edition k (length tablebase) z in
      answer_is z (1 ∷ 0 ∷ []) (passed_verdict (removable edition) rings k tablebase
      (true_passed (removable edition) (removable_takes edition) rings k w.tablebase.rings_high tablebase entries))

-- two that pass are equal
pub passed_one : (rings edition k : ℕ) (a b : List ℕ) → check_call rings edition k a ≡ passed → check_call rings edition k b ≡ passed → a ≡ b
passed_one rings edition k a b e f =
    entries_one (removable edition) rings k (λ c. whole_seed c) a b (accepted_tablebase rings edition k a e).tablebase.exact
    (accepted_tablebase rings edition k b f).tablebase.exact (passed_entries rings edition k a e) (passed_entries rings edition k b f)

module _ (rings edition k limit : ℕ) (before after : List ℕ) (p : FillCall rings edition k limit before after (accepted [])) where
  -- what an accepted fill leaves passes,
  pub fill_passes : check_call rings edition k after ≡ passed
  fill_passes =
      let (z, f) = promised.accepted_fill (fill_picks rings edition k limit (length before)) (promised.fill_last rings edition k limit (length before)) _
      before after p in
      true_passes rings edition k after
      (subst (λ (n : ℕ). refusal (check_picks rings edition k n) ≡ 0) (sym f.kept.same_length) (fill_check rings edition k limit (length before) z))
      f.entries

  -- and is the tablebase that passes
  pub passed_fill : (tablebase : List ℕ) → check_call rings edition k tablebase ≡ passed → tablebase ≡ after
  passed_fill tablebase e = passed_one rings edition k tablebase after e fill_passes
