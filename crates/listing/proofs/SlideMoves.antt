-- The captures and the others among the moves of a slide, from the set of what a rule lets it remove: the set without point 31, and that point alone.
-- Assumes nothing.
use mathlib.Core.Path.{◌≡◌, sym, ap, ◌∙◌}
use mathlib.Core.Bool.{Bool, not}
use mathlib.Core.List.{List, map}
use Prim.Native.Nat.{ℕ, ◌-◌, ◌≤◌}
use native.Mathlib.Omega.{arith}
use mir.Val.{bool_byte}
use lib.Dec.{eqb}
use lib.ListN.{length, length-map}
use Rattle.lists.specs.Lists.{keep}
use Rattle.sets.specs.Sets.{has, without, members, elements, set_from}
use Rattle.sets.proofs.Elements.{length_elements}
use Rattle.sets.proofs.OnePoint.{elements_without, elements_only, has_digit, length_only}
use Rattle.rules.specs.Ply.{Rule, slide, no_removal, removals, move_number, slide_moves}
use Rattle.rules.specs.MoveList.{captures, others}
use Rattle.rules.proofs.CapturesFirst.{captures_slide, others_slide}
use Rattle.rules.proofs.Listed.{TakesOpponent}
use Rattle.rules.proofs.Rises.{RisingRule}
use Rattle.plies.proofs.StoneMoves.{elements_removals}

module _ (rule : Rule) (takes : TakesOpponent rule) (rises : RisingRule rule) (rings : ℕ) (small : rings ≤ 3) (b : List ℕ) (from to s : ℕ)
    (taken : s ≡ set_from (removals rule rings (slide b from to) to)) where
  removed : elements 32 s ≡ removals rule rings (slide b from to) to
  removed = ap (elements 32) taken ∙ elements_removals rule takes rises rings small (slide b from to) to

  pub captures_from : map (λ p. move_number from to p) (elements 32 (without s no_removal)) ≡ captures (slide_moves rule rings b from to)
  captures_from =
      ap (map (λ p. move_number from to p)) (elements_without 32 s no_removal ∙ ap (keep (λ r. not (eqb r no_removal))) removed)
      ∙ sym (captures_slide rule takes rings small rises b from to)

  pub others_from : map (λ p. move_number from to p) (elements 32 (s - without s no_removal)) ≡ others (slide_moves rule rings b from to)
  others_from =
      ap (map (λ p. move_number from to p)) (elements_only 32 s no_removal ∙ ap (keep (λ r. eqb r no_removal)) removed)
      ∙ sym (others_slide rule takes rings small rises b from to)

  -- how many they are
  pub captures_count : members (without s no_removal) 32 ≡ length (captures (slide_moves rule rings b from to))
  captures_count =
      sym (length_elements 32 (without s no_removal))
      ∙ sym (length-map (elements 32 (without s no_removal)) (λ p. move_number from to p)) ∙ ap length captures_from

  pub others_count : (t : Bool) → t ≡ has s no_removal → bool_byte t ≡ length (others (slide_moves rule rings b from to))
  others_count t e =
      has_digit s no_removal t e ∙ sym (length_only 32 s no_removal (omega arith))
      ∙ sym (length-map (elements 32 (s - without s no_removal)) (λ p. move_number from to p)) ∙ ap length others_from
