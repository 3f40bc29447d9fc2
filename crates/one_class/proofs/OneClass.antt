-- What the call `representative` says of classes: boards of one class have one answer, boards of equal counts with one answer are of one class, and
-- the answer is the rank of the representative, which is its own representative. Assumes nothing.
use mathlib.Core.Path.{◌≡◌, sym, ap, ◌∙◌}
use mathlib.Core.List.{List, [], ◌∷◌}
use Prim.Native.Nat.{ℕ, ◌<◌}
use Rattle.board.specs.Board.{count}
use Rattle.ranking.specs.Rank.{rank}
use Rattle.symmetry.specs.Symmetries.{symmetries, image}
use Rattle.symmetry.specs.Representative.{SameClass, representative}
use Rattle.symmetry.proofs.Images.{image_length, image_values}
use Rattle.symmetry.proofs.Compose.{image_count}
use Rattle.symmetry.proofs.Classes.{representative_image, representative_rank, representative_one, representative_again, same_representative}
use Rattle.refusals.specs.Refusals.{refusal}
use Rattle.refusals.specs.Conditions.{board_picks, value_wrong}
use Rattle.answers.specs.Answers.{accepted, answer, number, value}
use Rattle.rank_calls.specs.RankCall.{rank_call}
use Rattle.class_calls.specs.RepresentativeCall.{representative_call}
use Rattle.refusals.proofs.Conditions.{Accepted, accepted_board, values_fine}
use Rattle.answers.proofs.Answering.{number_none}

module _ (rings : ℕ) (b : List ℕ) (e : number (representative_call rings b) ≡ 0) where
  none : refusal (board_picks rings b) ≡ 0
  unfolding representative_call
  none = number_none (refusal (board_picks rings b)) _ e

  accepted_b : Accepted rings b
  accepted_b = accepted_board rings b none

  -- the answer to an accepted board
  pub answer_is : representative_call rings b ≡ accepted (rank (representative rings b) ∷ [])
  unfolding representative_call
  answer_is = ap (λ (n : ℕ). answer n (rank (representative rings b) ∷ [])) none

  -- an image meets the conditions that its board meets
  picks_image : (g : ℕ) → g < symmetries → board_picks rings (image rings g b) ≡ board_picks rings b
  picks_image g h =
      let w = accepted_b in
      let v : value_wrong (image rings g b) ≡ value_wrong b =
      values_fine (image rings g b) (image_values rings g b w.values) ∙ sym (values_fine b w.values) in
      rw (
        v,
        image_length rings g b,
        image_count rings w.rings_high b w.points g 1 h,
        image_count rings w.rings_high b w.points g 2 h,
      )

  picks_class : (c : List ℕ) → SameClass rings b c → refusal (board_picks rings c) ≡ 0
  picks_class c s = ap (λ (x : List ℕ). refusal (board_picks rings x)) (sym s.2) ∙ ap refusal (picks_image s.0 s.1) ∙ none

  -- two boards of one class have the same answer
  pub class_answer : (c : List ℕ) → SameClass rings b c → representative_call rings c ≡ representative_call rings b
  unfolding representative_call
  class_answer c s =
      let w = accepted_b in
      ap (λ (n : ℕ). answer n (rank (representative rings c) ∷ [])) (picks_class c s)
      ∙ ap (λ (r : ℕ). accepted (r ∷ [])) (sym (representative_rank rings w.rings_high b c w.points s)) ∙ sym answer_is

  -- it is the rank that `rank` answers for the representative
  pub representative_ranked : rank_call rings (representative rings b) ≡ representative_call rings b
  unfolding rank_call
  representative_ranked =
      let w = accepted_b in
      ap (λ (n : ℕ). answer n (rank (representative rings b) ∷ []))
      (picks_class (representative rings b) (representative_image rings w.rings_high b w.points)) ∙ sym answer_is

  -- and a representative is its own representative
  pub representative_own : representative rings (representative rings b) ≡ representative rings b
  representative_own = let w = accepted_b in representative_again rings w.rings_high b w.points w.values

-- boards of equal counts that have the same answer are of one class
pub answer_class : (rings : ℕ) (b c : List ℕ) → number (representative_call rings b) ≡ 0 → number (representative_call rings c) ≡ 0
    → count 1 b ≡ count 1 c → count 2 b ≡ count 2 c → representative_call rings b ≡ representative_call rings c → SameClass rings b c
answer_class rings b c e f one two s =
    let v = accepted_b rings b e in
    let w = accepted_b rings c f in
    let r : rank (representative rings b) ≡ rank (representative rings c) =
    ap (λ a. value a 0) (sym (answer_is rings b e) ∙ s ∙ answer_is rings c f) in
    same_representative rings v.rings_high b c v.points w.points
    (representative_one rings v.rings_high b c v.points w.points v.values w.values one two r)
