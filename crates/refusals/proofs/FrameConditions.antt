-- The refusals of the frame calls: what an accepted frame has, and the last place of each call, which decides where the places before it are
-- passed. Assumes nothing.
use mathlib.Core.Path.{◌≡◌, refl, sym, ap, ap₂, ◌∙◌}
use mathlib.Core.Bool.{Bool, true, false, cond}
use mathlib.Core.List.{List, [], ◌∷◌}
use Prim.Native.Nat.{ℕ, ◌*◌, ◌≤◌}
use native.Mathlib.Omega.{arith}
use lib.Dec.{eqb}
use lib.ListN.{length}
use borrow.Author.Tests.{eqb-true, not-false}
use Rattle.sets.specs.Sets.{members}
use Rattle.board.specs.Board.{Values, set_of, count}
use Rattle.board.proofs.Sides.{members_count}
use Rattle.frames.specs.Frame.{frame_wrong, frame_length, rings_in, board_in}
use Rattle.frames.proofs.Characters.{board_length, no_three, three_none}
use Rattle.refusals.specs.Refusals.{refusal_table, picked_rows, refusal}
use Rattle.refusals.specs.Conditions.{value_wrong, counts_wrong, board_picks, frame_picks, read_picks}
use Rattle.refusals.proofs.FirstRefusal.{meets, passes, passed, first_kept, one_more}
use Rattle.refusals.proofs.Conditions.{rings_right, values_right, length_fine, values_fine}

-- a value above 2 in two bits is a 3
pub three_wrong : (f : List ℕ) → (set_of 3 (board_in f) ≡ 0 → ⊥) → value_wrong (board_in f) ≡ true
three_wrong f n = go (value_wrong (board_in f)) refl
  where
    go : (t : Bool) → value_wrong (board_in f) ≡ t → value_wrong (board_in f) ≡ true
    go true e = e
    go false e = absurd (n (no_three (board_in f) (values_right (board_in f) e)))

pub three_right : (f : List ℕ) → set_of 3 (board_in f) ≡ 0 → value_wrong (board_in f) ≡ false
three_right f e = values_fine (board_in f) (three_none f e)

-- a frame that meets none of the first four places
pub record AcceptedFrame (f : List ℕ) : Type 0 where
  pub characters : frame_wrong f ≡ false
  pub rings_low : 1 ≤ rings_in f
  pub rings_high : rings_in f ≤ 3
  pub frame_points : length f ≡ frame_length (rings_in f)
  pub points : length (board_in f) ≡ 8 * rings_in f
  pub values : Values (board_in f)

pub accepted_frame : (f : List ℕ) → refusal (frame_picks f) ≡ 0 → AcceptedFrame f
accepted_frame f e =
    let p = passed (picked_rows refusal_table (frame_picks f)) refl e in
    let r = rings_right (rings_in f) p.1.0 in
    let n = frame_length (rings_in f) in
    let l : length f ≡ frame_length (rings_in f) = eqb-true (length f) n (not-false (eqb (length f) n) p.1.1.0) in
    record {
      characters = p.0;
      rings_low = r.0;
      rings_high = r.1;
      frame_points = l;
      points = omega (arith, board_length f p.0);
      values = values_right (board_in f) p.1.1.1.0;
    }

-- wrong characters come first
pub characters_refused : (f : List ℕ) → frame_wrong f ≡ true → 14 ≡ refusal (read_picks f)
characters_refused f e = meets (picked_rows refusal_table (read_picks f)) 0 tt e

-- the stones of a frame are counted last
abbrev pub stones_wrong : List ℕ → Bool
stones_wrong f = counts_wrong (8 * rings_in f) (count 1 (board_in f)) (count 2 (board_in f))

-- and are the members of its sets
pub stones_are : (f : List ℕ) → AcceptedFrame f → (rings m o : ℕ) → rings ∷ m ∷ o ∷ [] ≡ rings_in f ∷ set_of 1 (board_in f) ∷ set_of 2 (board_in f) ∷ []
    → counts_wrong (8 * rings) (members m 32) (members o 32) ≡ stones_wrong f
stones_are f w rings m o e =
    let l : length (board_in f) ≤ 24 = omega (arith, w.points, w.rings_high) in
    let r : rings ≡ rings_in f = cc in
    let p : m ≡ set_of 1 (board_in f) = cc in
    let q : o ≡ set_of 2 (board_in f) = cc in
    ap₂ (λ (x y : ℕ). counts_wrong (8 * rings) x y) (ap (λ (s : ℕ). members s 32) p ∙ members_count 1 (board_in f) l)
    (ap (λ (s : ℕ). members s 32) q ∙ members_count 2 (board_in f) l)
    ∙ ap (λ (k : ℕ). counts_wrong (8 * k) (count 1 (board_in f)) (count 2 (board_in f))) r

pub frame_refused : (f : List ℕ) (n : ℕ) → (n ≡ 0 → ⊥) → n ≡ refusal (frame_picks f) → n ≡ refusal (read_picks f)
frame_refused f n z e = first_kept (picked_rows refusal_table (frame_picks f)) (record { holds = stones_wrong f; number = 4 } ∷ []) n z e

pub stones_decide : (f : List ℕ) → 0 ≡ refusal (frame_picks f) → refusal (read_picks f) ≡ cond (stones_wrong f) 4 0
stones_decide f e = one_more (picked_rows refusal_table (frame_picks f)) (stones_wrong f) 4 refl e

-- the board of an accepted frame is an accepted board
pub board_accepted : (f : List ℕ) → refusal (read_picks f) ≡ 0 → refusal (board_picks (rings_in f) (board_in f)) ≡ 0
board_accepted f e =
    let p = passed (picked_rows refusal_table (read_picks f)) refl e in
    let w = accepted_frame f (sym (passes (picked_rows refusal_table (frame_picks f)) (p.0, (p.1.0, (p.1.1.0, (p.1.1.1.0, tt)))))) in
    sym (passes (picked_rows refusal_table (board_picks (rings_in f) (board_in f)))
    (p.1.0, (length_fine (rings_in f) (length (board_in f)) w.points, (p.1.1.1.0, (p.1.1.1.1.0, tt)))))
