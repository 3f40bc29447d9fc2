-- The moves of a slide can be made, by what a rule of removal that names opposing stones lets them remove. Assumes nothing.
use mathlib.Core.Path.{◌≡◌, sym, ap, subst, ◌∙◌}
use Prim.Native.Nat.{ℕ, ◌+◌, ◌*◌, ◌<◌}
use native.Mathlib.Omega.{arith}
use Rattle.sets.specs.Sets.{bit, set_from}
use Rattle.board.specs.declared.Position.{Position}
use Rattle.board.specs.Board.{board_of}
use Rattle.rules.specs.Ply.{Rule, destinations, slide, removals, move_number}
use Rattle.rules.specs.Inner.Making.{Makeable}
use Rattle.rules.proofs.Listed.{TakesOpponent}
use Rattle.plies.specs.Inner.Positions.{Placed}
use Rattle.making.proofs.Numbers.{number_listed, number_makeable}
use Rattle.asking.specs.Inner.Questions.{Removing}

-- the moves of a slide by their removals, where the slide has its number
pub removing : (rule : Rule) → TakesOpponent rule → (rings : ℕ) (position : Position) → Placed rings position → (from to : ℕ)
    → bit position.mover from ≡ 1 → bit (set_from (destinations rings (board_of (8 * rings) position) from)) to ≡ 1 → (from < 24) × (to < 24)
    → (taken : ℕ) → taken ≡ set_from (removals rule rings (slide (board_of (8 * rings) position) from to) to)
    → (n : ℕ) → n ≡ 1024 * from + 32 * to → Removing rings position n taken
removing rule takes rings position placed from to own destination low taken e n d = record {
  small = omega (arith, low, d);
  makeable = λ r b. subst (λ (k : ℕ). Makeable rings (board_of (8 * rings) position) (k + r)) (sym d)
      (number_makeable rule takes rings position placed (move_number from to r)
      (number_listed rule rings position placed from to r own destination (sym (ap (λ (x : ℕ). bit x r) e) ∙ b)));
}
