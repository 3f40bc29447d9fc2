-- `board::set_of` meets its contract. The invariant: the set of the bytes passed, from the highest point down. Assumes nothing.
use Rattle.std.proofs.Common.{◌∷◌, [], List, ℕ, ◌^◌, ◌<◌, ◌≤◌, length, arith, sym, ap, subst, refl, rules, eqb}
use Rattle.std.proofs.lemmas.List.{length-append}
use Rattle.std.proofs.lemmas.Grind.{common_steps}
use Rattle.board.specs.Board.{set_of}
use Rattle.board.proofs.Sides.{set_small, digit_lt}
use Rattle.board.proofs.set_of.Goals as goal
use Rattle.board.proofs.set_of.Goals.{At-loop-x}

-- the set at the loop's head is below 2 ^ 24
small : (c : At-loop-x) → c.loop-x.s < 2 ^ 24
small c =
    let p : List ℕ = c.loop-x.invariant.0 in
    let h : length p ≤ 24 = omega (arith, c.requires, ap length c.loop-x.invariant.1, length-append {A = ℕ}) in
    subst (λ (s : ℕ). s < 2 ^ 24) (sym c.loop-x.invariant.2) (set_small c.args.v 0 p h)

pub loop-x-init : goal.loop-x-init
unfolding set_of
loop-x-init c = ([], search rules, refl)

pub overflow_mul-s : goal.overflow_mul-s
overflow_mul-s c = omega (arith, small (goal.at.overflow_mul-s c).At-loop-x)

pub overflow_add-s : goal.overflow_add-s
overflow_add-s c =
    omega (arith, small (goal.at.overflow_add-s c).At-loop-x, digit_lt (eqb c.in-Some.x.now c.args.v))

pub loop-x-preserved : goal.loop-x-preserved
unfolding set_of
loop-x-preserved c = (c.in-Some.x.now ∷ c.loop-x.invariant.0, grind (arith, common_steps), omega (arith, c.loop-x.invariant.2))
