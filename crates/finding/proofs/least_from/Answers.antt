-- `finding::least_from` meets its contract. The invariant: the least among the entries passed, by its difference from `low`. Assumes nothing.
use Rattle.std.proofs.Common.{◌≡◌, ℕ, ◌+◌, ◌-◌, ◌≤◌, [], ◌∷◌, sym, ap, ◌∙◌, arith, rules}
use Rattle.std.proofs.lemmas.Grind.{common_steps}
use Rattle.game.specs.Game.{void_entry}
use Rattle.finding.specs.Inner.Finding.{nearer}
use Rattle.finding.proofs.LeastDepth.{least_none, least_more, least_most}
use Rattle.finding.proofs.least_from.Goals as goal
use Rattle.finding.proofs.least_from.Goals.{At-loop-e}

sum_is : (low : ℕ) → low ≤ void_entry → low + (void_entry - low) ≡ void_entry
sum_is low h = omega arith

-- the least so far is void at most
most : (c : At-loop-e) → c.args.low + c.loop-e.above ≤ void_entry
most c = omega (arith, c.loop-e.invariant.2, least_most c.args.low c.loop-e.invariant.0)

pub loop-e-init : goal.loop-e-init
loop-e-init c = ([], search rules, sum_is c.args.low c.requires ∙ sym (least_none c.args.low))

pub nearer-above-requires : goal.nearer-above-requires
nearer-above-requires c = most (goal.at.nearer-above-requires c).At-loop-e

pub loop-e-preserved : goal.loop-e-preserved
loop-e-preserved c =
    let p = c.loop-e.invariant.0 in
    let x = c.in-Some.e.now in (
      x ∷ p,
      grind (arith, common_steps),
      c.nearer-above.ensures ∙ ap (λ (l : ℕ). nearer l x c.args.low) c.loop-e.invariant.2 ∙ sym (least_more c.args.low x p),
    )

pub overflow_add-result : goal.overflow_add-result
overflow_add-result c = omega (arith, most (goal.at.overflow_add-result c).At-loop-e)
