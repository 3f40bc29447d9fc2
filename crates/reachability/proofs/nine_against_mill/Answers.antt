-- `reachability::nine_against_mill` meets its contract: the count decides, then the mills. Assumes nothing.
use mathlib.Core.Path.{◌≡◌, sym, ap, ◌∙◌}
use mathlib.Core.Bool.{Bool, ◌&&◌}
use Prim.Native.Nat.{ℕ}
use lib.Dec.{eqb}
use borrow.Author.Tests.{eq-eqb, ne_eqb}
use Rattle.sets.specs.Sets.{has, members}
use Rattle.rules.specs.Unreachable.{has_mill}
use Rattle.reachability.proofs.nine_against_mill.Goals as goal
use Rattle.reachability.proofs.nine_against_mill.Goals.{After-count}

-- what the count says of nine stones
counted : (c : After-count) (t : Bool) → eqb c.count.result 9 ≡ t
    → (t && has_mill 3 (λ q. has c.args.other q))
    ≡ (eqb (members c.args.side 32) 9 && has_mill 3 (λ q. has c.args.other q))
counted c t e = ap (λ (u : Bool). u && has_mill 3 (λ q. has c.args.other q)) (sym e ∙ ap (λ (n : ℕ). eqb n 9) c.count.ensures)

pub returns-then-count-ne-ALL_STONES : goal.returns-then-count-ne-ALL_STONES
returns-then-count-ne-ALL_STONES c =
    counted (goal.at.returns-then-count-ne-ALL_STONES c).After-count _ (ne_eqb _ _ c.if-count-ne-ALL_STONES.true)

pub returns : goal.returns
returns c =
    c.has_mill.ensures ∙ counted (goal.at.returns c).After-count _ (eq-eqb _ _ c.if-count-ne-ALL_STONES.false)
