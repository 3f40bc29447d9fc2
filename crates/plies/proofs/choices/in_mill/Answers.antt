-- `plies::choices::in_mill` meets its contract: one of the two mills through the point is full. Assumes nothing.
use mathlib.Core.Path.{ap, ap₂, ◌∙◌}
use mathlib.Core.Bool.{◌||◌}
use Prim.Native.Nat.{ℕ}
use lib.Dec.{eqb}
use Rattle.sets.specs.Sets.{shared}
use Rattle.plies.proofs.FullMills.{in_mill_is}
use borrow.Author.Rules.{rules}
use Rattle.plies.proofs.choices.in_mill.Goals as goal

pub returns : goal.returns
returns c =
    let a = c.args in
    ap₂ ◌||◌ (c.share_three.ensures ∙ ap (λ (m : ℕ). eqb (shared a.s m) 3) c.mill.ensures)
    (c.share_three-2.ensures ∙ ap (λ (m : ℕ). eqb (shared a.s m) 3) c.mill-2.ensures)
    ∙ in_mill_is a.rings a.s a.p c.requires.masks.small c.ranges.s.fits c.requires.p_bound
