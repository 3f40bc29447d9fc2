-- `reachability::has_mill` meets its contract: a full mill is found, or all sixteen are passed. Assumes nothing.
use mathlib.Core.Path.{◌≡◌, sym, ap, subst, ◌∙◌}
use mathlib.Core.List.{[]}
use Prim.Native.Nat.{ℕ, suc, ◌+◌}
use native.Mathlib.Omega.{arith}
use lib.Dec.{eqb}
use lib.ListN.{get_or}
use Rattle.sets.specs.Sets.{shared}
use Rattle.geometry.specs.Geometry.{mills}
use Rattle.plies.proofs.FullMills.{full}
use Rattle.reachability.proofs.MillsLeft.{MillsLeft, mills_all, mills_none, mill_found, mill_passed}
use Rattle.reachability.proofs.has_mill.Goals as goal
use Rattle.reachability.proofs.has_mill.Goals.{After-share_three}

looked : (c : After-share_three)
    → c.share_three.result ≡ full c.args.stones (get_or (mills 3) c.loop-i.i [])
looked c = c.share_three.ensures ∙ ap (λ (m : ℕ). eqb (shared c.args.stones m) 3) c.mill_set.ensures

pub loop-i-init : goal.loop-i-init
loop-i-init c = mills_all c.args.stones

pub returns-then-share_three : goal.returns-then-share_three
returns-then-share_three c =
    mill_found c.args.stones c.ranges.stones.fits c.loop-i.i (omega (arith, c.loop-i-test.true)) c.loop-i.invariant
    (sym (looked (goal.at.returns-then-share_three c).After-share_three) ∙ c.if-share_three.true)

pub loop-i-preserved : goal.loop-i-preserved
loop-i-preserved c =
    let i = c.loop-i.i in
    let e : suc i ≡ i + 1 = omega arith in
    subst (MillsLeft c.args.stones) e
    (mill_passed c.args.stones c.ranges.stones.fits i (omega (arith, c.loop-i-test.true)) c.loop-i.invariant (sym (looked (goal.at.loop-i-preserved c).After-share_three) ∙ c.if-share_three.false))

pub returns : goal.returns
returns c =
    mills_none c.args.stones c.loop-i.i (omega (arith, c.loop-i-test.false)) c.loop-i.invariant
