-- `masks::mills_placed` meets its contract. The invariant: the mills passed stand at their points. Assumes nothing.
use mathlib.Core.Path.{◌≡◌, refl, ap, ◌∙◌}
use Prim.Native.Nat.{ℕ, suc, ◌+◌}
use native.Mathlib.Omega.{arith}
use lib.ListN.{replicate}
use Rattle.masks.specs.Inner.Placing.{mill_placed, mills_placed}
use Rattle.masks.proofs.mills_placed.Goals as goal

pub loop-i-init : goal.loop-i-init
unfolding mills_placed
loop-i-init c = refl

pub loop-i-preserved : goal.loop-i-preserved
unfolding mills_placed
loop-i-preserved c =
    let i : ℕ = c.loop-i.i in
    let e : suc i ≡ i + 1 = omega arith in
    c.place_mill.ensures ∙ ap (mill_placed i) c.loop-i.invariant ∙ ap (λ (n : ℕ). mills_placed n (replicate {A = ℕ} 72 0)) e
