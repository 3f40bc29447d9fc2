-- `text::put` meets its contract: the loop stores one byte after the other. Assumes nothing.
use mathlib.Core.Path.{◌≡◌, refl, ap, ◌∙◌}
use Prim.Native.Nat.{ℕ, ◌+◌}
use native.Mathlib.Nat.{add-zero}
use native.Mathlib.Omega.{arith}
use lib.ListN.{length, length-set}
use lib.Seq.{sets, drop-length}
use Rattle.text.proofs.Items.{sets_step}
use Rattle.text.proofs.put.Goals as goal

pub loop-i-init : goal.loop-i-init
loop-i-init c =
    (refl, ap (λ (k : ℕ). sets c.args.out.now k c.args.bytes.now) (add-zero c.args.at))

pub loop-i-preserved : goal.loop-i-preserved
loop-i-preserved c = (
  length-set c.loop-i.out (c.args.at + c.loop-i.i) _ ∙ c.loop-i.invariant.0,
  sets_step c.loop-i.out c.args.bytes.now c.args.at c.loop-i.i c.loop-i-test.true ∙ c.loop-i.invariant.1,
)

pub shape_of-out : goal.shape_of-out
shape_of-out c = c.loop-i.invariant.0

pub returns : goal.returns
returns c =
    let e : c.loop-i.i ≡ length c.args.bytes.now = omega arith in record { place = omega arith; buffer = rw (e, drop-length c.args.bytes.now) at c.loop-i.invariant.1 }
