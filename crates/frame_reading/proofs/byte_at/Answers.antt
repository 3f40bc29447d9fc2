-- `frame_reading::byte_at` meets its contract: both characters have a value. Assumes nothing.
use mathlib.Core.Path.{ap₂}
use Prim.Native.Nat.{ℕ, ◌+◌, ◌*◌}
use native.Mathlib.Omega.{arith}
use Rattle.frames.specs.Frame.{byte_of}
use Rattle.frame_reading.proofs.Sets.{inside_at_lem}
use Rattle.frame_reading.proofs.byte_at.Goals as goal

pub value_of-requires : goal.value_of-requires
value_of-requires c = inside_at_lem c.args.frame.now c.requires.1 c.args.i (omega arith)

pub value_of-requires-2 : goal.value_of-requires-2
value_of-requires-2 c = inside_at_lem c.args.frame.now c.requires.1 (c.args.i + 1) (omega arith)

pub returns : goal.returns
unfolding byte_of
returns c = ap₂ (λ (a b : ℕ). 16 * a + b) c.value_of.ensures.0 c.value_of-2.ensures.0
