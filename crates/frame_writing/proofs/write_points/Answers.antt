-- `frame_writing::write_points` meets its contract. The invariant: what is left to be written makes of the target what it is to be.
-- Assumes nothing.
use mathlib.Core.Path.{◌≡◌, ap, ◌∙◌}
use mathlib.Core.List.{List}
use Prim.Native.Nat.{ℕ, ◌+◌, ◌*◌}
use native.Mathlib.Omega.{arith}
use lib.ListN.{length, drop}
use lib.Seq.{drop-length, sets}
use Rattle.frames.specs.Frame.{packed, spelled}
use Rattle.frame_writing.proofs.Stored.{stored_step}
use Rattle.frame_writing.proofs.write_points.Goals as goal

pub loop-k-preserved : goal.loop-k-preserved
loop-k-preserved c =
    let b = c.args.board.now in
    let k = c.loop-k.k in
    ap (λ (l : List ℕ). sets l (2 + 2 * (k + 1)) (spelled (packed (drop (4 * (k + 1)) b)))) c.write_byte.ensures
    ∙ stored_step c.loop-k.target b k _ (omega arith) c.byte_from.ensures ∙ c.loop-k.invariant

pub returns : goal.returns
unfolding packed spelled
returns c =
    let b = c.args.board.now in
    let e : 4 * c.loop-k.k ≡ length b = omega arith in
    rw (e, drop-length b) at c.loop-k.invariant
