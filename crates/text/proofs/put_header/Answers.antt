-- `text::put_header` meets its contract: the bytes are the header's. Assumes nothing.
use mathlib.Core.Path.{sym, ap}
use Prim.Native.Nat.{◌≤◌}
use native.Mathlib.Omega.{arith}
use lib.ListN.{length}
use lib.Seq.{length-sets, length-take-le}
use Rattle.text.specs.Text.{header}
use Rattle.text.proofs.put_header.Goals as goal

pub returns : goal.returns
unfolding header
returns c =
    let p = c.put.ensures in
    let l : c.put.result ≤ length c.put.new.out =
    omega (arith, p.place, ap length p.buffer, length-sets c.args.out.now 0 header) in record { place = omega (arith, p.place); bound = (l, sym (length-take-le _ _ l)); buffer = p.buffer }
