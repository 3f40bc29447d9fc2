-- `lines::feed` meets its contract: one byte after the other. Assumes nothing.
use mathlib.Core.Path.{sym, ◌∙◌}
use Prim.Native.Nat.{◌≤◌}
use native.Mathlib.Omega.{arith}
use lib.ListN.{length}
use lib.Seq.{length-take-le}
use Rattle.lines.proofs.Blocks.{feeding_none, feeding_more, feeding_all}
use Rattle.lines.proofs.feed.Goals as goal

pub loop-i-init : goal.loop-i-init
loop-i-init c =
    (omega arith, c.requires.held_len.0, omega arith, feeding_none c.args.tablebase.now c.args.block.now _ c.args.out.now)

pub step-fed-requires : goal.step-fed-requires
step-fed-requires c =
    let w = c.loop-i.invariant.3 in record { held_len = (c.loop-i.invariant.1, c.loop-i.invariant.2); most_bytes_in_bounds = omega (arith, w.within, w.done.long) }

pub loop-i-preserved : goal.loop-i-preserved
loop-i-preserved c =
    let e = c.step-fed.ensures in (
      omega arith,
      e.held.0,
      e.held.1,
      feeding_more c.args.tablebase.now c.loop-i.invariant.3 _ _ _ (omega arith) e.kept (e.place, (e.bound, e.buffer)),
    )

pub shape_of-held : goal.shape_of-held
shape_of-held c = c.loop-i.invariant.1 ∙ sym c.requires.held_len.0

pub shape_of-out : goal.shape_of-out
shape_of-out c = c.loop-i.invariant.3.done.long

pub returns : goal.returns
returns c =
    let w = c.loop-i.invariant.3 in
    let f = feeding_all c.args.tablebase.now w (omega arith) in
    let l : c.loop-i.used ≤ length c.loop-i.out = omega (arith, w.within, w.done.long) in record { held = (c.loop-i.invariant.1, c.loop-i.invariant.2); kept = f.0; place = f.1; bound = (l, sym (length-take-le c.loop-i.used c.loop-i.out l)); buffer = f.2 }
