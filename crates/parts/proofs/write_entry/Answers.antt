-- `parts::write_entry` meets its contract: the entry in the part that is lent, and nothing else. Assumes nothing.
use mathlib.Core.Path.{ap, ◌∙◌}
use Prim.Native.Nat.{◌-◌}
use native.Mathlib.Omega.{arith}
use borrow.Rule.Slice.PartMut.{put_mid, mid_len, set_mid_at}
use Rattle.parts.proofs.write_entry.Goals as goal

pub returns : goal.returns
returns c =
    let a = c.args in
    let l = mid_len a.part.start a.part.end a.tablebase.now c.requires.1 in
    ap (put_mid a.part.start (a.part.end - a.part.start) a.tablebase.now) c.write.ensures
    ∙ set_mid_at a.part.start (a.part.end - a.part.start) a.r a.tablebase.now a.v (omega (arith, l, c.requires.0))
