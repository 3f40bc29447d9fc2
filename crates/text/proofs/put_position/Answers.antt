-- `text::put_position` meets its contract: six items, one after the other. Assumes nothing.
use Rattle.std.specs.Prelude.{Some}
use mathlib.Core.List.{◌++◌}
use native.Mathlib.Omega.{arith}
use Rattle.lists.proofs.Writing.{writing_none, part_written, last_written}
use Rattle.text.specs.Text.{space, line_feed, item, position_line}
use Rattle.text.proofs.put_position.Goals as goal

pub returns : goal.returns
unfolding position_line
returns c =
    let a = c.args in
    let s = a.standing in
    let e1 = c.put_item-second.ensures in
    let e2 = c.put_item-third.ensures in
    let e3 = c.put_item-fourth.ensures in
    let e4 = c.put_item-fifth.ensures in
    let e5 = c.put_item-sixth.ensures in
    let e6 = c.put_item.ensures in
    let r6 = item a.best line_feed in
    let r5 = item a.entry space ++ r6 in
    let r4 = item (Some s.rank) space ++ r5 in
    let r3 = item (Some s.opponent) space ++ r4 in
    let r2 = item (Some s.mover) space ++ r3 in
    let w0 = writing_none a.out.now a.at (item (Some s.rings) space ++ r2) in
    let w1 = part_written (item (Some s.rings) space) r2 w0 e1.place e1.buffer in
    let w2 = part_written (item (Some s.mover) space) r3 w1 e2.place e2.buffer in
    let w3 = part_written (item (Some s.opponent) space) r4 w2 e3.place e3.buffer in
    let w4 = part_written (item (Some s.rank) space) r5 w3 e4.place e4.buffer in
    let w5 = part_written (item a.entry space) r6 w4 e5.place e5.buffer in
    let v = last_written r6 w5 e6.place e6.buffer in record { place = v.0; bound = omega (arith, e1.bound, e2.bound, e3.bound, e4.bound, e5.bound, e6.bound); buffer = v.1 }
