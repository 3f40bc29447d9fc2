-- `text::put_refused` meets its contract: the word, then the number. Assumes nothing.
use Rattle.std.specs.Prelude.{Some}
use native.Mathlib.Omega.{arith}
use Rattle.lists.proofs.Writing.{writing_none, part_written, last_written}
use Rattle.text.specs.Text.{line_feed, item, refused_word, refused_line}
use Rattle.text.proofs.put_refused.Goals as goal

pub returns : goal.returns
unfolding refused_line
returns c =
    let a = c.args in
    let n = item (Some a.number) line_feed in
    let w = part_written refused_word n (writing_none a.out.now a.at (refused_line a.number)) c.put-next.ensures.place c.put-next.ensures.buffer in
    let e = c.put_item.ensures in
    let v = last_written n w e.place e.buffer in record { place = v.0; bound = omega (arith, c.put-next.ensures.place, e.bound); buffer = v.1 }
