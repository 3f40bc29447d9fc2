-- `classing::write_images` meets its contract. The invariant: the images so far are written. Assumes nothing.
use mathlib.Core.Path.{ap, ◌∙◌}
use Prim.Native.Nat.{◌*◌}
use native.Mathlib.Omega.{arith}
use Rattle.ranking.specs.Rank.{rank}
use Rattle.board.specs.Board.{board_of}
use Rattle.classing.specs.Inner.Classes.{images_written}
use Rattle.classing.proofs.Written.{image_rank, none_written, one_written}
use Rattle.classing.proofs.write_images.Goals as goal

pub loop-g-init : goal.loop-g-init
loop-g-init c =
    let a = c.args in none_written a.maps.rings a.part.start (board_of (8 * a.maps.rings) a.position) a.entry a.tablebase.now

pub write_entry-requires : goal.write_entry-requires
write_entry-requires c =
    let a = c.args in
    let p = c.requires.imaging in
    let t = c.loop-g-test.true in
    let e = image_rank a.maps.rings p.small c.loop-g.g (omega (arith, p.few, t)) a.position c.image_of-turned.result p.on c.image_of-turned.ensures.0 in
    (omega (arith, e, c.requires.in_table.whole, c.rank-r.ensures), omega (arith, c.requires.in_table.within, c.loop-g.auto.tablebase))

pub loop-g-preserved : goal.loop-g-preserved
loop-g-preserved c =
    let a = c.args in
    c.write_entry.ensures
    ∙ one_written a.maps.rings a.part.start (board_of (8 * a.maps.rings) a.position) a.entry a.tablebase.now c.loop-g.g c.loop-g.tablebase c.loop-g.invariant
    c.rank-r.result (c.rank-r.ensures ∙ ap rank c.image_of-turned.ensures.0)

pub returns : goal.returns
returns c =
    let a = c.args in
    c.loop-g.invariant ∙ ap (images_written a.maps.rings a.part.start (board_of (8 * a.maps.rings) a.position) a.entry a.tablebase.now) (omega arith)
