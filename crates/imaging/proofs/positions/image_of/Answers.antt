-- `imaging::positions::image_of` meets its contract. Assumes nothing.
use Rattle.imaging.proofs.Assembled.{within_all}
use Rattle.imaging.proofs.OnSets.{board_image, image_on_board}
use Rattle.imaging.proofs.positions.image_of.Goals as goal

pub image_set-requires : goal.image_set-requires
image_set-requires c =
    let p = c.requires in (p.0, p.1, p.2.mover_within, within_all c.args.rings _ p.0 p.2.mover_within)

pub image_set-requires-2 : goal.image_set-requires-2
image_set-requires-2 c =
    let p = c.requires in (p.0, p.1, p.2.opponent_within, within_all c.args.rings _ p.0 p.2.opponent_within)

pub returns : goal.returns
returns c =
    let a = c.args in
    let p = c.requires in (
      board_image a.rings p.0 a.g p.1 a.position _ c.image_set.ensures c.image_set-2.ensures,
      image_on_board a.rings p.0 a.g p.1 a.position _ c.image_set.ensures c.image_set-2.ensures p.2,
    )
