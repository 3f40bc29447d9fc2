-- `imaging::rings::ring_image` meets its contract: the table's entry. Assumes nothing.
use Rattle.imaging.proofs.RingTable.{image_is}
use Rattle.imaging.proofs.rings.ring_image.Goals as goal

pub returns : goal.returns
returns c = image_is c.args.g c.args.s c.requires c.ranges.s.fits
