-- `board_refusals::rings_wrong` meets its contract. Assumes nothing.
use mathlib.Core.Path.{refl}
use Rattle.board_refusals.proofs.rings_wrong.Goals as goal

pub returns : goal.returns
returns c = refl
