-- `deciding::is_open` meets its contract. Assumes nothing.
use mathlib.Core.Path.{refl}
use Rattle.deciding.specs.Inner.Open.{is_open}
use Rattle.deciding.proofs.is_open.Goals as goal

pub returns : goal.returns
unfolding is_open
returns c = refl
