-- `solver::all_maps` meets its contract. Assumes nothing.
use mathlib.Core.Path.{refl}
use mathlib.Core.Logic.{inl, inr}
use Rattle.solver.proofs.all_maps.Goals as goal

pub returns-then-rings-lt2 : goal.returns-then-rings-lt2
returns-then-rings-lt2 c = inr (inl refl)

pub returns : goal.returns
returns c = inr (inr refl)
