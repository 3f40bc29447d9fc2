-- What an answer says of the depth: laws of `deep_of`. Assumes nothing.
use mathlib.Core.Path.{◌≡◌, refl, ap}
use mathlib.Core.Bool.{true, false, false≢true}
use Rattle.std.specs.Prelude.{Result, Ok, Err}
use Rattle.std.specs.Result.{IsErr}
use Rattle.filling.specs.declared.TooDeep.{TooDeep}
use Rattle.filling.specs.Inner.Solve.{deep_of}

pub deep_error : (r : Result (Unit {0}) TooDeep) → IsErr r → deep_of r ≡ true
deep_error (Ok v) h = absurd (false≢true h)
deep_error (Err e) h = refl

pub is_filled : {r : Result (Unit {0}) TooDeep} {v : Unit {0}} → r ≡ Ok v → deep_of r ≡ false
is_filled e = ap deep_of e

pub is_deep : {r : Result (Unit {0}) TooDeep} {d : TooDeep} → r ≡ Err d → deep_of r ≡ true
is_deep e = ap deep_of e
