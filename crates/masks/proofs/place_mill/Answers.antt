-- `masks::place_mill` meets its contract. Assumes nothing.
use mathlib.Core.Path.{refl, ap₂, ◌∙◌}
use Prim.Native.Nat.{ℕ}
use native.Mathlib.Omega.{arith}
use Rattle.geometry.proofs.Geometry.{mill_points}
use Rattle.masks.specs.Inner.Placing.{placed, mill_placed}
use Rattle.masks.proofs.place_mill.Goals as goal

pub place-requires : goal.place-requires
place-requires c = omega (arith, c.mill_point.ensures, (mill_points c.args.mill c.requires).0)

pub place-requires-2 : goal.place-requires-2
place-requires-2 c = omega (arith, c.mill_point-2.ensures, (mill_points c.args.mill c.requires).1)

pub place-requires-3 : goal.place-requires-3
place-requires-3 c = omega (arith, c.mill_point-3.ensures, (mill_points c.args.mill c.requires).2)

pub returns : goal.returns
unfolding mill_placed
returns c =
    let e = c.mill_set-s.ensures in
    let first = c.place.ensures ∙ ap₂ (λ (p x : ℕ). placed p x c.args.masks.now) c.mill_point.ensures e in
    let second = c.place-2.ensures ∙ ap₂ (λ (p x : ℕ). placed p x c.place.new.masks) c.mill_point-2.ensures e in
    let third = c.place-3.ensures ∙ ap₂ (λ (p x : ℕ). placed p x c.place-2.new.masks) c.mill_point-3.ensures e in
    third ∙ rw (second, first) refl
