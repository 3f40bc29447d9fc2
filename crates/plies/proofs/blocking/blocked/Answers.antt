-- `plies::blocking::blocked` meets its contract. Assumes nothing.
use mathlib.Core.Path.{◌≡◌, refl, ap, ◌∙◌}
use mathlib.Core.Bool.{true, false}
use Prim.Native.Nat.{ℕ}
use Rattle.sets.specs.Sets.{bit, without}
use Rattle.sets.specs.Inner.Taken.{Taken}
use Rattle.sets.proofs.Least.{taken}
use Rattle.sets.proofs.Elements.{bit_low}
use Rattle.sets.proofs.Passing.{Sought, sought_none, sought_more, sought_found, sought_all}
use Rattle.plies.proofs.Movable.{movable, stone_stuck, stone_free, none_movable}
use Rattle.plies.proofs.OnPositions.{mover_small}
use Rattle.plies.proofs.StoneMoves.{mover_fits}
use Rattle.plies.proofs.blocking.blocked.Goals as goal
use Rattle.plies.proofs.blocking.blocked.Goals.{After-lowest-from}

-- the stone taken, and the rest
step : (c : After-lowest-from) (rest : ℕ) → rest ≡ without c.loop-left.left c.lowest-from.result
    → Taken c.loop-left.left c.lowest-from.result rest
step c rest f =
    let e = c.lowest-from.ensures.0 in
    taken c.loop-left.left c.lowest-from.result rest c.loop-left.invariant.within c.loop-left-test.true e (f ∙ ap (without c.loop-left.left) e)

-- it is one of the mover's
own : (c : After-lowest-from) → bit c.args.position.mover c.lowest-from.result ≡ 1
own c =
    c.loop-left.invariant.among c.lowest-from.result (step c (without c.loop-left.left c.lowest-from.result) refl).member

pub loop-left-init : goal.loop-left-init
loop-left-init c =
    sought_none _ c.args.position.mover (mover_fits c.args.rings c.args.position c.requires.placed)

pub lowest-from-requires : goal.lowest-from-requires
lowest-from-requires c = c.loop-left-test.true

pub destinations-requires : goal.destinations-requires
destinations-requires c =
    record { playable = c.requires; from_bound = bit_low 24 c.args.position.mover c.lowest-from.result (mover_small c.args.rings c.args.position c.requires.placed) (own (goal.at.destinations-requires c).After-lowest-from) }

pub returns-then-destinations-ne0 : goal.returns-then-destinations-ne0
returns-then-destinations-ne0 c =
    let a = c.args in
    none_movable a.rings a.position c.requires.placed true
    (sought_found _ a.position.mover c.loop-left.left c.lowest-from.result _ c.loop-left.invariant (step (goal.at.returns-then-destinations-ne0 c).After-lowest-from _ refl)
    (stone_free a.rings a.position c.requires.placed c.lowest-from.result c.destinations.result c.destinations.ensures
    c.if-destinations-ne0.true))

pub without-left-requires : goal.without-left-requires
without-left-requires c = c.lowest-from.ensures.1

pub loop-left-smaller : goal.loop-left-smaller
loop-left-smaller c =
    (step (goal.at.loop-left-smaller c).After-lowest-from c.without-left.result c.without-left.ensures).less

pub loop-left-preserved : goal.loop-left-preserved
loop-left-preserved c =
    let a = c.args in
    sought_more _ a.position.mover c.loop-left.left c.lowest-from.result c.without-left.result c.loop-left.invariant
    (step (goal.at.loop-left-preserved c).After-lowest-from c.without-left.result c.without-left.ensures)
    (stone_stuck a.rings a.position c.requires.placed c.lowest-from.result c.destinations.result c.destinations.ensures
    c.if-destinations-ne0.false)

pub returns : goal.returns
returns c =
    let a = c.args in
    none_movable a.rings a.position c.requires.placed false (sought_all _ a.position.mover c.loop-left.left c.loop-left.invariant c.loop-left-test.false)
