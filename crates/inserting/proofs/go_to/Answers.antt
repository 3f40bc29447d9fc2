-- `inserting::go_to` meets its contract. The invariant: the walk stands, and has not passed the point. Assumes nothing.
use native.Mathlib.Omega.{arith}
use Rattle.inserting.proofs.go_to.Goals as goal

pub pass-now-requires : goal.pass-now-requires
pass-now-requires c =
    record { rankable = c.requires.rankable; at_lt_points = (omega arith, c.loop-now.invariant.1) }
