-- `inserting::go_to` meets its contract. The invariant: the walk stands, and has not passed the point. Assumes nothing.
use Prim.Native.Nat.{◌-◌, ◌≤◌}
use Rattle.board.specs.Board.{board_of}
use Rattle.inserting.specs.Inner.Inserting.{Inserting}
use Rattle.inserting.proofs.go_to.Given as goal

abbrev pub invariant-loop-now : goal.invariant-loop-now
invariant-loop-now l = (l.now.at ≤ l.to) × Inserting (board_of l.points l.position) l.theirs l.now

abbrev pub decreases-loop-now : goal.decreases-loop-now
decreases-loop-now l = l.to - l.now.at
