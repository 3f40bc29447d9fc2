-- `second::waves` ends: each wave is of a greater depth. Assumes nothing.
use Rattle.std.proofs.Common.{◌-◌}
use Rattle.second.proofs.waves.Given as goal

abbrev pub decreases-waves : goal.decreases-waves
decreases-waves l = 65533 - l.depth
