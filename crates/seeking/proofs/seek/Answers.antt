-- `seeking::seek` meets its contract. Assumes nothing.
use native.Mathlib.Omega.{arith}
use borrow.Author.Rules.{rules}
use Rattle.seeking.proofs.seek.Goals as goal

pub advance-requires : goal.advance-requires
advance-requires c =
    record { points_bound = (omega (arith, c.requires.rings_bound.0), c.if-known-r.true, c.requires.rings_bound.1); position_value = c.requires.stands (omega (arith, c.if-known-r.true)) }
