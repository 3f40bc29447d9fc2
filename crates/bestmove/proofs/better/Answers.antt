-- `bestmove::better` meets its contract. Assumes nothing.
use native.Mathlib.Omega.{arith}
use borrow.Author.Tests.{lt-ltb, le-ltb}
use Rattle.bestmove.specs.Inner.Worth.{worth}
use Rattle.bestmove.proofs.better.Goals as goal

pub returns-then-worth : goal.returns-then-worth
returns-then-worth c =
    let a = c.args in
    rw (lt-ltb (worth a.first.entry) (worth a.second.entry) (omega (arith, c.if-worth.true, c.worth-2.ensures, c.worth.ensures)))

pub returns : goal.returns
returns c =
    let a = c.args in
    rw (le-ltb (worth a.first.entry) (worth a.second.entry) (omega (arith, c.if-worth.false, c.worth-2.ensures, c.worth.ensures)))
