-- `bestmove::worth` meets its contract. Assumes nothing.
use mathlib.Core.Path.{sym}
use native.Mathlib.Omega.{arith}
use Rattle.game.proofs.Entries.{lost_of, won_of}
use Rattle.bestmove.proofs.Worths.{worth_won, worth_lost, worth_other}
use Rattle.bestmove.proofs.worth.Goals as goal

pub returns-then-e-ge-VOID_WIDE : goal.returns-then-e-ge-VOID_WIDE
returns-then-e-ge-VOID_WIDE c = sym (worth_other c.args.entry c.if-e-ge-VOID_WIDE.true)

pub returns-then-e-eq1 : goal.returns-then-e-eq1
returns-then-e-eq1 c =
    sym (worth_won c.args.entry (won_of c.if-e-eq1.true (omega (arith, c.if-e-ge-VOID_WIDE.false))))

pub returns : goal.returns
returns c =
    sym (worth_lost c.args.entry (lost_of (omega (arith, c.if-e-eq1.false)) (omega (arith, c.if-e-ge-VOID_WIDE.false))))
