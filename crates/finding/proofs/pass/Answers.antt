-- `finding::pass` meets its contract. The invariant: the value does not occur in what is passed. Assumes nothing.
use Rattle.std.proofs.Common.{sym, ◌∙◌, arith}
use Rattle.finding.specs.Inner.Finding.{is_at}
use Rattle.finding.proofs.Occurs.{occurs_none}
use Rattle.finding.proofs.Firsts.{passed_none, passed_more}
use Rattle.finding.proofs.pass.Goals as goal

pub loop-i-init : goal.loop-i-init
loop-i-init c = passed_none (is_at c.args.v c.args.tablebase.now) c.args.from c.args.end c.requires.0

pub in_sixteen-requires : goal.in_sixteen-requires
in_sixteen-requires c = omega (arith, c.loop-i-test.true, c.loop-i.invariant.high, c.requires.1)

pub returns-then-in_sixteen : goal.returns-then-in_sixteen
returns-then-in_sixteen c = c.loop-i.invariant

pub overflow_add-i : goal.overflow_add-i
overflow_add-i c = omega (arith, c.loop-i-test.true, c.loop-i.invariant.high)

pub loop-i-smaller : goal.loop-i-smaller
loop-i-smaller c = omega (arith, c.loop-i-test.true)

pub loop-i-preserved : goal.loop-i-preserved
loop-i-preserved c =
    let a = c.args in
    passed_more 16 c.loop-i.invariant (occurs_none a.v a.tablebase.now c.loop-i.i 16 (sym c.in_sixteen.ensures ∙ c.if-in_sixteen.false))
    (omega (arith, c.loop-i-test.true, c.loop-i.invariant.high))

pub returns : goal.returns
returns c = c.loop-i.invariant
