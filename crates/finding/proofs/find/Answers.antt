-- `finding::find` meets its contract. The invariant: the value does not occur in what is passed. Assumes nothing.
use Rattle.std.proofs.Common.{◌≡◌, ℕ, subst, arith, eq-eqb, ne_eqb}
use Rattle.finding.specs.Inner.Finding.{NoneBefore, is_at}
use Rattle.finding.proofs.Firsts.{passed_one, first_here, first_none}
use Rattle.finding.proofs.find.Goals as goal

pub returns-then-tablebase-i : goal.returns-then-tablebase-i
returns-then-tablebase-i c = first_here c.loop-i.invariant (eq-eqb _ _ c.if-tablebase-i.true)

pub loop-i-preserved : goal.loop-i-preserved
loop-i-preserved c = passed_one c.loop-i.invariant (ne_eqb _ _ c.if-tablebase-i.false) c.loop-i-test.true

pub returns : goal.returns
returns c =
    let a = c.args in
    let e : c.loop-i.i ≡ a.end = omega (arith, c.loop-i-test.false, c.loop-i.invariant.high) in
    first_none (subst (λ (i : ℕ). NoneBefore (is_at a.v a.tablebase.now) a.from a.end i) e c.loop-i.invariant) (omega arith)
