-- `comparing::find_decided` meets its contract. The invariant: what is passed are draws. Assumes nothing.
use mathlib.Core.Path.{◌≡◌, ap, subst}
use mathlib.Core.Bool.{not}
use Prim.Native.Nat.{ℕ}
use native.Mathlib.Omega.{arith}
use borrow.Author.Tests.{eq-eqb, ne_eqb}
use Rattle.finding.specs.Inner.Finding.{NoneBefore}
use Rattle.finding.proofs.Firsts.{passed_none, passed_one, first_here, first_none}
use Rattle.comparing.specs.Inner.Compared.{is_decided}
use Rattle.comparing.proofs.find_decided.Goals as goal

pub loop-i-init : goal.loop-i-init
loop-i-init c =
    passed_none (is_decided c.args.start c.args.tablebase.now) c.args.r c.args.size c.requires.0

pub returns-then-tablebase-start : goal.returns-then-tablebase-start
returns-then-tablebase-start c = first_here c.loop-i.invariant (ap not (ne_eqb _ _ c.if-tablebase-start.true))

pub loop-i-preserved : goal.loop-i-preserved
loop-i-preserved c =
    passed_one c.loop-i.invariant (ap not (eq-eqb _ _ c.if-tablebase-start.false)) c.loop-i-test.true

pub returns : goal.returns
returns c =
    let a = c.args in
    let e : c.loop-i.i ≡ a.size = omega (arith, c.loop-i-test.false, c.loop-i.invariant.high) in
    first_none (subst (λ (i : ℕ). NoneBefore (is_decided a.start a.tablebase.now) a.r a.size i) e c.loop-i.invariant) (omega arith)
