-- `settling::find_mark` meets its contract. Assumes nothing.
use mathlib.Core.Path.{◌≡◌, subst}
use Prim.Native.Nat.{ℕ, ◌+◌, ◌-◌}
use native.Mathlib.Omega.{arith}
use Rattle.game.specs.Game.{void_entry}
use Rattle.finding.specs.Inner.Finding.{First, is_at}
use Rattle.settling.proofs.Judged.{mark_first}
use borrow.Author.Rules.{rules}
use Rattle.settling.proofs.find_mark.Goals as goal

pub returns : goal.returns
returns c =
    let a = c.args in
    let t = a.table in
    let e : t.own.end ≡ t.own.start + (t.own.end - t.own.start) = omega (arith, c.requires.0) in
    mark_first t a.tablebase.now a.r (t.own.end - t.own.start) c.find.result
    (subst (λ (n : ℕ). First (is_at void_entry a.tablebase.now) (t.own.start + a.r) n c.find.result) e c.find.ensures)
