-- `plies::choices::removals` meets its contract. Assumes nothing.
use mathlib.Core.Path.{◌≡◌, sym, ap, ◌∙◌}
use mathlib.Core.Bool.{Bool, true, false}
use Prim.Native.Nat.{ℕ}
use native.Mathlib.Omega.{arith}
use Rattle.sets.specs.Sets.{has, with, without}
use Rattle.rules.specs.Ply.{in_mill}
use Rattle.plies.proofs.OnPositions.{from_low, removed_none, removed_one, removed_idle}
use borrow.Author.Rules.{rules}
use Rattle.plies.proofs.choices.removals.Goals as goal
use Rattle.plies.proofs.choices.removals.Goals.{After-in_mill}

-- whether the slide closes a mill
closed : (m : After-in_mill) (b : Bool) → m.in_mill.result ≡ b
    → in_mill m.args.rings (λ q. has
    (with (without m.args.position.mover m.args.from)
    m.args.to) q) m.args.to ≡ b
closed m b e =
    let a = m.args in
    sym (m.in_mill.ensures ∙ ap (λ (s : ℕ). in_mill a.rings (λ q. has s q) a.to)
    (m.with-moved.ensures ∙ ap (λ (s : ℕ). with s a.to) m.without.ensures)) ∙ e

pub without-requires : goal.without-requires
without-requires c =
    let a = c.args in
    omega (arith, from_low a.rings a.position c.requires.playable.placed a.from a.to c.requires.slide, c.requires.playable.placed.small)

pub returns-then-taken-ne0 : goal.returns-then-taken-ne0
returns-then-taken-ne0 c =
    let a = c.args in
    let e = c.removable-taken.ensures in
    e ∙ removed_one a.rings a.position c.requires.playable.placed a.from a.to c.requires.slide a.edition
    (closed (goal.at.returns-then-taken-ne0 c).After-in_mill true c.if-in_mill.true)
    (λ z. c.if-taken-ne0.true (e ∙ z))

pub returns-else-taken-ne0 : goal.returns-else-taken-ne0
returns-else-taken-ne0 c =
    let a = c.args in
    removed_idle a.rings a.position c.requires.playable.placed a.from a.to c.requires.slide a.edition
    (closed (goal.at.returns-else-taken-ne0 c).After-in_mill true c.if-in_mill.true)
    (sym c.removable-taken.ensures ∙ c.if-taken-ne0.false)

pub returns-else-in_mill : goal.returns-else-in_mill
returns-else-in_mill c =
    let a = c.args in
    removed_none a.rings a.position c.requires.playable.placed a.from a.to c.requires.slide a.edition (closed (goal.at.returns-else-in_mill c).After-in_mill false c.if-in_mill.false)
