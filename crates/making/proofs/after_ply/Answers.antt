-- `making::after_ply` meets its contract. Assumes nothing.
use mathlib.Core.Path.{sym, ap, ap₂, ◌∙◌}
use Prim.Native.Nat.{ℕ, ◌/◌, ◌%◌}
use native.Mathlib.Omega.{arith}
use Rattle.sets.specs.Sets.{with}
use Rattle.board.specs.declared.Position.{Position}
use Rattle.making.proofs.Numbers.{after_sets}
use borrow.Author.Rules.{rules}
use Rattle.making.proofs.after_ply.Goals as goal

pub without-requires-2 : goal.without-requires-2
without-requires-2 c = omega (arith, c.requires.makeable.from_low, c.requires.placed.small)

pub returns : goal.returns
returns c =
    let a = c.args in
    ap₂ (λ (m o : ℕ). sides m o) c.without.ensures
    (c.with.ensures ∙ ap (λ (x : ℕ). with x (a.number / 32 % 32)) c.without-2.ensures)
    ∙ sym (after_sets a.rings a.position c.requires.placed a.number c.requires.makeable)
  where
    sides : ℕ → ℕ → Position
    sides m o = record { mover = m; opponent = o }
