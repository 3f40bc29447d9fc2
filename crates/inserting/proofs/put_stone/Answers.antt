-- `inserting::put_stone` meets its contract. Assumes nothing.
use mathlib.Core.Path.{sym, ap, ◌∙◌}
use mathlib.Core.Bool.{Bool}
use Prim.Native.Nat.{ℕ}
use Rattle.board.specs.declared.Position.{Position}
use Rattle.inserting.specs.Inner.Inserting.{put_stone}
use Rattle.inserting.proofs.put_stone.Goals as goal

abbrev sides : ℕ → ℕ → Position
sides m o = record { mover = m; opponent = o }

pub returns-then-theirs : goal.returns-then-theirs
returns-then-theirs c =
    let a = c.args in
    ap (sides a.position.mover) c.with.ensures ∙ ap (λ (x : Bool). put_stone x a.position a.p) (sym c.if-theirs.true)

pub returns : goal.returns
returns c =
    let a = c.args in
    ap (λ (m : ℕ). sides m a.position.opponent) c.with-2.ensures
    ∙ ap (λ (x : Bool). put_stone x a.position a.p) (sym c.if-theirs.false)
