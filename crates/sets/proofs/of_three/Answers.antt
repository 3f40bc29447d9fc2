-- `sets::of_three` meets its contract. Assumes nothing.
use mathlib.Core.Path.{sym, ap, ◌∙◌}
use Prim.Native.Nat.{ℕ}
use Rattle.sets.specs.Sets.{with}
use Rattle.sets.proofs.Elements.{from_three}
use Rattle.sets.proofs.of_three.Goals as goal

pub returns : goal.returns
returns c =
    c.with-3.ensures
    ∙ ap (λ (m : ℕ). with m c.args.c) (c.with-2.ensures ∙ ap (λ (m : ℕ). with m c.args.b) c.with.ensures)
    ∙ sym (from_three c.args.a c.args.b c.args.c)
