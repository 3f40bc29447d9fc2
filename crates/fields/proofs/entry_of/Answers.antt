-- `fields::entry_of` meets its contract: `-` on more than one ring, else what the call answers. Assumes nothing.
use mathlib.Core.Path.{◌≡◌, refl, sym, ◌∙◌}
use Prim.Native.Nat.{ℕ}
use Rattle.std.specs.Prelude.{Result, Ok, Err, None}
use Rattle.answers.specs.declared.Refusal.{Refusal}
use Rattle.answers.specs.Answers.{looked}
use Rattle.fields.specs.Fields.{field_of, entry_field}
use Rattle.fields.proofs.Fields.{answer_shown, absent_elsewhere}
use Rattle.fields.proofs.entry_of.Goals as goal

pub returns-then-is_absent : goal.returns-then-is_absent
unfolding entry_field
returns-then-is_absent c = absent_elsewhere c.args.rings _ (sym c.if-is_absent.true ∙ c.is_absent.ensures)

turned_back : (a : Result ℕ Refusal) → ((x : ℕ) → a ≡ Ok x → ⊥) → None ≡ field_of (looked a)
turned_back (Ok x) h = absurd (h x refl)
turned_back (Err e) h = refl

pub returns-in_default : goal.returns-in_default
unfolding entry_field
returns-in_default c =
    let n = c.args.rings in
    turned_back c.lookup-answer.result c.in_default.not-Ok
    ∙ answer_shown looked n c.if-is_absent.false c.is_absent.ensures c.lookup-answer.ensures refl

pub returns : goal.returns
unfolding entry_field
returns c =
    let n = c.args.rings in
    answer_shown looked n c.if-is_absent.false c.is_absent.ensures c.lookup-answer.ensures c.in-Ok.is
