-- `fields::move_of` meets its contract: `-` on more than one ring, else what the call answers. Assumes nothing.
use mathlib.Core.Path.{◌≡◌, refl, sym, ◌∙◌}
use Rattle.std.specs.Prelude.{Result, Ok, Err, None}
use Rattle.answers.specs.declared.Refusal.{Refusal}
use Rattle.answers.specs.declared.BestMove.{BestMove}
use Rattle.answers.specs.Answers.{chosen}
use Rattle.fields.specs.Fields.{field_of, move_field}
use Rattle.fields.proofs.Fields.{answer_shown, absent_elsewhere}
use Rattle.fields.proofs.move_of.Goals as goal

pub returns-then-is_absent : goal.returns-then-is_absent
unfolding move_field
returns-then-is_absent c = absent_elsewhere c.args.rings _ (sym c.if-is_absent.true ∙ c.is_absent.ensures)

turned_back : (a : Result BestMove Refusal) → ((x : BestMove) → a ≡ Ok x → ⊥) → None ≡ field_of (chosen a)
turned_back (Ok x) h = absurd (h x refl)
turned_back (Err e) h = refl

pub returns-in_default : goal.returns-in_default
unfolding move_field
returns-in_default c =
    let n = c.args.rings in
    turned_back c.best_move-answer.result c.in_default.not-Ok
    ∙ answer_shown chosen n c.if-is_absent.false c.is_absent.ensures c.best_move-answer.ensures refl

pub returns : goal.returns
unfolding move_field
returns c =
    let n = c.args.rings in
    answer_shown chosen n c.if-is_absent.false c.is_absent.ensures c.best_move-answer.ensures c.in-Ok.is
