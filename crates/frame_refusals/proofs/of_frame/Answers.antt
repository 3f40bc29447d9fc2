-- `frame_refusals::of_frame` meets its contract: each return is a row of the frame's picks, with the rows before it passed. Assumes nothing.
use mathlib.Core.Path.{◌≡◌, sym, ap, ◌∙◌}
use mathlib.Core.Bool.{false, not}
use mathlib.Core.List.{List}
use native.Mathlib.Omega.{arith}
use lib.ListN.{length}
use borrow.Author.Tests.{eq-eqb, ne_eqb}
use Rattle.frames.specs.Frame.{frame_wrong, frame_length, rings_in, board_in}
use Rattle.refusals.specs.Refusals.{Picked, refusal_table, picked_rows}
use Rattle.refusals.specs.Conditions.{frame_picks, rings_wrong, frame_length_wrong, value_wrong}
use Rattle.refusals.proofs.FirstRefusal.{meets, passes}
use Rattle.refusals.proofs.Conditions.{rings_right}
use Rattle.refusals.proofs.FrameConditions.{three_wrong, three_right}
use Rattle.frame_refusals.proofs.of_frame.Goals as goal
use Rattle.frame_refusals.proofs.of_frame.Goals.{After-frame_length, Else-frame-frame_length, Else-frame_wrong, Else-points_with-ne0, Else-rings_wrong, Start}

-- the rows that the call picks
rows : (s : Start) → List Picked
rows s = picked_rows refusal_table (frame_picks s.args.frame.now)

-- what each test passed says
characters-passed : (c : Else-frame_wrong) → frame_wrong c.args.frame.now ≡ false
characters-passed c = sym c.frame_wrong.ensures ∙ c.if-frame_wrong.false

rings-passed : (c : Else-rings_wrong) → rings_wrong (rings_in c.args.frame.now) ≡ false
rings-passed c = sym (ap rings_wrong c.rings_of-rings.ensures) ∙ sym c.rings_wrong.ensures ∙ c.if-rings_wrong.false

-- the length that the frame is held to
length-asked : (c : After-frame_length)
    → c.frame_length.result ≡ frame_length (rings_in c.args.frame.now)
length-asked c = c.frame_length.ensures ∙ ap frame_length c.rings_of-rings.ensures

length-passed : (c : Else-frame-frame_length)
    → frame_length_wrong (rings_in c.args.frame.now)
    (length c.args.frame.now)
    ≡ false
length-passed c = ap not (eq-eqb _ _ (c.if-frame-frame_length.false ∙ length-asked (goal.at.points_with-requires c).After-frame_length))

value-passed : (c : Else-points_with-ne0)
    → value_wrong (board_in c.args.frame.now) ≡ false
value-passed c = three_right _ (sym c.points_with.ensures ∙ c.if-points_with-ne0.false)

pub returns-then-frame_wrong : goal.returns-then-frame_wrong
unfolding rows
returns-then-frame_wrong c =
    meets (rows (goal.at.returns-then-frame_wrong c).Start) 0 tt (sym c.frame_wrong.ensures ∙ c.if-frame_wrong.true)

pub rings_of-rings-requires : goal.rings_of-rings-requires
rings_of-rings-requires c = characters-passed (goal.at.rings_of-rings-requires c).Else-frame_wrong

pub returns-then-rings_wrong : goal.returns-then-rings_wrong
unfolding rows
returns-then-rings_wrong c =
    meets (rows (goal.at.returns-then-rings_wrong c).Start) 1 (characters-passed (goal.at.returns-then-rings_wrong c).Else-frame_wrong, tt)
    (sym (ap rings_wrong c.rings_of-rings.ensures) ∙ sym c.rings_wrong.ensures ∙ c.if-rings_wrong.true)

pub returns-then-frame-frame_length : goal.returns-then-frame-frame_length
unfolding rows
returns-then-frame-frame_length c =
    meets (rows (goal.at.returns-then-frame-frame_length c).Start) 2 (characters-passed (goal.at.returns-then-frame-frame_length c).Else-frame_wrong, (rings-passed (goal.at.returns-then-frame-frame_length c).Else-rings_wrong, tt))
    (ap not (ne_eqb _ _ (λ e. c.if-frame-frame_length.true (e ∙ sym (length-asked (goal.at.returns-then-frame-frame_length c).After-frame_length)))))

pub points_with-requires : goal.points_with-requires
points_with-requires c =
    let r = rings_right (rings_in c.args.frame.now) (rings-passed (goal.at.points_with-requires c).Else-rings_wrong) in
    (characters-passed (goal.at.points_with-requires c).Else-frame_wrong, omega (arith, c.if-frame-frame_length.false, length-asked (goal.at.points_with-requires c).After-frame_length, r))

pub returns-then-points_with-ne0 : goal.returns-then-points_with-ne0
unfolding rows
returns-then-points_with-ne0 c =
    meets (rows (goal.at.returns-then-points_with-ne0 c).Start) 3 (characters-passed (goal.at.returns-then-points_with-ne0 c).Else-frame_wrong, (rings-passed (goal.at.returns-then-points_with-ne0 c).Else-rings_wrong, (length-passed (goal.at.returns-then-points_with-ne0 c).Else-frame-frame_length, tt)))
    (three_wrong _ (λ e. c.if-points_with-ne0.true (c.points_with.ensures ∙ e)))

pub returns : goal.returns
unfolding rows
returns c =
    passes (rows (goal.at.returns c).Start) (characters-passed (goal.at.returns c).Else-frame_wrong, (rings-passed (goal.at.returns c).Else-rings_wrong, (length-passed (goal.at.returns c).Else-frame-frame_length, (value-passed (goal.at.returns c).Else-points_with-ne0, tt))))
