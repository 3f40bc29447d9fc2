-- `frame_reading::any_outside` meets its contract. Assumes nothing.
use Rattle.std.proofs.Common.{◌≡◌, ℕ, rules, true, false}
use Rattle.std.proofs.lemmas.Iterator.{cases_from_any, YieldsList-from_slice}
use borrow.Author.Tests.{tests}
use Rattle.frames.specs.Frame.{outside}
use Rattle.frame_reading.proofs.Sets.{answered}
use Rattle.frame_reading.proofs.any_outside.Goals as goal

pub returns : goal.returns
returns c =
    answered c.any.result c.args.frame.now
    (cases_from_any _ _ _ (λ (x : ℕ). outside x ≡ true) (λ (x : ℕ). outside x ≡ false) c.any.ensures.ran
    (YieldsList-from_slice c.args.frame.now (cc)) (λ x q k. search (rules, tests)) (λ x q k. search (rules, tests)))
