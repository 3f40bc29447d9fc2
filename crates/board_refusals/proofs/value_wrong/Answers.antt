-- `board_refusals::value_wrong` meets its contract. Assumes nothing.
use Rattle.std.proofs.Common.{◌≡◌, ◌<◌, ℕ, rules, true, false}
use Rattle.std.proofs.lemmas.Iterator.{cases_from_any, YieldsList-from_slice}
use borrow.Author.Tests.{tests}
use lib.Dec.{ltb}
use Rattle.refusals.proofs.Conditions.{values_searched}
use Rattle.board_refusals.proofs.value_wrong.Goals as goal

pub returns : goal.returns
returns c =
    values_searched c.any.result c.args.board.now
    (cases_from_any _ _ _ (λ (x : ℕ). ltb 2 x ≡ true) (λ (x : ℕ). ltb 2 x ≡ false) c.any.ensures.ran
    (YieldsList-from_slice c.args.board.now (cc)) (λ x q k. search (rules, tests)) (λ x q k. search (rules, tests)))
