-- `listing::stones_in` meets its contract. Assumes nothing.
use mathlib.Core.Path.{◌≡◌, sym, ap, ◌∙◌}
use Prim.Native.Nat.{ℕ}
use native.Mathlib.Omega.{arith}
use lib.ListN.{length}
use borrow.Author.Rules.{rules}
use Rattle.sets.specs.Sets.{members}
use Rattle.sets.proofs.Laws.{members_le}
use Rattle.sets.proofs.Elements.{length_elements, elements_none}
use Rattle.listing.proofs.stones_in.Goals as goal

-- no members of none
none : members 0 32 ≡ 0
none = sym (length_elements 32 0) ∙ ap length (elements_none 32)

pub returns-then-stones-eq0 : goal.returns-then-stones-eq0
returns-then-stones-eq0 c =
    let e : 0 ≡ members c.without-stones.result 32 = sym (ap (λ (s : ℕ). members s 32) c.if-stones-eq0.true ∙ none) in
    (e ∙ ap (λ (s : ℕ). members s 32) c.without-stones.ensures, omega arith)

pub returns : goal.returns
returns c =
    let e = c.count.ensures in
    (e ∙ ap (λ (s : ℕ). members s 32) c.without-stones.ensures, omega (arith, e, members_le c.without-stones.result 32))
