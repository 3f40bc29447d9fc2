-- `text::put_decimal` meets its contract: the digits that `io::decimal` makes are the definition's. Assumes nothing.
use mathlib.Core.Path.{◌≡◌, ap, ◌∙◌}
use mathlib.Core.List.{List}
use Prim.Native.Nat.{ℕ, ◌+◌, ◌≤◌}
use native.Mathlib.Omega.{arith}
use lib.ListN.{length, take}
use lib.Seq.{sets}
use Rattle.text.specs.Text.{decimal}
use Rattle.text.proofs.Digits.{decimal_is, fewest_small}
use Rattle.text.proofs.put_decimal.Goals as goal

pub put-requires : goal.put-requires
put-requires c =
    let d = c.decimal-count.ensures in
    omega (arith, d.in_bounds.1, fewest_small c.args.n c.decimal-count.result (omega arith) d.len)

pub returns : goal.returns
returns c =
    let d = c.decimal-count.ensures in
    let k = c.decimal-count.result in
    let e : take k c.decimal-count.new.out ≡ decimal c.args.n = d.digits ∙ decimal_is c.args.n k d.len in
    let b : k ≤ 20 = fewest_small c.args.n k (omega arith) d.len in
    let p = c.put.ensures in record { place = p.place ∙ ap (λ (l : List ℕ). c.args.at + length l) e; bound = omega (arith, p.place, d.in_bounds.1); buffer = p.buffer ∙ ap (sets c.args.out.now c.args.at) e }
