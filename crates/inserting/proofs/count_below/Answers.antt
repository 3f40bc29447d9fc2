-- `inserting::count_below` meets its contract. Assumes nothing.
use mathlib.Core.Path.{◌≡◌, sym, ap, ◌∙◌}
use Prim.Native.Nat.{ℕ, ◌-◌, ◌*◌, ◌%◌, ◌^◌, ◌<◌}
use native.Mathlib.Omega.{arith}
use lib.Bits.{bit_and, and_mask}
use lib.Pow.{pow_pos, split}
use Rattle.sets.specs.Sets.{members}
use Rattle.sets.proofs.Laws.{shl_one, members_ones, members_all}
use Rattle.inserting.proofs.count_below.Goals as goal

pub overflow_sub-p : goal.overflow_sub-p
overflow_sub-p c = omega (arith, shl_one c.args.p (omega arith), pow_pos c.args.p)

pub returns : goal.returns
returns c =
    let s : ℕ = c.args.s in
    let p : ℕ = c.args.p in
    let e : bit_and s (1 * 2 ^ p % 2 ^ 32 - 1) ≡ s % 2 ^ p = ap (λ (x : ℕ). bit_and s (x - 1)) (shl_one p (omega arith)) ∙ and_mask s p in
    let l : s % 2 ^ p < 2 ^ 32 = omega (arith, c.ranges.s.fits, split s p) in
    c.count.ensures ∙ ap (λ (x : ℕ). members x 32) e ∙ members_all (s % 2 ^ p) 32 l ∙ sym (members_ones s p)
