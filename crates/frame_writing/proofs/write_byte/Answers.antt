-- `frame_writing::write_byte` meets its contract. Assumes nothing.
use mathlib.Core.Path.{◌≡◌, ap, ap₂, ◌∙◌}
use Prim.Native.Nat.{ℕ, suc, ◌+◌, ◌/◌, ◌%◌}
use native.Mathlib.Omega.{arith}
use lib.ListN.{set, length-set}
use Rattle.frames.specs.Frame.{character_of, spelled}
use Rattle.frame_writing.proofs.write_byte.Goals as goal

pub bounds-target-at-2 : goal.bounds-target-at-2
bounds-target-at-2 c = simp length-set (omega arith)

pub returns : goal.returns
unfolding spelled
returns c =
    let a = c.args in
    let t = a.target.now in
    let e : a.at + 1 ≡ suc a.at = omega arith in
    ap₂ (λ (x y : ℕ). set (set t a.at x) (a.at + 1) y) c.character_of.ensures c.character_of-2.ensures
    ∙ ap (λ (i : ℕ). set (set t a.at (character_of (a.b / 16))) i (character_of (a.b % 16))) e
