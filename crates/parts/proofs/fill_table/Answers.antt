-- `parts::fill_table` meets its contract: the part that is lent is v throughout, and the rest is as it was. Assumes nothing.
use mathlib.Core.Path.{ap, ◌∙◌}
use mathlib.Core.List.{List, ◌++◌}
use Prim.Native.Nat.{ℕ, ◌-◌}
use lib.ListN.{take, replicate}
use borrow.Rule.Slice.PartMut.{put_mid, mid_len, Post-is}
use Rattle.parts.specs.Parts.{filled_part}
use Rattle.parts.proofs.fill_table.Goals as goal

pub returns : goal.returns
unfolding filled_part
returns c =
    let xs : List ℕ = c.args.tablebase.now in
    let a : ℕ = c.args.part.start in
    let e : ℕ = c.args.part.end in
    ap (put_mid a (e - a) xs) (c.fill.ensures.after (λ y h. h) ∙ ap (λ (n : ℕ). replicate n c.args.v) (mid_len a e xs c.requires.1))
    ∙ ap (λ (l : List ℕ). take a xs ++ (replicate (e - a) c.args.v ++ l)) (Post-is a e xs c.requires.0)
