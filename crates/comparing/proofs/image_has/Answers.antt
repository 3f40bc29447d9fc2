-- `comparing::image_has` meets its contract. Assumes nothing.
use mathlib.Core.Path.{ap, ◌∙◌}
use Prim.Native.Nat.{ℕ, ◌+◌, ◌<◌}
use native.Mathlib.Omega.{arith}
use lib.Dec.{eqb}
use lib.ListN.{get_or, length}
use Rattle.ranking.specs.Rank.{rank}
use Rattle.classing.proofs.Written.{image_rank}
use Rattle.comparing.specs.Inner.Compared.{image_has}
use Rattle.comparing.proofs.image_has.Goals as goal
use Rattle.comparing.proofs.image_has.Goals.{After-rank-r}

-- the image stands in the table
within : (c : After-rank-r) → c.args.at.start + c.rank-r.result < length c.args.tablebase.now
within c =
    let a = c.args in
    let p = c.requires.0 in
    omega (arith, p.room, c.rank-r.ensures, image_rank a.rings p.small a.g c.requires.1 a.at.position c.image_of-turned.result p.on c.image_of-turned.ensures.0)

pub overflow_add-result : goal.overflow_add-result
overflow_add-result c = omega (arith, within (goal.at.overflow_add-result c).After-rank-r)

pub offset_bounds-tablebase-start : goal.offset_bounds-tablebase-start
offset_bounds-tablebase-start c = omega (arith, within (goal.at.offset_bounds-tablebase-start c).After-rank-r)

pub bounds-tablebase-start : goal.bounds-tablebase-start
bounds-tablebase-start c = within (goal.at.bounds-tablebase-start c).After-rank-r

pub returns : goal.returns
unfolding image_has
returns c =
    let a = c.args in
    ap (λ (r : ℕ). eqb (get_or a.tablebase.now (a.at.start + r) 0) a.at.entry) (c.rank-r.ensures ∙ ap rank c.image_of-turned.ensures.0)
