-- `representing::representative_rank` meets its contract: the rank of the least image of the whole board. Assumes nothing.
use mathlib.Core.Path.{sym, ap, ◌∙◌, subst}
use mathlib.Core.List.{List}
use Prim.Native.Nat.{ℕ}
use Rattle.board.specs.Board.{Values}
use Rattle.ranking.specs.Rank.{rank}
use Rattle.symmetry.specs.Symmetries.{symmetries}
use Rattle.symmetry.specs.Representative.{in_use, least_image, representative}
use Rattle.symmetry.proofs.Images.{whole_values}
use Rattle.symmetry.proofs.Least.{least_values}
use Rattle.representing.proofs.representative_rank.Goals as goal
use Rattle.representing.proofs.representative_rank.Goals.{After-whole-points}

all-values : (c : After-whole-points) → Values c.whole-points.result
all-values c = subst Values (sym c.whole-points.ensures) (whole_values c.args.board.now c.requires.2)

pub least_image-least-requires : goal.least_image-least-requires
least_image-least-requires c =
    (c.requires.0, all-values (goal.at.least_image-least-requires c).After-whole-points)

pub rank_in_use-requires : goal.rank_in_use-requires
rank_in_use-requires c =
    let v = least_values c.args.rings c.whole-points.result symmetries (all-values (goal.at.rank_in_use-requires c).After-whole-points) in (c.requires.0, subst Values (sym c.least_image-least.ensures) v)

pub returns : goal.returns
unfolding representative
returns c =
    let a = c.args in
    c.rank_in_use.ensures ∙ ap (λ (w : List ℕ). rank (in_use a.rings w)) (c.least_image-least.ensures
    ∙ ap (λ (w : List ℕ). least_image a.rings w symmetries) c.whole-points.ensures)
