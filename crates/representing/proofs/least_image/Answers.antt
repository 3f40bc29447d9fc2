-- `representing::least_image` meets its contract. The invariant: the least image so far, and its rank. Assumes nothing.
use mathlib.Core.Path.{◌≡◌, sym, ap, ◌∙◌, subst}
use mathlib.Core.List.{List}
use Prim.Native.Nat.{ℕ}
use native.Mathlib.Numerals.{add-one}
use native.Mathlib.Omega.{arith}
use Rattle.board.specs.Board.{Values}
use Rattle.ranking.specs.Rank.{rank}
use Rattle.symmetry.specs.Symmetries.{symmetries, image}
use Rattle.symmetry.specs.Representative.{in_use, least_image}
use Rattle.symmetry.proofs.Images.{image_values}
use Rattle.symmetry.proofs.Least.{least_first, least_lower, least_kept}
use Rattle.representing.proofs.least_image.Goals as goal
use Rattle.representing.proofs.least_image.Goals.{then-rank-least, else-rank-least}

pub loop-g-init : goal.loop-g-init
loop-g-init c =
    let a = c.args in
    (sym (least_first a.rings a.board), c.rank_in_use-least.ensures)

pub rank_in_use-rank-requires : goal.rank_in_use-rank-requires
rank_in_use-rank-requires c =
    let a = c.args in (c.requires.0, subst Values (sym c.image-next.ensures) (image_values a.rings c.loop-g.g a.board c.requires.1))

pub loop-g-preserved : goal.loop-g-preserved
loop-g-preserved c =
    let a = c.args in
    let g : ℕ = c.loop-g.g in
    let e : c.rank_in_use-rank.result ≡ rank (in_use a.rings (image a.rings g a.board)) =
    c.rank_in_use-rank.ensures ∙ ap (λ (w : List ℕ). rank (in_use a.rings w)) c.image-next.ensures in
    let l : c.loop-g.least ≡ rank (in_use a.rings (least_image a.rings a.board g)) =
    c.loop-g.invariant.1 ∙ ap (λ (w : List ℕ). rank (in_use a.rings w)) c.loop-g.invariant.0 in
    let next = ap (least_image a.rings a.board) (sym (add-one g)) in
    elim c.if-rank-least.branch [
      | then-rank-least w ↦ (
        w.best-is ∙ c.image-next.ensures ∙ sym (least_lower a.rings a.board g (omega arith)) ∙ next,
        w.least-is ∙ c.rank_in_use-rank.ensures ∙ ap (λ (w : List ℕ). rank (in_use a.rings w)) (sym w.best-is),
      )
      | else-rank-least w ↦ (
        w.best-is ∙ c.loop-g.invariant.0 ∙ sym (least_kept a.rings a.board g (omega arith)) ∙ next,
        w.least-is ∙ c.loop-g.invariant.1 ∙ ap (λ (w : List ℕ). rank (in_use a.rings w)) (sym w.best-is),
      )
    ]

pub returns : goal.returns
returns c =
    let a = c.args in
    let e : c.loop-g.g ≡ symmetries = omega arith in
    c.loop-g.invariant.0 ∙ ap (least_image a.rings a.board) e
